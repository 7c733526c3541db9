-- The first of a part of a list whose numbers fall: the High one of greatest number, else the one of least number.
use Rattle.std.proofs.Common.{◌≡◌, ◌≤◌, ◌<◌, ◌⊎◌, Bool, true, false, List, [], ◌∷◌, Option, Some, None, ℕ, ap, arith, cond, inl, inr, refl, reverse, sym, ◌∙◌}
use Rattle.nt_event.specs.declared.inserts.Insert.{Insert}
use Rattle.std.specs.List.{find}
use Rattle.std.specs.Option.{option_or}
use Rattle.std.proofs.lemmas.Bool.{false≢true}
use Rattle.std.proofs.lemmas.List.{reverse-append}
use Rattle.std.proofs.lemmas.List.Folds.{find-append}

abbrev pub Stands : Insert → List Insert → Type 0
Stands x [] = ⊥
Stands x (y ∷ ys) = (x ≡ y) ⊎ Stands x ys

-- every number is below n
abbrev pub AllBelow : ℕ → List Insert → Type 0
AllBelow n [] = Unit {0}
AllBelow n (x ∷ xs) = (x.number < n) × AllBelow n xs

abbrev pub Falls : List Insert → Type 0
Falls [] = Unit {0}
Falls (x ∷ xs) = AllBelow x.number xs × Falls xs

-- an insert in a list whose numbers are all below a bound has a number below it
below_at : (n : ℕ) (xs : List Insert) (y : Insert) → AllBelow n xs → Stands y xs → y.number < n
below_at n [] y h at = absurd at
below_at n (x ∷ xs) y h (inl e) = rw (ap (λ (z : Insert). z.number) e) h.0
below_at n (x ∷ xs) y h (inr at) = below_at n xs y h.1 at

-- ---- what a find gives

-- if a search finds no insert, no insert of the list passes the test
pub find_none : (p : Insert → Bool) (xs : List Insert) (y : Insert) → find p xs ≡ None → Stands y xs → p y ≡ false
find_none p [] y h at = absurd at
find_none p (x ∷ xs) y h at = go p x xs y (find_none p xs y) h at (p x) refl
  where
    go : (p : Insert → Bool) (x : Insert) (xs : List Insert) (y : Insert) → (find p xs ≡ None → Stands y xs → p y ≡ false) → find p (x ∷ xs) ≡ None →
        Stands y (x ∷ xs) → (b : Bool) → p x ≡ b → p y ≡ false
    go p x xs y rest h at true k = absurd (let bad : Some x ≡ None = rw k at h in cc)
    go p x xs y rest h (inl e) false k = rw e k
    go p x xs y rest h (inr at) false k = rest (rw k at h) at

-- the insert that a search finds is in the list and passes the test
pub find_stands : (p : Insert → Bool) (xs : List Insert) (x : Insert) → find p xs ≡ Some x → Stands x xs × (p x ≡ true)
find_stands p [] x h = absurd (cc)
find_stands p (y ∷ xs) x h = go p y xs x (find_stands p xs x) h (p y) refl
  where
    go : (p : Insert → Bool) (y : Insert) (xs : List Insert) (x : Insert) → (find p xs ≡ Some x → Stands x xs × (p x ≡ true)) → find p (y ∷ xs) ≡ Some x →
        (b : Bool) → p y ≡ b → Stands x (y ∷ xs) × (p x ≡ true)
    go p y xs x rest h true k = let e : Some y ≡ Some x = rw k at h in let s : x ≡ y = cc in (inl s, rw s k)
    go p y xs x rest h false k = let r = rest (rw k at h) in (inr r.0, r.1)

-- the first one that passes has the greatest number of those that pass
pub find_greatest : (p : Insert → Bool) (xs : List Insert) (x y : Insert) → Falls xs → find p xs ≡ Some x → Stands y xs → p y ≡ true → y.number ≤ x.number
find_greatest p [] x y f h at t = absurd at
find_greatest p (z ∷ xs) x y f h at t = go p z xs x y f (find_greatest p xs x y f.1) h at t (p z) refl
  where
    go : (p : Insert → Bool) (z : Insert) (xs : List Insert) (x y : Insert) → Falls (z ∷ xs) →
        (find p xs ≡ Some x → Stands y xs → p y ≡ true → y.number ≤ x.number) → find p (z ∷ xs) ≡ Some x → Stands y (z ∷ xs) → p y ≡ true → (b : Bool) →
        p z ≡ b → y.number ≤ x.number
    go p z xs x y f rest h (inl e) t true k = let s : Some z ≡ Some x = rw k at h in let same : y ≡ x = cc in rw (ap (λ (w : Insert). w.number) same)
        (omega arith)
    go p z xs x y f rest h (inr at) t true k =
        let s : Some z ≡ Some x = rw k at h in
        let same : z ≡ x = cc in
        let n = ap (λ (w : Insert). w.number) same in omega (arith, n, below_at z.number xs y f.0 at)
    go p z xs x y f rest h (inl e) t false k = absurd (false≢true (sym k ∙ (rw e at t)))
    go p z xs x y f rest h (inr at) t false k = rest (rw k at h) at t

-- searching the reverse of a list with one more in front tries the rest first, that one last
find-reverse : (p : Insert → Bool) (z : Insert) (xs : List Insert) → find p (reverse (z ∷ xs)) ≡ option_or (find p (reverse xs)) (find p (z ∷ []))
find-reverse p z xs = rw (reverse-append (z ∷ []) xs) (find-append p (reverse xs) (z ∷ []))

-- the last one that passes stands in the list, and has the least number of those that pass
pub record IsLeast (p : Insert → Bool) (xs : List Insert) (x : Insert) : Type 0 where
  pub stands : Stands x xs
  pub passes : p x ≡ true
  pub least : (y : Insert) → Stands y xs → p y ≡ true → x.number ≤ y.number

-- nothing passes, or the last one that does has the least number
abbrev pub LastIsLeast : (p : Insert → Bool) → List Insert → Option Insert → Type 0
LastIsLeast p xs None = (y : Insert) → Stands y xs → p y ≡ false
LastIsLeast p xs (Some x) = IsLeast p xs x

-- if numbers fall along a list, the last insert that passes a test has the least number of those that do
pub find_last : (p : Insert → Bool) (xs : List Insert) → Falls xs → LastIsLeast p xs (find p (reverse xs))
find_last p [] f = λ y at. absurd at
find_last p (z ∷ xs) f = rw (find-reverse p z xs) (go p z xs f (find p (reverse xs)) (find_last p xs f.1) (p z) refl)
  where
    at_head : (p : Insert → Bool) (z : Insert) (xs : List Insert) → Falls (z ∷ xs) → ((y : Insert) → Stands y xs → p y ≡ false) → (b : Bool) → p z ≡ b →
        LastIsLeast p (z ∷ xs) (cond b (Some z) None)
    at_head p z xs f none true k = record {
      stands = inl refl;
      passes = k;
      least = λ y at t. elim at [ inl e ↦ rw (ap (λ (w : Insert). w.number) e) (omega arith) | inr later ↦ absurd (false≢true (sym (none y later) ∙ t)) ];
    }
    at_head p z xs f none false k = λ y at. elim at [ inl e ↦ rw e k | inr later ↦ none y later ]

    go : (p : Insert → Bool) (z : Insert) (xs : List Insert) → Falls (z ∷ xs) → (o : Option Insert) → LastIsLeast p xs o → (b : Bool) → p z ≡ b →
        LastIsLeast p (z ∷ xs) (option_or o (find p (z ∷ [])))
    go p z xs f (Some x) h b k = record {
      stands = inr h.stands;
      passes = h.passes;
      least = λ y at t. elim at [
        | inl e ↦ rw (ap (λ (w : Insert). w.number) e)
            (let l = below_at z.number xs x f.0 h.stands in omega arith)
        | inr later ↦ h.least y later t
      ];
    }
    go p z xs f None h b k = rw k (at_head p z xs f h b k)

-- what a find in the reversed list gives stands in the list
pub find_last_stands : (p : Insert → Bool) (xs : List Insert) (x : Insert) → find p (reverse xs) ≡ Some x → Stands x xs
find_last_stands p [] x h = absurd (cc)
find_last_stands p (z ∷ xs) x h =
    go p z xs x (find p (reverse xs)) (find_last_stands p xs x) (rw (find-reverse p z xs) at h)
  where
    at_head : (b : Bool) (z x : Insert) (xs : List Insert) → cond b (Some z) None ≡ Some x → Stands x (z ∷ xs)
    at_head true z x xs h = inl (cc)
    at_head false z x xs h = absurd (cc)

    go : (p : Insert → Bool) (z : Insert) (xs : List Insert) (x : Insert) (o : Option Insert) → (o ≡ Some x → Stands x xs) →
        option_or o (find p (z ∷ [])) ≡ Some x → Stands x (z ∷ xs)
    go p z xs x (Some y) rest h = inr (rest h)
    go p z xs x None rest h = at_head (p z) z x xs h
