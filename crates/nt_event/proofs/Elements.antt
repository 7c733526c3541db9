-- Elements of lists: of a list with one more, of what a test keeps, of a reversed list, and what a search finds.
use Rattle.std.proofs.Common.{arith, inl, inr, subst}
use Rattle.std.proofs.lemmas.List.{reverse-append}
use Rattle.std.proofs.lemmas.List.Elements.{Contains-append_cases, Contains-append_right, Contains-get_or, Contains-push_cases}
use Rattle.std.specs.List.{Contains}
use Rattle.std.specs.Option.{option_or}
use Rattle.std.specs.Prelude.{Bool, List, None, Option, Some, [], cond, false, filter, find, map, refl, reverse, true, ◌∷◌, ◌≡◌, ◌⊎◌}

-- the empty list contains nothing: from an element of it anything follows
pub contains_none : {X A : Type 0} (x : X) → Contains [] x → A
contains_none x h = absurd (omega (arith, h.1))

-- a list contains its first element
pub contains_here : {X : Type 0} (x : X) (xs : List X) → Contains (x ∷ xs) x
contains_here x xs = Contains-get_or (x ∷ xs) 0 x (omega arith)

-- what a list contains is also in the list with one more element in front
pub contains_there : {X : Type 0} (y : X) (xs : List X) (x : X) → Contains xs x → Contains (y ∷ xs) x
contains_there y xs x h = Contains-append_right (y ∷ []) xs x h

-- an element of a list with one more in front is that one or is in the rest
pub contains_cases : {X : Type 0} (y : X) (xs : List X) (x : X) → Contains (y ∷ xs) x → (y ≡ x) ⊎ Contains xs x
contains_cases y xs x h =
    elim (Contains-append_cases (y ∷ []) xs x h) [
      | inl here ↦ elim (Contains-push_cases [] y x here) [
        | inl absent ↦ contains_none x absent
        | inr e ↦ inl e
      ]
      | inr there ↦ inr there
    ]

-- what a test keeps are the elements that pass it
pub kept_contains : {X : Type 0} (test : X → Bool) (xs : List X) (x : X) → Contains (filter test xs) x → Contains xs x × (test x ≡ true)
kept_contains test [] x h = contains_none x h
kept_contains {X} test (y ∷ xs) x h =
    go (test y) refl h (λ k. let r = kept_contains test xs x k in (contains_there y xs x r.0, r.1))
  where
    go : (b : Bool) → test y ≡ b → Contains (cond b (y ∷ filter test xs) (filter test xs)) x →
        (Contains (filter test xs) x → Contains (y ∷ xs) x × (test x ≡ true)) → Contains (y ∷ xs) x × (test x ≡ true)
    go false e k tail = tail k
    go true e k tail =
        elim (contains_cases y (filter test xs) x k) [
          | inl same ↦ (subst (Contains (y ∷ xs)) same (contains_here y xs), subst (λ (z : X). test z ≡ true) same e)
          | inr there ↦ tail there
        ]

-- an element that passes a test is in what a filter by the test keeps
pub contains_kept : {X : Type 0} (test : X → Bool) (xs : List X) (x : X) → Contains xs x → test x ≡ true → Contains (filter test xs) x
contains_kept test [] x h t = h
contains_kept {X} test (y ∷ xs) x h t = go (test y) refl (λ k. contains_kept test xs x k t)
  where
    go : (b : Bool) → test y ≡ b → (Contains xs x → Contains (filter test xs) x) → Contains (cond b (y ∷ filter test xs) (filter test xs)) x
    go true e ih =
        elim (contains_cases y xs x h) [
          | inl same ↦ subst (Contains (y ∷ filter test xs)) same (contains_here y (filter test xs))
          | inr there ↦ contains_there y (filter test xs) x (ih there)
        ]
    go false e ih =
        elim (contains_cases y xs x h) [
          | inl same ↦ let k : test x ≡ false = subst (λ (z : X). test z ≡ false) same e in cc
          | inr there ↦ ih there
        ]

-- what the reversed list contains is in the list
pub reversed_contains : {X : Type 0} (xs : List X) (x : X) → Contains (reverse xs) x → Contains xs x
reversed_contains [] x h = h
reversed_contains {X} (y ∷ xs) x h =
    elim (Contains-append_cases (reverse xs) (y ∷ []) x (subst (λ (ys : List X). Contains ys x) (reverse-append (y ∷ []) xs) h)) [
      | inl there ↦ contains_there y xs x (reversed_contains xs x there)
      | inr here ↦ elim (contains_cases y [] x here) [
        | inl same ↦ subst (Contains (y ∷ xs)) same (contains_here y xs)
        | inr absent ↦ contains_none x absent
      ]
    ]

-- what a search finds is an element that passes the test
pub found_contains : {X : Type 0} (test : X → Bool) (xs : List X) (x : X) → find test xs ≡ Some x → Contains xs x × (test x ≡ true)
found_contains test [] x h = cc
found_contains {X} test (y ∷ xs) x h =
    go (test y) refl h (λ k. let r = found_contains test xs x k in (contains_there y xs x r.0, r.1))
  where
    go : (b : Bool) → test y ≡ b → cond b (Some y) (find test xs) ≡ Some x → (find test xs ≡ Some x → Contains (y ∷ xs) x × (test x ≡ true)) →
        Contains (y ∷ xs) x × (test x ≡ true)
    go true e k ih = let same : y ≡ x = cc in (subst (Contains (y ∷ xs)) same (contains_here y xs), subst (λ (z : X). test z ≡ true) same e)
    go false e k ih = ih k

-- an answer of the first or of the second
pub or_gives : {X : Type 0} (a b : Option X) (x : X) → option_or a b ≡ Some x → (a ≡ Some x) ⊎ (b ≡ Some x)
or_gives None b x h = inr h
or_gives (Some y) b x h = inl h

-- the image of an element is in the mapped list
pub contains_mapped : {X Y : Type 0} (f : X → Y) (xs : List X) (x : X) → Contains xs x → Contains (map f xs) (f x)
contains_mapped f [] x h = contains_none x h
contains_mapped f (y ∷ xs) x h =
    elim (contains_cases y xs x h) [
      | inl same ↦ subst (λ z. Contains (map f (y ∷ xs)) (f z)) same (contains_here (f y) (map f xs))
      | inr there ↦ contains_there (f y) (map f xs) (f x) (contains_mapped f xs x there)
    ]

-- each element of a mapped list is the image of an element of the list
pub mapped_contains : {X Y : Type 0} (f : X → Y) (xs : List X) (z : Y) → Contains (map f xs) z → (x : X) × Contains xs x × (f x ≡ z)
mapped_contains f [] z h = contains_none z h
mapped_contains f (y ∷ xs) z h =
    elim (contains_cases (f y) (map f xs) z h) [
      | inl same ↦ (y, contains_here y xs, same)
      | inr there ↦ let r = mapped_contains f xs z there in (r.0, contains_there y xs r.0 r.1, r.2)
    ]
