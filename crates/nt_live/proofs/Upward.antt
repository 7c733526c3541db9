-- Lists of numbers that rise: those below a number are a beginning.
use Rattle.std.proofs.Common.{ap, arith, subst, sym, ⊎_elim, ◌∙◌}
use Rattle.std.proofs.lemmas.Bool.{cases_lt, le-ltb, lt-ltb}
use Rattle.std.specs.List.Sorted.{IsStrictlyIncreasing}
use Rattle.std.specs.Prelude.{Bool, Contains, List, [], get_or, if◌then◌else◌, nat_lt, refl, suc, ℕ, ◌++◌, ◌+◌, ◌<◌, ◌∷◌, ◌≡◌, ◌≤◌}
use Rattle.nt_mark.proofs.Sums.{first_or_rest, in_first, in_none, in_rest}

abbrev pub Ups : List ℕ → Type 0
Ups [] = Unit {0}
Ups (x ∷ []) = Unit {0}
Ups (x ∷ y ∷ ys) = (x < y) × Ups (y ∷ ys)

-- a strictly increasing list of numbers without its first is strictly increasing
rest_rises : (x : ℕ) (xs : List ℕ) → IsStrictlyIncreasing (x ∷ xs) → IsStrictlyIncreasing xs
rest_rises x xs h k l =
    let e : suc k + 1 ≡ suc (k + 1) = omega arith in
    subst (λ (j : ℕ). get_or (x ∷ xs) (suc k) 0 < get_or (x ∷ xs) j 0) e (h (suc k) (omega (arith, l)))

-- a strictly increasing list of numbers has each number below the next one
pub ups : (xs : List ℕ) → IsStrictlyIncreasing xs → Ups xs
ups [] h = tt
ups (x ∷ []) h = tt
ups (x ∷ y ∷ ys) h = (h 0 (omega arith), ups (y ∷ ys) (rest_rises x (y ∷ ys) h))

-- a rising list without its first rises
ups_rest : (x : ℕ) (xs : List ℕ) → Ups (x ∷ xs) → Ups xs
ups_rest x [] u = tt
ups_rest x (y ∷ ys) u = u.1

-- the first is below all that follow
above : (x : ℕ) (xs : List ℕ) → Ups (x ∷ xs) → (m : ℕ) → Contains xs m → x < m
above x [] u m h = absurd (in_none m h)
above x (y ∷ ys) u m h =
    let l = u.0 in
    ⊎_elim (λ e. omega (arith, l, e)) (λ r. let k = above y ys u.1 m r in omega (arith, l, k)) (first_or_rest y ys m h)

-- the numbers at the head that are below m
abbrev pub below : ℕ → List ℕ → List ℕ
below m [] = []
below m (x ∷ xs) = if nat_lt x m then (x ∷ below m xs) else []

-- if the first number of a list is below a bound, it is the first of those below the bound
below_yes : (m x : ℕ) (xs : List ℕ) → x < m → below m (x ∷ xs) ≡ x ∷ below m xs
below_yes m x xs h = ap (λ (b : Bool). if b then (x ∷ below m xs) else []) (lt-ltb x m h)

-- if the first number of a list is not below a bound, none are in the beginning below it
below_no : (m x : ℕ) (xs : List ℕ) → m ≤ x → below m (x ∷ xs) ≡ []
below_no m x xs h = ap (λ (b : Bool). if b then (x ∷ below m xs) else []) (le-ltb x m h)

-- no number of a list of numbers is below zero
pub below_zero : (xs : List ℕ) → below 0 xs ≡ []
below_zero [] = refl
below_zero (x ∷ xs) = below_no 0 x xs (omega arith)

-- if all numbers of a list are below a bound, the numbers at its head below the bound are the whole list
pub below_all : (m : ℕ) (xs : List ℕ) → ((x : ℕ) → Contains xs x → x < m) → below m xs ≡ xs
below_all m [] h = refl
below_all m (x ∷ xs) h =
    below_yes m x xs (h x (in_first x xs)) ∙ ap (λ (ys : List ℕ). x ∷ ys) (below_all m xs (λ y k. h y (in_rest x xs y k)))

-- one of the numbers is the last of those below the next
pub with_it : (m : ℕ) (xs : List ℕ) → Ups xs → Contains xs m → below (suc m) xs ≡ below m xs ++ m ∷ []
with_it m [] u h = absurd (in_none m h)
with_it m (x ∷ xs) u h = ⊎_elim here (λ r. later r (with_it m xs (ups_rest x xs u) r)) (first_or_rest x xs m h)
  where
    nothing : (ys : List ℕ) → Ups (x ∷ ys) → m ≡ x → below (suc m) ys ≡ []
    nothing [] u e = refl
    nothing (y ∷ ys) u e = let l = u.0 in below_no (suc m) y ys (omega (arith, l, e))

    here : m ≡ x → below (suc m) (x ∷ xs) ≡ below m (x ∷ xs) ++ m ∷ []
    here e =
        below_yes (suc m) x xs (omega (arith, e))
        ∙ (ap (λ (ys : List ℕ). x ∷ ys) (nothing xs u e)
        ∙ (ap (λ (z : ℕ). z ∷ []) (sym e)
        ∙ ap (λ (ys : List ℕ). ys ++ m ∷ []) (sym (below_no m x xs (omega (arith, e))))))

    later : Contains xs m → below (suc m) xs ≡ below m xs ++ m ∷ [] → below (suc m) (x ∷ xs) ≡ below m (x ∷ xs) ++ m ∷ []
    later r ih =
        let l = above x xs u m r in
        below_yes (suc m) x xs (omega (arith, l))
        ∙ (ap (λ (ys : List ℕ). x ∷ ys) ih ∙ ap (λ (ys : List ℕ). ys ++ m ∷ []) (sym (below_yes m x xs l)))

-- where m is none of the numbers, nothing is between
pub none_between : (m : ℕ) (xs : List ℕ) → (Contains xs m → ⊥) → below (suc m) xs ≡ below m xs
none_between m [] h = refl
none_between m (x ∷ xs) h = ⊎_elim
    (λ (l : x < m). below_yes (suc m) x xs (omega (arith, l))
    ∙ (ap (λ (ys : List ℕ). x ∷ ys) (none_between m xs (λ k. h (in_rest x xs m k))) ∙ sym (below_yes m x xs l)))
    (λ (g : m ≤ x). let ne = other in below_no (suc m) x xs (omega (arith, g, ne)) ∙ sym (below_no m x xs g))
    (cases_lt x m)
  where
    other : x ≡ m → ⊥
    other e = h (subst (Contains (x ∷ xs)) e (in_first x xs))
