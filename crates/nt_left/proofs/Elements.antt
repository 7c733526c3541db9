-- Elements of lists that are put one behind the other.
use Rattle.std.proofs.Common.{arith, inl, inr, subst, sym}
use Rattle.std.proofs.lemmas.Bool.{ltb-true}
use Rattle.std.proofs.lemmas.Bool.Decides.{nat_tests}
use Rattle.std.proofs.lemmas.List.Elements.{Contains-append_cases, Contains-append_left, Contains-append_right}
use Rattle.std.proofs.lemmas.List.{reverse-append}
use Rattle.std.specs.List.{Contains}
use Rattle.std.specs.Prelude.{Bool, Err, IfOk, List, None, Ok, Option, Result, Some, [], false, nat_lt, refl, suc, true, zero, ℕ, ◌++◌, ◌<◌, ◌∷◌, ◌≡◌, ◌⊎◌}
use Rattle.std.specs.Prelude.{reverse}
use Rattle.nt_event.proofs.Elements.{contains_cases, contains_here, contains_none, contains_there}
use Rattle.nt_left.specs.Lists.{along, as_list, joined}

-- the item, where there is one
pub in_item : {A : Type 0} (o : Option A) (x : A) → Contains (as_list o) x → o ≡ Some x
in_item None x h = contains_none x h
in_item (Some y) x h =
    elim (contains_cases y [] x h) [
      | inl same ↦ (let e : y ≡ x = same in cc)
      | inr none ↦ contains_none x none
    ]

-- an item that is there is in its list
pub item_in : {A : Type 0} (o : Option A) (x : A) → o ≡ Some x → Contains (as_list o) x
item_in {A} o x h = subst (λ (y : Option A). Contains (as_list y) x) (sym h) (contains_here x [])

-- an element of joined lists is one of a list among them
pub in_joined : {A : Type 0} (n : ℕ) (f : ℕ → List A) (x : A) → Contains (joined n f) x → (i : ℕ) × (i < n) × Contains (f i) x
in_joined zero f x h = contains_none x h
in_joined {A} (suc n) f x h =
    elim (Contains-append_cases (joined n f) (f n) x h) [
      | inl before ↦ (let r = in_joined n f x before in let low = r.1 in (r.0, omega (arith, low), r.2))
      | inr here ↦ (n, omega arith, here)
    ]

-- a number below n + 1 is n or below it
last_or_before : (i n : ℕ) → i < suc n → (i ≡ n) ⊎ (i < n)
last_or_before i n low = go (nat_lt i n) refl
  where
    go : (b : Bool) → nat_lt i n ≡ b → (i ≡ n) ⊎ (i < n)
    go true e = inr (ltb-true i n e)
    go false e = inl (grind (arith, nat_tests))

-- an element of a list among joined lists is one of theirs
pub joined_in : {A : Type 0} (n : ℕ) (f : ℕ → List A) (x : A) (i : ℕ) → i < n → Contains (f i) x → Contains (joined n f) x
joined_in zero f x i low h = absurd (omega (arith, low))
joined_in {A} (suc n) f x i low h = go (last_or_before i n low) (λ less. joined_in n f x i less h)
  where
    go : (i ≡ n) ⊎ (i < n) → (i < n → Contains (joined n f) x) → Contains (joined n f ++ f n) x
    go (inl same) before = Contains-append_right (joined n f) (f n) x (subst (λ (k : ℕ). Contains (f k) x) same h)
    go (inr less) before = Contains-append_left (joined n f) (f n) x (before less)

-- an element of the lists along a list is one of an element's list
pub in_along : {A B : Type 0} (f : A → List B) (xs : List A) (y : B) → Contains (along f xs) y → (x : A) × Contains xs x × Contains (f x) y
in_along f [] y h = contains_none y h
in_along f (x ∷ xs) y h =
    elim (Contains-append_cases (f x) (along f xs) y h) [
      | inl here ↦ (x, contains_here x xs, here)
      | inr there ↦ (let r = in_along f xs y there in (r.0, contains_there x xs r.0 r.1, r.2))
    ]

-- an element of an element's list is one of the lists along the list
pub along_in : {A B : Type 0} (f : A → List B) (xs : List A) (y : B) (x : A) → Contains xs x → Contains (f x) y → Contains (along f xs) y
along_in f [] y x h k = contains_none x h
along_in {A} {B} f (z ∷ xs) y x h k =
    elim (contains_cases z xs x h) [
      | inl same ↦ Contains-append_left (f z) (along f xs) y (subst (λ (w : A). Contains (f w) y) (sym same) k)
      | inr there ↦ Contains-append_right (f z) (along f xs) y (along_in f xs y x there k)
    ]

-- what is in a list is in the reversed list
pub contains_reversed : {X : Type 0} (xs : List X) (x : X) → Contains xs x → Contains (reverse xs) x
contains_reversed [] x h = contains_none x h
contains_reversed {X} (y ∷ xs) x h =
    subst (λ (ys : List X). Contains ys x) (sym (reverse-append (y ∷ []) xs))
    (elim (contains_cases y xs x h) [
      | inl same ↦ Contains-append_right (reverse xs) (y ∷ []) x (subst (λ (w : X). Contains (y ∷ []) w) same (contains_here y []))
      | inr there ↦ Contains-append_left (reverse xs) (y ∷ []) x (contains_reversed xs x there)
    ])

-- what holds of the value in an Ok gives what follows from it
pub where_ok : {A E : Type 0} (P Q : A → Type 0) (r : Result A E) → ((a : A) → P a → Q a) → IfOk r P → IfOk r Q
where_ok P Q (Ok a) f h = f a h
where_ok P Q (Err e) f h = h
