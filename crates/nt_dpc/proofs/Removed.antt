-- A list without the one element that passes a test, and the place of the first that does.
use Rattle.std.proofs.Common.{◌≡◌, ◌≤◌, ◌<◌, ℕ, Bool, true, false, cond, List, [], ◌∷◌, Some, None, ltb, ◌+◌, length, get_or, not}
use Rattle.std.proofs.Common.{refl, sym, ap, arith, suc, zero}
use Rattle.std.specs.List.{filter, list_any, position, position_or_len, remove}
use Rattle.std.proofs.lemmas.Bool.{ltb-false}

-- if no element passes a test, filtering those that pass out leaves the list as it was
pub none_passes : {X : Type 0} (p : X → Bool) (xs : List X) → length (filter p xs) ≡ 0 → filter (λ x. not (p x)) xs ≡ xs
none_passes p [] h = refl
none_passes p (x ∷ xs) h = step p x xs (none_passes p xs) h (p x) refl
  where
    step : {X : Type 0} (p : X → Bool) (x : X) (xs : List X) → (length (filter p xs) ≡ 0 → filter (λ y. not (p y)) xs ≡ xs) → length (filter p (x ∷ xs)) ≡ 0 →
        (b : Bool) → p x ≡ b → filter (λ y. not (p y)) (x ∷ xs) ≡ x ∷ xs
    step p x xs rest h true k = absurd (let bad : length (x ∷ filter p xs) ≡ 0 = rw k at h in omega arith)
    step {X} p x xs rest h false k = rw k (ap (λ (ys : List X). x ∷ ys) (rest (rw k at h)))

-- if only the element at a place passes a test, removing this place is filtering by the test's negation
pub remove-only : {X : Type 0} (p : X → Bool) (xs : List X) (i : ℕ) → i < length xs → ((d : X) → p (get_or xs i d) ≡ true) →
    ((k : ℕ) (d : X) → k < i → p (get_or xs k d) ≡ false) → length (filter p xs) ≤ 1 → remove xs i ≡ filter (λ x. not (p x)) xs
remove-only p [] i l here before one = absurd (omega arith)
remove-only {X} p (x ∷ xs) zero l here before one =
    let h : p x ≡ true = here x in
    let s : length (x ∷ filter p xs) ≤ 1 = rw h at one in
    rw h (sym (none_passes p xs (omega arith)))
remove-only {X} p (x ∷ xs) (suc i) l here before one =
    let h : p x ≡ false = before 0 x (omega arith) in
    let s : length (filter p xs) ≤ 1 = rw h at one in
    rw h (ap (λ (ys : List X). x ∷ ys) (remove-only p xs i (omega arith) (λ d. here d) (λ k d m. before (suc k) d (omega arith)) s))

-- ---- a place where none is

-- case: one element in front; if the position of a test is no place of the list, no element passes it
step_none : {X : Type 0} (p : X → Bool) (x : X) (xs : List X) → (length xs ≤ position_or_len p xs → list_any p xs ≡ false) →
    length (x ∷ xs) ≤ position_or_len p (x ∷ xs) → (b : Bool) → p x ≡ b → list_any p (x ∷ xs) ≡ false
step_none p x xs rest h true k = absurd (let bad : length (x ∷ xs) ≤ 0 = rw k at h in omega arith)
step_none p x xs rest h false k =
    rw k (rest (let far : length (x ∷ xs) ≤ 1 + position_or_len p xs = rw k at h in omega arith))

-- if the position of a test is not before a list's end, no element of the list passes it
past_all : {X : Type 0} (p : X → Bool) (xs : List X) → length xs ≤ position_or_len p xs → list_any p xs ≡ false
past_all p [] h = refl
past_all p (x ∷ xs) h = step_none p x xs (past_all p xs) h (p x) refl

-- if a test has no position in a list, no element passes it
pub list_any-position : {X : Type 0} (p : X → Bool) (xs : List X) → position p xs ≡ None → list_any p xs ≡ false
list_any-position p xs h =
    past_all p xs (ltb-false (position_or_len p xs) (length xs) (not_some (ltb (position_or_len p xs) (length xs)) (position_or_len p xs) h))
  where
    not_some : (b : Bool) (i : ℕ) → cond b (Some i) None ≡ None → b ≡ false
    not_some true i h = cc
    not_some false i h = refl
