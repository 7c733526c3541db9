-- Due keys that are put in and taken out: what stands there, and in which order.
use Rattle.std.proofs.Common.{get_or, ◌≡◌, ◌⊎◌, ◌<◌, ◌≤◌, ◌&&◌, ◌||◌, Bool, true, false, List, [], ◌∷◌, ℕ, ap, arith, cond, eqb, ltb, inl, inr}
use Rattle.std.proofs.Common.{length, refl, subst, suc, sym, zero, ◌∙◌}
use Rattle.nt_timer.specs.declared.due.DueKey.{DueKey}
use Rattle.nt_timer.specs.Due.{AreSorted, EachOnce, IsBefore, IsIn, is_before, is_of_key, place_in, place_of, placed, without}
use Rattle.std.specs.List.{AllByRecursion, IsDistinct, insert, list_any, remove}
use Rattle.std.proofs.lemmas.Bool.{and_cases, and_from, eq-eqb, lt-ltb, or_left, or_right, and_parts, cases_lt, eqb-false, eqb-true, ltb-false, ltb-true}
use Rattle.std.proofs.lemmas.Bool.{ne_eqb, or_cases, or_parts}
use Rattle.std.proofs.lemmas.Map.Keys.{IsDistinct-cons}
use Rattle.std.proofs.lemmas.Map.Steps.{length-le_from_distinct_below}

-- ---- the order

-- a due key before one that is before a third is before the third
pub before_trans : (a b c : DueKey) → IsBefore a b → IsBefore b c → IsBefore a c
before_trans a b c (inl p) (inl q) = inl (omega arith)
before_trans a b c (inl p) (inr q) = inl (omega (arith, q.0))
before_trans a b c (inr p) (inl q) = inl (omega (arith, p.0))
before_trans a b c (inr p) (inr q) = inr (p.0 ∙ q.0, numbers p.1 q.1)
  where
    numbers : (a.number < b.number) ⊎ ((a.number ≡ b.number) × (a.key < b.key)) → (b.number < c.number) ⊎ ((b.number ≡ c.number) × (b.key < c.key)) →
        (a.number < c.number) ⊎ ((a.number ≡ c.number) × (a.key < c.key))
    numbers (inl x) (inl y) = inl (omega arith)
    numbers (inl x) (inr y) = inl (omega (arith, y.0))
    numbers (inr x) (inl y) = inl (omega (arith, x.0))
    numbers (inr x) (inr y) = inr (x.0 ∙ y.0, omega (arith, x.1, y.1))

-- no two due keys are each before the other
pub not_both : (a b : DueKey) → IsBefore a b → IsBefore b a → ⊥
not_both a b (inl p) (inl q) = omega arith
not_both a b (inl p) (inr q) = omega (arith, q.0)
not_both a b (inr p) (inl q) = omega (arith, p.0)
not_both a b (inr p) (inr q) = numbers p.1 q.1
  where
    numbers : (a.number < b.number) ⊎ ((a.number ≡ b.number) × (a.key < b.key)) → (b.number < a.number) ⊎ ((b.number ≡ a.number) × (b.key < a.key)) → ⊥
    numbers (inl x) (inl y) = omega arith
    numbers (inl x) (inr y) = omega (arith, y.0)
    numbers (inr x) (inl y) = omega (arith, x.0)
    numbers (inr x) (inr y) = omega (arith, x.1, y.1)

-- if the test says that a due key is before another, it is
pub before_from_true : (a b : DueKey) → is_before a b ≡ true → IsBefore a b
before_from_true a b h =
    elim (or_cases (ltb a.due b.due) (eqb a.due b.due && (ltb a.number b.number || (eqb a.number b.number && ltb a.key b.key))) h) [
      | inl less ↦ inl (ltb-true a.due b.due less)
      | inr rest ↦
          let p = and_parts (eqb a.due b.due) (ltb a.number b.number || (eqb a.number b.number && ltb a.key b.key)) rest in
          inr (
            eqb-true a.due b.due p.0,
            elim (or_cases (ltb a.number b.number) (eqb a.number b.number && ltb a.key b.key) p.1) [
              | inl less ↦ inl (ltb-true a.number b.number less)
              | inr keys ↦ let q = and_parts (eqb a.number b.number) (ltb a.key b.key) keys in
                  inr (eqb-true a.number b.number q.0, ltb-true a.key b.key q.1)
            ],
          )
    ]

-- one of two keys with different numbers is before the other
after_numbers : (a b : DueKey) → (b.key ≡ a.key → ⊥) → (ltb a.number b.number || (eqb a.number b.number && ltb a.key b.key)) ≡ false →
    (b.number < a.number) ⊎ ((b.number ≡ a.number) × (b.key < a.key))
after_numbers a b apart h =
    let p = or_parts (ltb a.number b.number) (eqb a.number b.number && ltb a.key b.key) h in
    let least = ltb-false a.number b.number p.0 in
    elim (and_cases (eqb a.number b.number) (ltb a.key b.key) p.1) [
      | inl other ↦ let ne = eqb-false a.number b.number other in inl (below_if least ne)
      | inr keys ↦ elim (cases_lt b.number a.number) [
        | inl less ↦ inl less
        | inr most ↦ let k = ltb-false a.key b.key keys in inr (omega arith, below_if k (λ e. apart (sym e)))
      ]
    ]
  where
    below_if : {x y : ℕ} → y ≤ x → (x ≡ y → ⊥) → y < x
    below_if {x} {y} l ne = omega arith

-- if the test says that a due key isn't before one of another number, that one is before it
pub before_from_false : (a b : DueKey) → (b.key ≡ a.key → ⊥) → is_before a b ≡ false → IsBefore b a
before_from_false a b apart h =
    let p = or_parts (ltb a.due b.due) (eqb a.due b.due && (ltb a.number b.number || (eqb a.number b.number && ltb a.key b.key))) h in
    let least = ltb-false a.due b.due p.0 in
    elim (and_cases (eqb a.due b.due) (ltb a.number b.number || (eqb a.number b.number && ltb a.key b.key)) p.1) [
      | inl other ↦ let ne = eqb-false a.due b.due other in inl (omega arith)
      | inr rest ↦ elim (cases_lt b.due a.due) [
        | inl less ↦ inl less
        | inr most ↦ inr (omega arith, after_numbers a b apart rest)
      ]
    ]

-- ---- what stands there

-- case: one key in front; a key in the list after a key is put in is the new one or was there
in_placed_step : (x y e : DueKey) (ys : List DueKey) → (IsIn e (placed x ys) → (e ≡ x) ⊎ IsIn e ys) → (t : Bool) →
    IsIn e (cond t (y ∷ placed x ys) (x ∷ y ∷ ys)) → (e ≡ x) ⊎ IsIn e (y ∷ ys)
in_placed_step x y e ys rest true (inl h) = inr (inl h)
in_placed_step x y e ys rest true (inr h) = elim (rest h) [ inl n ↦ inl n | inr o ↦ inr (inr o) ]
in_placed_step x y e ys rest false (inl h) = inl h
in_placed_step x y e ys rest false (inr h) = inr h

-- what is in the list after a due key was put in is that key or was in the list
pub in_placed : (x e : DueKey) (ys : List DueKey) → IsIn e (placed x ys) → (e ≡ x) ⊎ IsIn e ys
in_placed x e [] (inl h) = inl h
in_placed x e [] (inr h) = absurd h
in_placed x e (y ∷ ys) h = in_placed_step x y e ys (in_placed x e ys) (is_before y x) h

-- case: one key in front; a key that is put in is in the list
new_step : (x y : DueKey) (ys : List DueKey) → IsIn x (placed x ys) → (t : Bool) → IsIn x (cond t (y ∷ placed x ys) (x ∷ y ∷ ys))
new_step x y ys rest true = inr rest
new_step x y ys rest false = inl refl

-- a due key that is put in is in the list
pub new_placed : (x : DueKey) (ys : List DueKey) → IsIn x (placed x ys)
new_placed x [] = inl refl
new_placed x (y ∷ ys) = new_step x y ys (new_placed x ys) (is_before y x)

-- case: one key in front; a key of the list is still there after a key is put in
old_step : (x y e : DueKey) (ys : List DueKey) → (IsIn e ys → IsIn e (placed x ys)) → IsIn e (y ∷ ys) → (t : Bool) →
    IsIn e (cond t (y ∷ placed x ys) (x ∷ y ∷ ys))
old_step x y e ys rest (inl h) true = inl h
old_step x y e ys rest (inr h) true = inr (rest h)
old_step x y e ys rest h false = inr h

-- what is in the list stays in it as another due key is put in
pub old_placed : (x e : DueKey) (ys : List DueKey) → IsIn e ys → IsIn e (placed x ys)
old_placed x e [] h = absurd h
old_placed x e (y ∷ ys) h = old_step x y e ys (old_placed x e ys) h (is_before y x)

-- case: one key in front; a key left after one is taken out was in the list
in_without_step : (k : ℕ) (y e : DueKey) (ys : List DueKey) → (IsIn e (without k ys) → IsIn e ys) → (t : Bool) →
    IsIn e (cond t ys (y ∷ without k ys)) → IsIn e (y ∷ ys)
in_without_step k y e ys rest true h = inr h
in_without_step k y e ys rest false (inl h) = inl h
in_without_step k y e ys rest false (inr h) = inr (rest h)

-- what is in the list after a number was dropped was in it before
pub in_without : (k : ℕ) (e : DueKey) (ys : List DueKey) → IsIn e (without k ys) → IsIn e ys
in_without k e [] h = absurd h
in_without k e (y ∷ ys) h = in_without_step k y e ys (in_without k e ys) (is_of_key k y) h

-- case: one key in front; a key of another number stays when one is taken out
kept_step : (k : ℕ) (y e : DueKey) (ys : List DueKey) → (e.key ≡ k → ⊥) → (IsIn e ys → IsIn e (without k ys)) → IsIn e (y ∷ ys) → (t : Bool) →
    is_of_key k y ≡ t → IsIn e (cond t ys (y ∷ without k ys))
kept_step k y e ys apart rest (inl h) true t = absurd (apart (ap (λ (z : DueKey). z.key) h ∙ eqb-true y.key k t))
kept_step k y e ys apart rest (inr h) true t = h
kept_step k y e ys apart rest (inl h) false t = inl h
kept_step k y e ys apart rest (inr h) false t = inr (rest h)

-- a due key of another number stays in the list as a number is dropped
pub kept_without : (k : ℕ) (e : DueKey) (ys : List DueKey) → (e.key ≡ k → ⊥) → IsIn e ys → IsIn e (without k ys)
kept_without k e [] apart h = absurd h
kept_without k e (y ∷ ys) apart h = kept_step k y e ys apart (kept_without k e ys apart) h (is_of_key k y) refl

-- case: one key in front; no key of a number is left after the key of this number is taken out
gone_step : (k : ℕ) (y e : DueKey) (ys : List DueKey) → ((x : DueKey) → IsIn x ys → x.key ≡ y.key → ⊥) → (IsIn e (without k ys) → e.key ≡ k → ⊥) → (t : Bool) →
    is_of_key k y ≡ t → IsIn e (cond t ys (y ∷ without k ys)) → e.key ≡ k → ⊥
gone_step k y e ys once rest true t h same = once e h (same ∙ sym (eqb-true y.key k t))
gone_step k y e ys once rest false t (inl h) same = eqb-false y.key k t (ap (λ (z : DueKey). z.key) (sym h) ∙ same)
gone_step k y e ys once rest false t (inr h) same = rest h same

-- after a number is dropped from a list that has each number once, no due key has it
pub gone_without : (k : ℕ) (e : DueKey) (ys : List DueKey) → EachOnce ys → IsIn e (without k ys) → e.key ≡ k → ⊥
gone_without k e [] once h same = h
gone_without k e (y ∷ ys) once h same = gone_step k y e ys once.0 (gone_without k e ys once.1) (is_of_key k y) refl h same

-- ---- sorted, and each once

-- case: one key in front; a sorted list stays sorted when a key of a new number is put in
sorted_step : (x y : DueKey) (ys : List DueKey) → AreSorted (y ∷ ys) → AreSorted (placed x ys) → (y.key ≡ x.key → ⊥) → (t : Bool) → is_before y x ≡ t →
    AreSorted (cond t (y ∷ placed x ys) (x ∷ y ∷ ys))
sorted_step x y ys sorted rest apart true t = (
  λ e h. elim (in_placed x e ys h) [
    | inl is ↦ subst (λ (z : DueKey). IsBefore y z) (sym is) (before_from_true y x t)
    | inr old ↦ sorted.0 e old
  ],
  rest,
)
sorted_step x y ys sorted rest apart false t =
    let first : IsBefore x y = before_from_false y x (λ e. apart (sym e)) t in (
      λ e h. elim h [
        | inl is ↦ subst (λ (z : DueKey). IsBefore x z) (sym is) first
        | inr old ↦ before_trans x y e first (sorted.0 e old)
      ],
      sorted,
    )

-- a sorted list stays sorted as a due key of a number that it lacks is put in
pub sorted_placed : (x : DueKey) (ys : List DueKey) → AreSorted ys → ((e : DueKey) → IsIn e ys → e.key ≡ x.key → ⊥) → AreSorted (placed x ys)
sorted_placed x [] sorted apart = (λ e h. absurd h, tt)
sorted_placed x (y ∷ ys) sorted apart =
    sorted_step x y ys sorted (sorted_placed x ys sorted.1 (λ e h. apart e (inr h))) (apart y (inl refl)) (is_before y x) refl

-- case: one key in front; a list has each number once after a key of a new number is put in
once_step : (x y : DueKey) (ys : List DueKey) → EachOnce (y ∷ ys) → EachOnce (placed x ys) → ((e : DueKey) → IsIn e (y ∷ ys) → e.key ≡ x.key → ⊥) → (t : Bool) →
    EachOnce (cond t (y ∷ placed x ys) (x ∷ y ∷ ys))
once_step x y ys once rest apart true = (
  λ e h same. elim (in_placed x e ys h) [
    | inl is ↦ apart y (inl refl) (sym same ∙ ap (λ (z : DueKey). z.key) is)
    | inr old ↦ once.0 e old same
  ],
  rest,
)
once_step x y ys once rest apart false = (apart, once)

-- a list that has each number once still does after a due key of a number that it lacks is put in
pub once_placed : (x : DueKey) (ys : List DueKey) → EachOnce ys → ((e : DueKey) → IsIn e ys → e.key ≡ x.key → ⊥) → EachOnce (placed x ys)
once_placed x [] once apart = (λ e h same. absurd h, tt)
once_placed x (y ∷ ys) once apart =
    once_step x y ys once (once_placed x ys once.1 (λ e h. apart e (inr h))) apart (is_before y x)

-- case: one key in front; a sorted list stays sorted when a key is taken out
left_sorted : (k : ℕ) (y : DueKey) (ys : List DueKey) → AreSorted (y ∷ ys) → AreSorted (without k ys) → (t : Bool) → AreSorted (cond t ys (y ∷ without k ys))
left_sorted k y ys sorted rest true = sorted.1
left_sorted k y ys sorted rest false = (λ e h. sorted.0 e (in_without k e ys h), rest)

-- a sorted list stays sorted as a number is dropped from it
pub sorted_without : (k : ℕ) (ys : List DueKey) → AreSorted ys → AreSorted (without k ys)
sorted_without k [] sorted = tt
sorted_without k (y ∷ ys) sorted = left_sorted k y ys sorted (sorted_without k ys sorted.1) (is_of_key k y)

-- case: one key in front; a list has each number once after a key is taken out
left_once : (k : ℕ) (y : DueKey) (ys : List DueKey) → EachOnce (y ∷ ys) → EachOnce (without k ys) → (t : Bool) → EachOnce (cond t ys (y ∷ without k ys))
left_once k y ys once rest true = once.1
left_once k y ys once rest false = (λ e h same. once.0 e (in_without k e ys h) same, rest)

-- a list that has each number once still does after a number is dropped
pub once_without : (k : ℕ) (ys : List DueKey) → EachOnce ys → EachOnce (without k ys)
once_without k [] once = tt
once_without k (y ∷ ys) once = left_once k y ys once (once_without k ys once.1) (is_of_key k y)

-- ---- there is room

-- the numbers of the keys of a list of due keys
keys : List DueKey → List ℕ
keys [] = []
keys (x ∷ xs) = x.key ∷ keys xs

-- a list of due keys has as many numbers as keys
length-keys : (xs : List DueKey) → length (keys xs) ≡ length xs
unfolding keys
length-keys [] = refl
length-keys (x ∷ xs) = ap suc (length-keys xs)

-- a number that no key of a list has differs from each number of the list
apart_keys : (k : ℕ) (xs : List DueKey) → ((x : DueKey) → IsIn x xs → x.key ≡ k → ⊥) → AllByRecursion (λ y. eqb k y ≡ false) (keys xs)
unfolding keys
apart_keys k [] h = tt
apart_keys k (x ∷ xs) h =
    (ne_eqb k x.key (λ e. h x (inl refl) (sym e)), apart_keys k xs (λ y at same. h y (inr at) same))

-- the numbers of a list that has each key once are distinct
distinct_keys : (xs : List DueKey) → EachOnce xs → IsDistinct eqb (keys xs)
unfolding keys IsDistinct
distinct_keys [] once = tt
distinct_keys (x ∷ xs) once = IsDistinct-cons eqb x.key (keys xs) (apart_keys x.key xs once.0) (distinct_keys xs once.1)

-- if all keys of a list have numbers below a bound, each of their numbers is below it
below_keys : (n : ℕ) (xs : List DueKey) → ((x : DueKey) → IsIn x xs → x.key < n) → (q : ℕ) → list_any (eqb q) (keys xs) ≡ true → q < n
unfolding keys
below_keys n [] h q e = absurd (cc)
below_keys n (x ∷ xs) h q e =
    elim (or_cases (eqb q x.key) (list_any (eqb q) (keys xs)) e) [
      | inl here ↦ let same : q ≡ x.key = eqb-true q x.key here in omega (arith, h x (inl refl))
      | inr there ↦ below_keys n xs (λ y at. h y (inr at)) q there
    ]

-- a list with each key once, all of numbers below a bound, has at most as many keys as the bound
length_below : (n : ℕ) (xs : List DueKey) → EachOnce xs → ((x : DueKey) → IsIn x xs → x.key < n) → length xs ≤ n
length_below n xs once below =
    omega (arith, length-keys xs, length-le_from_distinct_below (keys xs) n (distinct_keys xs once) (below_keys n xs below))

-- if a key and all keys of a list are below a bound, each key of the list with it in front is
below_either : (n : ℕ) (x e : DueKey) (xs : List DueKey) → x.key < n → ((y : DueKey) → IsIn y xs → y.key < n) → IsIn e (x ∷ xs) → e.key < n
below_either n x e xs less below (inl h) = omega (arith, ap (λ (z : DueKey). z.key) h)
below_either n x e xs less below (inr h) = below e h

-- a list of due keys of different numbers below n that lacks one such number is shorter than n
pub room_left : (n : ℕ) (x : DueKey) (xs : List DueKey) → EachOnce xs → ((y : DueKey) → IsIn y xs → y.key < n) → x.key < n →
    ((e : DueKey) → IsIn e xs → e.key ≡ x.key → ⊥) → length xs < n
room_left n x xs once below less apart =
    let all : length (x ∷ xs) ≤ n = length_below n (x ∷ xs) (apart, once) (λ e h. below_either n x e xs less below h) in omega arith

-- ---- the code

-- case: one key in front; putting a key in at its place is putting it in by order
insert_step : (x y : DueKey) (ys : List DueKey) → insert ys (place_in x ys) x ≡ placed x ys → (t : Bool) →
    insert (y ∷ ys) (cond t (suc (place_in x ys)) zero) x ≡ cond t (y ∷ placed x ys) (x ∷ y ∷ ys)
insert_step x y ys rest true = ap (λ (zs : List DueKey). y ∷ zs) rest
insert_step x y ys rest false = refl

-- inserting a due key at the place that is found for it puts it in by the order of expiry
pub insert_is : (x : DueKey) (ys : List DueKey) → insert ys (place_in x ys) x ≡ placed x ys
insert_is x [] = refl
insert_is x (y ∷ ys) = insert_step x y ys (insert_is x ys) (is_before y x)

-- case: one key in front; the place at which a key is put in is at most the length
place_step : (x y : DueKey) (ys : List DueKey) → place_in x ys ≤ length ys → (t : Bool) → cond t (suc (place_in x ys)) zero ≤ suc (length ys)
place_step x y ys rest true = omega arith
place_step x y ys rest false = omega arith

-- the place that is found for a due key is no greater than the length of the list
pub place_le : (x : DueKey) (ys : List DueKey) → place_in x ys ≤ length ys
place_le x [] = omega arith
place_le x (y ∷ ys) = place_step x y ys (place_le x ys) (is_before y x)

-- case: one key in front; removing the place of a number is taking out its key
remove_step : (k : ℕ) (y : DueKey) (ys : List DueKey) → remove ys (place_of k ys) ≡ without k ys → (t : Bool) →
    remove (y ∷ ys) (cond t zero (suc (place_of k ys))) ≡ cond t ys (y ∷ without k ys)
remove_step k y ys rest true = refl
remove_step k y ys rest false = ap (λ (zs : List DueKey). y ∷ zs) rest

-- removing at the place that is found for a number drops that number from the list
pub remove_is : (k : ℕ) (ys : List DueKey) → remove ys (place_of k ys) ≡ without k ys
remove_is k [] = refl
remove_is k (y ∷ ys) = remove_step k y ys (remove_is k ys) (is_of_key k y)

-- case: one key in front; if the place of a number is no place of the list, taking it out changes nothing
none_step : (k : ℕ) (y : DueKey) (ys : List DueKey) → (length ys ≤ place_of k ys → without k ys ≡ ys) → (t : Bool) →
    suc (length ys) ≤ cond t zero (suc (place_of k ys)) → cond t ys (y ∷ without k ys) ≡ y ∷ ys
none_step k y ys rest true h = absurd (omega arith)
none_step k y ys rest false h = ap (λ (zs : List DueKey). y ∷ zs) (rest (omega arith))

-- if no place in the list is found for a number, dropping the number leaves the list as it was
pub without_none : (k : ℕ) (ys : List DueKey) → length ys ≤ place_of k ys → without k ys ≡ ys
without_none k [] h = refl
without_none k (y ∷ ys) h = none_step k y ys (without_none k ys) (is_of_key k y) h

-- ---- after all

-- the test whether a key is before another passes if it is before it
true_from_before : (a b : DueKey) → IsBefore a b → is_before a b ≡ true
true_from_before a b (inl less) =
    or_left (ltb a.due b.due) (eqb a.due b.due && (ltb a.number b.number || (eqb a.number b.number && ltb a.key b.key))) (lt-ltb a.due b.due less)
true_from_before a b (inr tie) =
    or_right (ltb a.due b.due) (eqb a.due b.due && (ltb a.number b.number || (eqb a.number b.number && ltb a.key b.key)))
    (and_from (eqb a.due b.due) (ltb a.number b.number || (eqb a.number b.number && ltb a.key b.key)) (eq-eqb a.due b.due tie.0) (elim tie.1 [
      | inl lower ↦ or_left (ltb a.number b.number) (eqb a.number b.number && ltb a.key b.key) (lt-ltb a.number b.number lower)
      | inr keys ↦ or_right (ltb a.number b.number) (eqb a.number b.number && ltb a.key b.key)
          (and_from (eqb a.number b.number) (ltb a.key b.key) (eq-eqb a.number b.number keys.0) (lt-ltb a.key b.key keys.1))
    ]))

-- the key at a place of a list is in the list
in_at : (ys : List DueKey) (i : ℕ) (d : DueKey) → i < length ys → IsIn (get_or ys i d) ys
in_at [] i d h = absurd (omega arith)
in_at (y ∷ ys) zero d h = inl refl
in_at (y ∷ ys) (suc i) d h = inr (in_at ys i d (omega arith))

-- what the last key is before comes after all
pub all_before : (x : DueKey) (ys : List DueKey) (i : ℕ) (d : DueKey) → suc i ≡ length ys → AreSorted ys → is_before (get_or ys i d) x ≡ true →
    place_in x ys ≡ length ys
all_before x [] i d e sorted h = absurd (omega arith)
all_before x (y ∷ []) zero d e sorted h = rw h refl
all_before x (y ∷ []) (suc i) d e sorted h = absurd (omega arith)
all_before x (y ∷ z ∷ zs) zero d e sorted h = absurd (omega arith)
all_before x (y ∷ z ∷ zs) (suc i) d e sorted h =
    let last : DueKey = get_or (z ∷ zs) i d in
    let first : is_before y x ≡ true =
    true_from_before y x (before_trans y last x (sorted.0 last (in_at (z ∷ zs) i d (omega arith))) (before_from_true last x h)) in
    rw first (ap suc (all_before x (z ∷ zs) i d (omega arith) sorted.1 h))
