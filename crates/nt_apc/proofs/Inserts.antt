-- The list of pending inserts keeps each object once: pushes, removals and its length.
use Rattle.std.proofs.Common.{◌+◌, inl, inr, ◌≡◌, ◌<◌, ◌≤◌, ◌||◌, Bool, true, false, ℕ, List, [], ◌∷◌, ◌++◌, length, not, None, Some, refl, sym, ◌∙◌, ap, arith}
use Rattle.std.proofs.Common.{eqb, suc, subst}
use Rattle.std.proofs.Math.Numerals.{one-add}
use Rattle.std.proofs.lemmas.Bool.{cases_lt, eqb-false, eqb-true, false≢true, le-ltb, lt-ltb, ne_eqb, or_cases, or_from, or_parts}
use Rattle.std.proofs.lemmas.List.Folds.{list_any-append}
use Rattle.std.proofs.lemmas.Map.Steps.{length-le_from_distinct_below}
use Rattle.std.specs.List.{AllByRecursion, IsDistinct, filter, list_any, position, position_or_len, remove}
use Rattle.std.specs.Prelude.{cond, nat_lt}
use Rattle.nt_event.specs.Apcs.{is_of_apc}
use Rattle.nt_event.specs.declared.inserts.Pick.{Pick}
use Rattle.nt_event.specs.declared.numbers.ApcNo.{ApcNo}
use Rattle.nt_apc.specs.Objects.{AreObjects}

-- two numbers found different are found different the other way round too
eqb-flip : (m n : ℕ) → eqb m n ≡ false → eqb n m ≡ false
eqb-flip m n h = ne_eqb n m (λ e. eqb-false m n h (sym e))

-- ---- a push

-- a list of inserts with each object once stays so if an object that isn't in it is pushed
pub objects-push : (xs : List Pick) (x : Pick) → AreObjects xs → list_any (is_of_apc x.apc) xs ≡ false → x.apc.0 < 256 → AreObjects (xs ++ x ∷ [])
objects-push [] x h fresh below = (refl, below, tt)
objects-push (y ∷ ys) x h fresh below =
    let parts : (eqb y.apc.0 x.apc.0 ≡ false) × (list_any (is_of_apc x.apc) ys ≡ false) = or_parts _ _ fresh in
    let apart : eqb x.apc.0 y.apc.0 ≡ false = eqb-flip y.apc.0 x.apc.0 parts.0 in
    (list_any-append (is_of_apc y.apc) ys (x ∷ []) ∙ or_from _ _ h.0 (or_from _ _ apart refl), h.1, objects-push ys x h.2 parts.1 below)

-- ---- a filter

-- if no element passes a test, none of a filtered list passes it
any-filter : (t p : Pick → Bool) (xs : List Pick) → list_any t xs ≡ false → list_any t (filter p xs) ≡ false
any-filter t p [] h = refl
any-filter t p (x ∷ xs) h =
    let parts : (t x ≡ false) × (list_any t xs ≡ false) = or_parts _ _ h in
    go (p x) refl parts.0 (any-filter t p xs parts.1) where
      go : (b : Bool) → p x ≡ b → t x ≡ false → list_any t (filter p xs) ≡ false → list_any t (cond b (x ∷ filter p xs) (filter p xs)) ≡ false
      go true e here rest = or_from _ _ here rest
      go false e here rest = rest

-- a list of inserts with each object once stays so when filtered
pub objects-filter : (p : Pick → Bool) (xs : List Pick) → AreObjects xs → AreObjects (filter p xs)
objects-filter p [] h = tt
objects-filter p (x ∷ xs) h = go (p x) (objects-filter p xs h.2) where
  go : (b : Bool) → AreObjects (filter p xs) → AreObjects (cond b (x ∷ filter p xs) (filter p xs))
  go true rest = (any-filter (is_of_apc x.apc) p xs h.0, h.1, rest)
  go false rest = rest

-- ---- a removal

-- nothing is left out where nothing passes
pub filter-none : (t : Pick → Bool) (xs : List Pick) → list_any t xs ≡ false → filter (λ x. not (t x)) xs ≡ xs
filter-none t [] h = refl
filter-none t (x ∷ xs) h =
    let parts : (t x ≡ false) × (list_any t xs ≡ false) = or_parts _ _ h in
    rw parts.0 (ap (λ (ys : List Pick). x ∷ ys) (filter-none t xs parts.1))

-- an object's first insert out of the list is the list without the object
pub remove-object : (a : ApcNo) (xs : List Pick) → AreObjects xs → remove xs (position_or_len (is_of_apc a) xs) ≡ filter (λ x. not (is_of_apc a x)) xs
remove-object a [] h = refl
remove-object a (x ∷ xs) h = go (is_of_apc a x) refl (remove-object a xs h.2) where
  go : (b : Bool) → is_of_apc a x ≡ b → remove xs (position_or_len (is_of_apc a) xs) ≡ filter (λ y. not (is_of_apc a y)) xs →
      remove (x ∷ xs) (cond (not b) (1 + position_or_len (is_of_apc a) xs) 0) ≡ cond (not b) (x ∷ filter (λ y. not (is_of_apc a y)) xs)
      (filter (λ y. not (is_of_apc a y)) xs)
  go true e rest =
      let same : x.apc ≡ a = ap (λ (n : ℕ). let r : ApcNo = record { 0 = n } in r) (eqb-true x.apc.0 a.0 e) in
      sym (filter-none (is_of_apc a) xs (subst (λ (b : ApcNo). list_any (is_of_apc b) xs ≡ false) same h.0))
  go false e rest = rw one-add (ap (λ (ys : List Pick). x ∷ ys) rest)

-- ---- the place of the first that passes

-- one number is below another exactly if their successors are so
lt-suc : (a b : ℕ) → nat_lt (suc a) (suc b) ≡ nat_lt a b
lt-suc a b =
    elim (cases_lt a b) [
      | inl h ↦ lt-ltb (suc a) (suc b) (omega arith) ∙ sym (lt-ltb a b h)
      | inr h ↦ le-ltb (suc a) (suc b) (omega arith)
          ∙ sym (le-ltb a b h)
    ]

-- the position of a test is a place of the list exactly if some element passes the test
place-any : {X : Type 0} (t : X → Bool) (xs : List X) → nat_lt (position_or_len t xs) (length xs) ≡ list_any t xs
place-any t [] = refl
place-any {X} t (x ∷ xs) = go (t x) (place-any t xs) where
  go : (b : Bool) → nat_lt (position_or_len t xs) (length xs) ≡ list_any t xs →
      nat_lt (cond (not b) (1 + position_or_len t xs) 0) (suc (length xs)) ≡ (b || list_any t xs)
  go true rest = lt-ltb 0 (suc (length xs)) (omega arith)
  go false rest = rw one-add (lt-suc (position_or_len t xs) (length xs) ∙ rest)

pub record IsPlace {X : Type 0} (t : X → Bool) (xs : List X) (i : ℕ) : Type 0 where
  pub any : list_any t xs ≡ true
  pub first : i ≡ position_or_len t xs

-- case: a position below the length that is given as the answer is the place of the first element that passes
place-tested : {X : Type 0} (t : X → Bool) (xs : List X) (b : Bool) (i : ℕ) → nat_lt (position_or_len t xs) (length xs) ≡ b →
    cond b (Some (position_or_len t xs)) None ≡ Some i → IsPlace t xs i
place-tested t xs true i e h = record { any = sym (place-any t xs) ∙ e; first = cc }
place-tested t xs false i e h = absurd (cc)

-- the position that a search gives is the place of the first element that passes the test
pub place-some : {X : Type 0} (t : X → Bool) (xs : List X) (i : ℕ) → position t xs ≡ Some i → IsPlace t xs i
place-some t xs i h = place-tested t xs (nat_lt (position_or_len t xs) (length xs)) i refl h

-- case: no position is given as the answer, so no element passes the test
absent-tested : {X : Type 0} (t : X → Bool) (xs : List X) (b : Bool) → nat_lt (position_or_len t xs) (length xs) ≡ b →
    cond b (Some (position_or_len t xs)) None ≡ None → list_any t xs ≡ false
absent-tested t xs true e h = absurd (cc)
absent-tested t xs false e h = sym (place-any t xs) ∙ e

-- if a search gives no position, no element passes the test
pub place-none : {X : Type 0} (t : X → Bool) (xs : List X) → position t xs ≡ None → list_any t xs ≡ false
place-none t xs h = absent-tested t xs (nat_lt (position_or_len t xs) (length xs)) refl h

-- ---- the length

abbrev numbers : List Pick → List ℕ
numbers [] = []
numbers (x ∷ xs) = x.apc.0 ∷ numbers xs

-- a list of pending inserts has as many object numbers as inserts
length-numbers : (xs : List Pick) → length (numbers xs) ≡ length xs
length-numbers [] = refl
length-numbers (x ∷ xs) = ap suc (length-numbers xs)

-- if no pending insert is of an object, its number differs from each object number of the list
apart : (a : ApcNo) (xs : List Pick) → list_any (is_of_apc a) xs ≡ false → AllByRecursion (λ y. eqb a.0 y ≡ false) (numbers xs)
apart a [] h = tt
apart a (x ∷ xs) h =
    let parts : (eqb x.apc.0 a.0 ≡ false) × (list_any (is_of_apc a) xs ≡ false) = or_parts _ _ h in
    (eqb-flip x.apc.0 a.0 parts.0, apart a xs parts.1)

-- the object numbers of pending inserts that keep each object once are distinct
distinct : (xs : List Pick) → AreObjects xs → IsDistinct eqb (numbers xs)
unfolding IsDistinct
distinct [] h = tt
distinct (x ∷ xs) h = (apart x.apc xs h.0, distinct xs h.2)

-- a number found equal to one below 256 is below 256
below : (q m : ℕ) → m < 256 → eqb q m ≡ true → q < 256
below q m h e = let same : q ≡ m = eqb-true q m e in omega arith

-- each object number of a list of pending inserts is below 256
all-below : (xs : List Pick) → AreObjects xs → (q : ℕ) → list_any (eqb q) (numbers xs) ≡ true → q < 256
all-below [] h q e = absurd (false≢true e)
all-below (x ∷ xs) h q e = elim (or_cases (eqb q x.apc.0) (list_any (eqb q)
    (numbers xs)) e) [ inl here ↦ below q x.apc.0 h.1 here | inr later ↦ all-below xs h.2 q later ]

-- where one more object may be inserted there is room: at most 256 numbers are below 256
pub objects-room : (a : ApcNo) (xs : List Pick) → AreObjects xs → list_any (is_of_apc a) xs ≡ false → a.0 < 256 → length xs < 256
unfolding IsDistinct
objects-room a xs h fresh small =
    let one : (q : ℕ) → list_any (eqb q) (a.0 ∷ numbers xs) ≡ true → q < 256 = λ q e. elim
    (or_cases (eqb q a.0) (list_any (eqb q) (numbers xs)) e) [ inl here ↦ below q a.0 small here | inr later ↦ all-below xs h q later ] in
    let most : suc (length (numbers xs)) ≤ 256 = length-le_from_distinct_below (a.0 ∷ numbers xs) 256 (apart a xs fresh, distinct xs h) one in
    omega (arith, length-numbers xs)
