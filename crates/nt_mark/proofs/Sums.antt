-- Elements of lists, sums over lists, and what grows.
use Rattle.std.proofs.Common.{◌≡◌, ◌≢◌, ◌⊎◌, ℕ, zero, suc, ◌+◌, ◌*◌, ◌<◌, ◌≤◌, List, [], ◌∷◌, ◌++◌, length, get_or, set, refl, sym, ap, ◌∙◌, subst, inl, inr}
use Rattle.std.proofs.Common.{⊎_elim, arith, zero-le, get_or-set_other, get_or-set_same, Contains, sum_by, map, cond, eqb, eq-eqb, ne_eqb}
use Rattle.std.proofs.lemmas.List.Sums.{sum_by-cons}
use mathlib.Core.Logic.{dite}
use mathlib.Core.Option.{some, some-ne-none, some-injective}
use native.Mathlib.Decide.{ℕ_discrete}
use lib.ListN.{get_elem?}
use Rattle.nt_mark.specs.Rule.{sum_below}

module _ {A : Type 0} where
  -- the empty list contains nothing
  pub in_none : (x : A) → Contains [] x → ⊥
  in_none x h = let lt = h.1 in omega arith

  -- a list contains its first element
  pub in_first : (x : A) (xs : List A) → Contains (x ∷ xs) x
  in_first x xs = (0, omega arith, refl)

  -- an element of the rest of a list is in the list
  pub in_rest : (y : A) (xs : List A) (x : A) → Contains xs x → Contains (y ∷ xs) x
  in_rest y xs x h = let lt = h.1 in (suc h.0, omega arith, h.2)

  -- an element of a list is its first element or is in the rest
  pub first_or_rest : (y : A) (xs : List A) (x : A) → Contains (y ∷ xs) x → (x ≡ y) ⊎ Contains xs x
  first_or_rest y xs x h = cases h.0 h.1 h.2
    where
      cases : (k : ℕ) → k < length (y ∷ xs) → get_or (y ∷ xs) k x ≡ x → (x ≡ y) ⊎ Contains xs x
      cases zero lt e = inl (sym e)
      cases (suc k) lt e = inr (k, omega arith, e)

  -- an element of a list of one element is that element
  pub only : (y x : A) → Contains (y ∷ []) x → x ≡ y
  only y x h = ⊎_elim (λ e. e) (λ r. absurd (in_none x r)) (first_or_rest y [] x h)

  -- the sum after a change of one
  pub sum_changed : (f : A → ℕ) (xs : List A) (i : ℕ) (v w : A) → get_elem? xs i ≡ some v → sum_by f (set xs i w) + f v ≡ sum_by f xs + f w
  sum_changed f [] i v w e = absurd (some-ne-none v (sym e))
  sum_changed f (x ∷ xs) zero v w e = let s : f x ≡ f v = ap f (some-injective x v e) in let a = sum_by-cons f w xs in let b = sum_by-cons f x xs in omega arith
  sum_changed f (x ∷ xs) (suc i) v w e = let h = sum_changed f xs i v w e in let a = sum_by-cons f x (set xs i w) in let b = sum_by-cons f x xs in omega arith

  -- where f keeps its value at the one that changes, the sum stays
  pub sum_same : (f : A → ℕ) (xs : List A) (i : ℕ) (v w : A) → get_elem? xs i ≡ some v → f w ≡ f v → sum_by f (set xs i w) ≡ sum_by f xs
  sum_same f xs i v w e s = let h = sum_changed f xs i v w e in omega arith

  -- if f is at most k times g on each element, the sum of f is at most k times the sum of g
  pub sum_bounded : (f g : A → ℕ) (k : ℕ) (xs : List A) → ((j : ℕ) (v : A) → get_elem? xs j ≡ some v → f v ≤ k * g v) → sum_by f xs ≤ k * sum_by g xs
  sum_bounded f g k [] h = zero-le
  sum_bounded f g k (x ∷ xs) h =
      let a = h zero x refl in
      let b = sum_bounded f g k xs (λ j v e. h (suc j) v e) in
      let c = sum_by-cons f x xs in
      let d = ap (λ (n : ℕ). k * n) (sum_by-cons g x xs) in
      omega arith

  -- the sum of one over the elements of a list is its length
  pub sum_ones : (xs : List A) → sum_by (λ _. 1) xs ≡ length xs
  sum_ones [] = refl
  sum_ones (x ∷ xs) = let h = sum_ones xs in let c = sum_by-cons (λ (_ : A). 1) x xs in omega arith

  -- the value of an element in a list is at most the sum over the list
  pub sum_has : (f : A → ℕ) (xs : List A) (x : A) → Contains xs x → f x ≤ sum_by f xs
  sum_has f [] x h = absurd (in_none x h)
  sum_has f (y ∷ ys) x h =
      let c = sum_by-cons f y ys in
      ⊎_elim (λ e. let a : f x ≡ f y = ap f e in omega arith) (λ r. let a = sum_has f ys x r in omega arith) (first_or_rest y ys x h)

  -- the value of the element at a place is at most the sum over the list
  pub sum_one : (f : A → ℕ) (xs : List A) (i : ℕ) (v : A) → get_elem? xs i ≡ some v → f v ≤ sum_by f xs
  sum_one f [] i v e = absurd (some-ne-none v (sym e))
  sum_one f (x ∷ xs) zero v e = let a : f x ≡ f v = ap f (some-injective x v e) in let c = sum_by-cons f x xs in omega arith
  sum_one f (x ∷ xs) (suc i) v e = let a = sum_one f xs i v e in let c = sum_by-cons f x xs in omega arith

  -- two are no more than all
  pub sum_two : (f : A → ℕ) (xs : List A) (i j : ℕ) (v w : A) → get_elem? xs i ≡ some v → get_elem? xs j ≡ some w → i ≢ j → f v + f w ≤ sum_by f xs
  sum_two f [] i j v w e g ne = absurd (some-ne-none v (sym e))
  sum_two f (x ∷ xs) zero zero v w e g ne = absurd (ne refl)
  sum_two f (x ∷ xs) zero (suc j) v w e g ne = let a : f x ≡ f v = ap f (some-injective x v e) in let b = sum_one f xs j w g in let c = sum_by-cons f x xs in
      omega arith
  sum_two f (x ∷ xs) (suc i) zero v w e g ne = let a : f x ≡ f w = ap f (some-injective x w g) in let b = sum_one f xs i v e in let c = sum_by-cons f x xs in
      omega arith
  sum_two f (x ∷ xs) (suc i) (suc j) v w e g ne = let a = sum_two f xs i j v w e g (λ q. ne (ap suc q)) in let c = sum_by-cons f x xs in omega arith

  sum_none : (f : A → ℕ) (xs : List A) → ((j : ℕ) (u : A) → get_elem? xs j ≡ some u → f u ≡ 0) → sum_by f xs ≡ 0
  sum_none f [] h = refl
  sum_none f (y ∷ ys) h = let a = h zero y refl in let b = sum_none f ys (λ j u g. h (suc j) u g) in let c = sum_by-cons f y ys in omega arith

  -- the sum is what one has, where the others have none
  pub sum_only : (f : A → ℕ) (xs : List A) (i : ℕ) (v : A) → get_elem? xs i ≡ some v → ((j : ℕ) (u : A) → j ≢ i → get_elem? xs j ≡ some u → f u ≡ 0) →
      sum_by f xs ≡ f v
  sum_only f [] i v e h = absurd (some-ne-none v (sym e))
  sum_only f (x ∷ xs) zero v e h =
      let a = sum_none f xs (λ j u g. h (suc j) u (λ q. omega arith) g) in
      let b : f x ≡ f v = ap f (some-injective x v e) in
      let c = sum_by-cons f x xs in
      omega arith
  sum_only f (x ∷ xs) (suc i) v e h =
      let a = sum_only f xs i v e (λ j u ne g. h (suc j) u (λ q. ne (omega arith)) g) in
      let b = h zero x (λ q. omega arith) refl in
      let c = sum_by-cons f x xs in
      omega arith

  -- an element at a place of a list is at that place of the list with another joined behind
  pub get_front : (xs ys : List A) (k : ℕ) (x : A) → get_elem? xs k ≡ some x → get_elem? (xs ++ ys) k ≡ some x
  get_front [] ys k x e = absurd (some-ne-none x (sym e))
  get_front (y ∷ xs) ys zero x e = e
  get_front (y ∷ xs) ys (suc k) x e = get_front xs ys k x e

  -- a place where a list has an element is below its length
  pub get_below : (xs : List A) (k : ℕ) (x : A) → get_elem? xs k ≡ some x → k < length xs
  get_below [] k x e = absurd (some-ne-none x (sym e))
  get_below (y ∷ xs) zero x e = omega arith
  get_below (y ∷ xs) (suc k) x e = let h = get_below xs k x e in omega arith

  -- a place that has an element has the new one after it is set
  pub there : (xs : List A) (i : ℕ) (a b : A) → get_elem? xs i ≡ some a → get_elem? (set xs i b) i ≡ some b
  there [] i a b e = absurd (some-ne-none a (sym e))
  there (x ∷ xs) zero a b e = refl
  there (x ∷ xs) (suc i) a b e = there xs i a b e

  -- what stands there, put there again
  pub set_here : (xs : List A) (i : ℕ) (a : A) → get_elem? xs i ≡ some a → set xs i a ≡ xs
  set_here [] i a e = refl
  set_here (x ∷ xs) zero a e = ap (λ (y : A). y ∷ xs) (sym (some-injective x a e))
  set_here (x ∷ xs) (suc i) a e = ap (λ (ys : List A). x ∷ ys) (set_here xs i a e)

  -- a list whose length is at most zero is empty
  pub none_left : (xs : List A) → length xs ≤ 0 → xs ≡ []
  none_left [] h = refl
  none_left (x ∷ xs) h = absurd (omega arith)

-- the sum of one over the numbers below n is n
pub ones_below : (n : ℕ) → sum_below (λ _. 1) n ≡ n
ones_below zero = refl
ones_below (suc n) = let h = ones_below n in omega arith

-- a word that rises, and the others stay
pub rises_at : (ws : List ℕ) (i n : ℕ) → i < length ws → get_or ws i 0 ≤ n → (j : ℕ) → get_or ws j 0 ≤ get_or (set ws i n) j 0
rises_at ws i n inside le j = dite (ℕ_discrete j i)
    (λ e. let here = get_or-set_same ws i n 0 inside in subst (λ (k : ℕ). get_or ws k 0 ≤ get_or (set ws i n) k 0) (sym e) (omega arith))
    (λ other. let same = get_or-set_other ws i j n 0 other in omega arith)

-- 1 at x, and else 0
abbrev pub at_one : ℕ → ℕ → ℕ
at_one x y = cond (eqb y x) 1 0

-- the function that is one at x is one at x
pub at_one_here : (x : ℕ) → at_one x x ≡ 1
at_one_here x = rw (eq-eqb x x refl) refl

-- the function that is one at x is zero at each other number
pub at_one_else : (x y : ℕ) → y ≢ x → at_one x y ≡ 0
at_one_else x y ne = rw (ne_eqb y x ne) refl

-- the function that is one at x adds up to zero below a number that is at most x
pub none_below : (x n : ℕ) → n ≤ x → sum_below (at_one x) n ≡ 0
none_below x zero h = refl
none_below x (suc n) h = let a = none_below x n (omega arith) in let b = at_one_else x n (λ e. omega arith) in omega arith

-- the function that is one at x adds up to at most one below each number
pub one_below : (x n : ℕ) → sum_below (at_one x) n ≤ 1
one_below x zero = zero-le
one_below x (suc n) = dite (ℕ_discrete n x)
    (λ e. let a = none_below x n (omega arith) in let b : at_one x n ≡ 1 = ap (at_one x) e ∙ at_one_here x in omega arith)
    (λ ne. let a = one_below x n in let b = at_one_else x n ne in omega arith)

-- the function that is one at x adds up to one below each number above x
pub one_at : (x n : ℕ) → x < n → sum_below (at_one x) n ≡ 1
one_at x zero h = absurd (omega arith)
one_at x (suc n) h = dite (ℕ_discrete n x)
    (λ e. let a = none_below x n (omega arith) in let b : at_one x n ≡ 1 = ap (at_one x) e ∙ at_one_here x in omega arith)
    (λ ne. let a = one_at x n (omega arith) in let b = at_one_else x n ne in omega arith)

-- some element has the number x, where at least one is counted
pub some_with : {A : Type 0} (number : A → ℕ) (x : ℕ) (xs : List A) → 0 < sum_by (λ (a : A). at_one x (number a)) xs → (a : A) × Contains xs a × (number a ≡ x)
some_with number x [] h = absurd (omega arith)
some_with {A} number x (y ∷ ys) h = dite (ℕ_discrete (number y) x) (λ q. (y, in_first y ys, q))
    (λ ne.
    let a = at_one_else x (number y) ne in
    let c = sum_by-cons (λ (z : A). at_one x (number z)) y ys in
    let r = some_with number x ys (omega arith) in
    (r.0, in_rest y ys r.0 r.1, r.2))

-- one of the elements has the number that is among their numbers
pub with_number : {A : Type 0} (number : A → ℕ) (n : ℕ) (xs : List A) → Contains (map number xs) n → (a : A) × Contains xs a × (number a ≡ n)
with_number number n [] h = absurd (in_none n h)
with_number number n (x ∷ xs) h =
    ⊎_elim (λ e. (x, in_first x xs, sym e)) (λ r. let a = with_number number n xs r in (a.0, in_rest x xs a.0 a.1, a.2))
    (first_or_rest (number x) (map number xs) n h)
