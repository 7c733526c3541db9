-- Lists of things with numbers, where each number below a bound stands once.
use Rattle.std.proofs.Common.{ap, arith, inl, inr, sym, ◌∙◌}
use Rattle.std.proofs.lemmas.Bool.{lt-ltb, ltb-true}
use Rattle.std.proofs.lemmas.List.Sums.{get_or-le-sum_by, sum_by-cons}
use Rattle.std.specs.Prelude.{Bool, Contains, List, [], count_by, false, get_or, if◌then◌else◌, map, nat_lt, refl, sum_by, true, ℕ, ◌<◌, ◌==◌, ◌∷◌, ◌≡◌, ◌≤◌}
use Rattle.std.specs.Prelude.{◌⊎◌}
use Rattle.nt_mark.proofs.Sums.{at_one, at_one_here, first_or_rest, in_none, some_with}
use Rattle.nt_mark.specs.Closing.{IsEachOnce}

-- how many have the number
abbrev pub with_it : {A : Type 0} → (A → ℕ) → ℕ → List A → ℕ
with_it {A} number k xs = sum_by (λ (a : A). at_one k (number a)) xs

-- counting the things with a number is counting that number in the list of their numbers
counted : {A : Type 0} (number : A → ℕ) (k : ℕ) (xs : List A) → count_by (λ x. x == k) (map number xs) ≡ with_it number k xs
counted number k [] = refl
counted {A} number k (x ∷ xs) =
    let a = counted number k xs in
    let b = sum_by-cons (at_one k) (number x) (map number xs) in
    let c = sum_by-cons (λ (y : A). at_one k (number y)) x xs in
    omega (arith, a, b, c)

-- if a list has an element with a number, at least one of its elements has that number
pub at_least_one : {A : Type 0} (number : A → ℕ) (k : ℕ) (xs : List A) (a : A) → Contains xs a → number a ≡ k → 1 ≤ with_it number k xs
at_least_one {A} number k xs a h is =
    let m = get_or-le-sum_by (λ (y : A). at_one k (number y)) xs h.0 a h.1 in
    let here : at_one k (number (get_or xs h.0 a)) ≡ 1 = ap (λ (y : A). at_one k (number y)) h.2 ∙ (ap (at_one k) is ∙ at_one_here k) in
    omega (arith, m, here)

-- two that have a number which stands once are one
pub same_one : {A : Type 0} (number : A → ℕ) (k : ℕ) (xs : List A) → with_it number k xs ≤ 1 → (a b : A) → Contains xs a → Contains xs b → number a ≡ k →
    number b ≡ k → a ≡ b
same_one number k [] few a b p q d e = absurd (in_none a p)
same_one {A} number k (x ∷ xs) few a b p q d e =
    go (first_or_rest x xs a p) (first_or_rest x xs b q) (λ p q. same_one number k xs (fewer few) a b p q d e)
  where
    fewer : with_it number k (x ∷ xs) ≤ 1 → with_it number k xs ≤ 1
    fewer l = let c = sum_by-cons (λ (y : A). at_one k (number y)) x xs in omega (arith, c, l)

    two : (y : A) → number x ≡ k → number y ≡ k → Contains xs y → ⊥
    two y f g h =
        let c = sum_by-cons (λ (y : A). at_one k (number y)) x xs in
        let l = at_least_one number k xs y h g in
        let o : at_one k (number x) ≡ 1 = ap (at_one k) f ∙ at_one_here k in
        omega (arith, c, l, o, few)

    go : (a ≡ x) ⊎ Contains xs a → (b ≡ x) ⊎ Contains xs b → (Contains xs a → Contains xs b → a ≡ b) → a ≡ b
    go (inl f) (inl g) more = f ∙ sym g
    go (inl f) (inr h) more = absurd (two b (ap number (sym f) ∙ d) e h)
    go (inr h) (inl g) more = absurd (two a (ap number (sym g) ∙ e) d h)
    go (inr h) (inr i) more = more h i

module _ {A : Type 0} (number : A → ℕ) (n : ℕ) (xs : List A) (once : IsEachOnce n (map number xs)) where
  -- each number below the bound is that of an element of the list
  pub one_with : (k : ℕ) → k < n → (a : A) × Contains xs a × (number a ≡ k)
  one_with k l =
      let c = counted number k xs in
      let o : count_by (λ x. x == k) (map number xs) ≡ 1 = once k ∙ ap (λ (b : Bool). if b then 1 else 0) (lt-ltb k n l) in
      some_with number k xs (omega (arith, c, o))

  -- at most one element of the list has a given number
  pub at_most_one : (k : ℕ) → with_it number k xs ≤ 1
  at_most_one k = go (nat_lt k n) (once k)
    where
      go : (b : Bool) → count_by (λ x. x == k) (map number xs) ≡ (if b then 1 else 0) → with_it number k xs ≤ 1
      go true e = let c = counted number k xs in omega (arith, c, e)
      go false e = let c = counted number k xs in omega (arith, c, e)

  -- the number of each element of the list is below the bound
  pub number_below : (a : A) → Contains xs a → number a < n
  number_below a h = go (nat_lt (number a) n) refl (once (number a))
    where
      go : (b : Bool) → nat_lt (number a) n ≡ b → count_by (λ x. x == number a) (map number xs) ≡ (if b then 1 else 0) → number a < n
      go true e o = ltb-true (number a) n e
      go false e o =
          let c = counted number (number a) xs in
          let l = at_least_one number (number a) xs a h refl in
          absurd (omega (arith, c, l, o))

  -- two elements of the list with the same number are the same
  pub the_one : (a b : A) → Contains xs a → Contains xs b → number a ≡ number b → a ≡ b
  the_one a b p q e = same_one number (number b) xs (at_most_one (number b)) a b p q e refl
