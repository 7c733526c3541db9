-- Lists of falling numbers, and what a search finds there.
use Rattle.std.proofs.Common.{ap, arith, inl, inr, subst, sym, ◌∙◌}
use Rattle.std.specs.List.{Contains}
use Rattle.std.specs.Option.{option_or}
use Rattle.std.specs.Prelude.{Bool, List, None, Option, Some, [], cond, false, filter, find, refl, reverse, true, ℕ, ◌<◌, ◌∷◌, ◌≡◌, ◌≤◌}
use Rattle.nt_event.proofs.Elements.{contains_cases, contains_none, found_contains, reversed_contains}
use Rattle.nt_runs.specs.Falling.{Falls}
use Rattle.nt_runs.proofs.Pending.{cond_none, find_reverse, or_none_parts}

-- a truth value is not both false and true
pub false_true : {A : Type 0} (b : Bool) → b ≡ false → b ≡ true → A
false_true b h k = cc

module _ (A : Type 0) (number : A → ℕ) where
  -- numbers that fall from a bound fall from each greater bound
  pub falls_from : (n m : ℕ) (xs : List A) → n ≤ m → Falls number n xs → Falls number m xs
  falls_from n m [] h f = tt
  falls_from n m (x ∷ xs) h f = let k = f.0 in (omega (arith, h, k), f.1)

  -- a filtered list of falling numbers falls
  pub falls_kept : (n : ℕ) (test : A → Bool) (xs : List A) → Falls number n xs → Falls number n (filter test xs)
  falls_kept n test [] f = tt
  falls_kept n test (x ∷ xs) f = go (test x) (falls_kept (number x) test xs f.1)
    where
      go : (b : Bool) → Falls number (number x) (filter test xs) → Falls number n (cond b (x ∷ filter test xs) (filter test xs))
      go true k = (f.0, k)
      go false k = let l = f.0 in falls_from (number x) n (filter test xs) (omega (arith, l)) k

  -- each number in a falling list is below its bound
  pub falls_below : (n : ℕ) (xs : List A) (y : A) → Falls number n xs → Contains xs y → (number y) < n
  falls_below n [] y f h = contains_none y h
  falls_below n (x ∷ xs) y f h =
      let l = f.0 in
      elim (contains_cases x xs y h) [
        | inl same ↦ subst (λ (y : A). (number y) < n) same l
        | inr there ↦ let k = falls_below (number x) xs y f.1 there in omega (arith, k, l)
      ]

  -- the first item found in a falling list has the greatest number of those that pass the test
  pub found_greatest : (test : A → Bool) (n : ℕ) (xs : List A) (x y : A) → Falls number n xs → find test xs ≡ Some x → Contains xs y → test y ≡ true →
      (number y) ≤ (number x)
  found_greatest test n [] x y f h c t = cc
  found_greatest test n (z ∷ zs) x y f h c t =
      go (test z) refl h (λ k i. found_greatest test (number z) zs x y f.1 k i t)
    where
      go : (b : Bool) → test z ≡ b → cond b (Some z) (find test zs) ≡ Some x → (find test zs ≡ Some x → Contains zs y → (number y) ≤ (number x)) →
          (number y) ≤ (number x)
      go true e k ih =
          let same : z ≡ x = cc in
          let same_number : (number z) ≡ (number x) = ap (λ (x : A). (number x)) same in
          elim (contains_cases z zs y c) [
            | inl it ↦ let j = ap (λ (x : A). (number x)) it in omega (arith, same_number, j)
            | inr there ↦ let l = falls_below (number z) zs y f.1 there in omega (arith, l, same_number)
          ]
      go false e k ih =
          elim (contains_cases z zs y c) [
            | inl it ↦ false_true (test y) (subst (λ (z : A). test z ≡ false) it e) t
            | inr there ↦ ih k there
          ]

  -- where a search finds nothing, no item of the list passes the test
  pub none_found : (test : A → Bool) (xs : List A) (y : A) → find test xs ≡ None → Contains xs y → test y ≡ false
  none_found test [] y h c = contains_none y c
  none_found test (z ∷ zs) y h c = go (test z) refl h (λ k i. none_found test zs y k i)
    where
      go : (b : Bool) → test z ≡ b → cond b (Some z) (find test zs) ≡ None → (find test zs ≡ None → Contains zs y → test y ≡ false) → test y ≡ false
      go true e k ih = cc
      go false e k ih =
          elim (contains_cases z zs y c) [
            | inl it ↦ subst (λ (z : A). test z ≡ false) it e
            | inr there ↦ ih k there
          ]

  -- where a search from the end finds nothing, no item of the list passes the test
  pub none_last : (test : A → Bool) (xs : List A) (y : A) → find test (reverse xs) ≡ None → Contains xs y → test y ≡ false
  none_last test [] y h c = contains_none y c
  none_last test (z ∷ zs) y h c =
      let k = or_none_parts (find test (reverse zs)) (cond (test z) (Some z) None) (sym (find_reverse test z zs) ∙ h) in
      elim (contains_cases z zs y c) [
        | inl it ↦ subst (λ (z : A). test z ≡ false) it (cond_none (test z) z k.1)
        | inr there ↦ none_last test zs y k.0 there
      ]

  cond_some : (b : Bool) (z x : A) → cond b (Some z) None ≡ Some x → z ≡ x
  cond_some true z x h = cc
  cond_some false z x h = cc

  -- the first item found from the end of a falling list has the least number of those that pass the test
  pub last_least : (test : A → Bool) (n : ℕ) (xs : List A) (x y : A) → Falls number n xs → find test (reverse xs) ≡ Some x → Contains xs y → test y ≡ true →
      (number x) ≤ (number y)
  last_least test n [] x y f h c t = cc
  last_least test n (z ∷ zs) x y f h c t =
      go (find test (reverse zs)) refl (sym (find_reverse test z zs) ∙ h) (λ k i. last_least test (number z) zs x y f.1 k i t)
    where
      go : (o : Option A) → find test (reverse zs) ≡ o → option_or o (cond (test z) (Some z) None) ≡ Some x →
          (find test (reverse zs) ≡ Some x → Contains zs y → (number x) ≤ (number y)) → (number x) ≤ (number y)
      go None e k ih =
          let same_number : (number z) ≡ (number x) = ap (λ (x : A). (number x)) (cond_some (test z) z x k) in
          elim (contains_cases z zs y c) [
            | inl it ↦ let j = ap (λ (x : A). (number x)) it in omega (arith, same_number, j)
            | inr there ↦ false_true (test y) (none_last test zs y e there) t
          ]
      go (Some w) e k ih =
          let found : find test (reverse zs) ≡ Some x = e ∙ k in
          elim (contains_cases z zs y c) [
            | inl it ↦ let j = ap (λ (x : A). (number x)) it in
                let l = falls_below (number z) zs x f.1 (reversed_contains zs x (found_contains test (reverse zs) x found).0) in
                omega (arith, j, l)
            | inr there ↦ ih found there
          ]
