-- A look in which one class alone rose.
use Rattle.std.proofs.Common.{List, [], ap, arith, get_or, inl, inr, length, refl, replicate, slice_set, sym, ℕ, ◌∙◌, ◌∷◌, ◌<◌, ◌≡◌}
use Rattle.std.proofs.lemmas.Bool.{cases_order}
use Rattle.std.proofs.lemmas.Grind.{get_or-set_at}
use Rattle.std.proofs.lemmas.List.{get_or-replicate, get_or-set_other, get_or_past, length-replicate, length-set}
use Rattle.std.specs.Prelude.{suc}
use Rattle.nt_event.specs.declared.events.Rises.{Rises}
use Rattle.nt_history.specs.Briefs.{NoneAbove, NoneBelow, one_rise}

-- lists of numbers that are the same at each place
same_at : (xs ys : List ℕ) → length xs ≡ length ys → ((i : ℕ) → get_or xs i 0 ≡ get_or ys i 0) → xs ≡ ys
same_at [] [] n h = refl
same_at [] (y ∷ ys) n h = absurd (omega (arith, n))
same_at (x ∷ xs) [] n h = absurd (omega (arith, n))
same_at (x ∷ xs) (y ∷ ys) n h =
    let e = h 0 in
    let t = same_at xs ys (omega (arith, n)) (λ i. h (suc i)) in
    λ i. e i ∷ t i

abbrev zeros : ℕ → List ℕ
zeros n = replicate n 0

-- a list of n zeros has n elements
zeros_long : (n : ℕ) → length (zeros n) ≡ n
zeros_long n = length-replicate n _

-- 0 is at each place of zeros, and behind them
zero_at : (n i : ℕ) → get_or (zeros n) i 0 ≡ 0
zero_at n i = elim (cases_order i n) as (λ e. get_or (zeros n) i 0 ≡ 0) [
  | inl same ↦ get_or_past (zeros n) i 0 (omega (arith, same, zeros_long n))
  | inr (inl less) ↦ get_or-replicate n i 0 0 less
  | inr (inr more) ↦ get_or_past (zeros n) i 0 (omega (arith, more, zeros_long n))
]

-- all values but one are 0
one_put : (values : List ℕ) (n k : ℕ) → k < n → ((i : ℕ) → i < k → get_or values i 0 ≡ 0) → ((i : ℕ) → k < i → get_or values i 0 ≡ 0) → (i : ℕ) →
    get_or (slice_set (zeros n) k (get_or values k 0)) i 0 ≡ get_or values i 0
one_put values n k lt below above i =
    let v = get_or values k 0 in
    let long : k < length (zeros n) = omega (arith, lt, zeros_long n) in
    elim (cases_order i k) as (λ e. get_or (slice_set (zeros n) k v) i 0 ≡ get_or values i 0) [
      | inl same ↦ get_or-set_at (zeros n) k i v 0 same long ∙ ap (λ (j : ℕ). get_or values j 0) (sym same)
      | inr (inl less) ↦ get_or-set_other (zeros n) k i v 0 (λ e. omega (arith, e, less)) ∙ zero_at n i ∙ sym (below i less)
      | inr (inr more) ↦ get_or-set_other (zeros n) k i v 0 (λ e. omega (arith, e, more)) ∙ zero_at n i ∙ sym (above i more)
    ]

-- no class below this rose and none above it, so where any rose it did alone
pub one_alone : (r : Rises) (class : ℕ) → length r.value ≡ 16 → class < 16 → NoneBelow class r → NoneAbove class r →
    one_rise class (get_or r.value class 0) ≡ r
one_alone r class n lt below above =
    let long = length-set (zeros 16) class (get_or r.value class 0) ∙ zeros_long 16 ∙ sym n in
    let same = same_at _ r.value long (one_put r.value 16 class lt below above) in
    λ i. record { value = same i }
