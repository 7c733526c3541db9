-- Looks with a value for each class.
use Rattle.std.proofs.Common.{arith, ap, ◌∙◌}
use Rattle.std.proofs.lemmas.List.{length-append, length-replicate}
use Rattle.std.proofs.lemmas.List.Folds.{list_any-append}
use Rattle.std.specs.List.{list_any}
use Rattle.std.specs.Prelude.{Bool, List, [], length, nat_lt, refl, replicate, suc, true, zero, ℕ, ◌++◌, ◌-◌, ◌||◌, ◌∷◌, ◌≡◌, ◌≤◌}
use Rattle.nt_event.specs.Lists.{value_at}
use Rattle.nt_ahead.specs.Turns.{filled}

-- each value of a list of zeros is zero, also after its end
zeros : (n i : ℕ) → value_at (replicate n 0) i ≡ 0
zeros zero i = refl
zeros (suc n) zero = refl
zeros (suc n) (suc i) = zeros n i

-- zeros behind a list of values change none of them
behind : (xs : List ℕ) (n i : ℕ) → value_at (xs ++ replicate n 0) i ≡ value_at xs i
behind [] n i = zeros n i
behind (x ∷ xs) n zero = refl
behind (x ∷ xs) n (suc i) = behind xs n i

-- filling a look's values up with zeros changes the value of no class
pub filled_reads : (vs : List ℕ) (c : ℕ) → value_at (filled vs) c ≡ value_at vs c
filled_reads vs c = behind vs (16 - length vs) c

-- a look of at most 16 values has exactly 16 once it is filled up
pub filled_length : (vs : List ℕ) → length vs ≤ 16 → length (filled vs) ≡ 16
filled_length vs l =
    let a = length-append vs (replicate (16 - length vs) 0) in
    let b = length-replicate {A = ℕ} (16 - length vs) 0 in
    omega (arith, a, b, l)

-- what finds something finds it still
pub filled_any : (vs : List ℕ) → list_any (nat_lt 0) vs ≡ true → list_any (nat_lt 0) (filled vs) ≡ true
filled_any vs h = list_any-append (nat_lt 0) vs (replicate (16 - length vs) 0) ∙ ap (λ (b : Bool). b || list_any (nat_lt 0) (replicate (16 - length vs) 0)) h
