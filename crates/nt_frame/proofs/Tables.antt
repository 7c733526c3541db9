-- Tables with the same value at each place.
use Rattle.std.proofs.Common.{◌≡◌, ℕ, zero, suc, ◌+◌, List, [], ◌∷◌, ◌++◌, ap, add-one, refl}
use Rattle.nt_event.specs.Lists.{table, table_from}

-- a table of the same value with it once more at the end is the table with one more place, from any offset
same_more_from : {A : Type 0} (k n : ℕ) (x : A) → table_from k n (λ _. x) ++ x ∷ [] ≡ table_from k (suc n) (λ _. x)
unfolding table_from
same_more_from k zero x = refl
same_more_from {A} k (suc n) x = ap (λ (l : List A). x ∷ l) (same_more_from (suc k) n x)

-- a table of one value with the value once more at its end is the table with one more place
pub table-same_more : {A : Type 0} (n : ℕ) (x : A) → table n (λ _. x) ++ x ∷ [] ≡ table (n + 1) (λ _. x)
table-same_more n x = rw add-one (same_more_from 0 n x)
