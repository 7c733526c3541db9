-- Places in a list: each is below the length, and two are one only where they stand for the same thing.
use Rattle.std.proofs.Common.{arith, inl, inr}
use Rattle.std.proofs.Math.Nat.{mul-le-mul_right}
use Rattle.std.proofs.lemmas.Bool.{cases_order}
use Rattle.std.specs.Prelude.{ℕ, ◌*◌, ◌+◌, ◌<◌, ◌≡◌, ◌≤◌, ◌⊎◌}

-- a later row stands behind a whole row
row_behind : (cpus n m p : ℕ) → p < cpus → n < m → n * cpus + p < m * cpus
row_behind cpus n m p h k =
    let step : (n + 1) * cpus ≤ m * cpus = mul-le-mul_right cpus (omega arith) in omega (arith, step)

-- the row of a processor in a block of rows is below the number of all rows
pub below_rows : (cpus rows n p : ℕ) → n < rows → p < cpus → n * cpus + p < rows * cpus
below_rows cpus rows n p h k = row_behind cpus n rows p k h

-- the place of a processor and class in a block of rows is below the number of all values
pub below_values : (cpus rows n p c : ℕ) → n < rows → p < cpus → c < 16 → (n * cpus + p) * 16 + c < rows * cpus * 16
below_values cpus rows n p c h k l =
    let row : n * cpus + p < rows * cpus = below_rows cpus rows n p h k in omega (arith, row)

-- the row tells the number and the processor
pub same_row : (cpus n m p q : ℕ) → p < cpus → q < cpus → n * cpus + p ≡ m * cpus + q → (n ≡ m) × (p ≡ q)
same_row cpus n m p q h k e = go (cases_order n m)
  where
    go : (n ≡ m) ⊎ ((n < m) ⊎ (m < n)) → (n ≡ m) × (p ≡ q)
    go (inl same) =
        let f : m * cpus + p ≡ m * cpus + q = rw same at e in (same, omega (arith, f))
    go (inr (inl less)) = absurd (omega (arith, row_behind cpus n m p h less, e))
    go (inr (inr more)) = absurd (omega (arith, row_behind cpus m n q k more, e))

-- two values at the same place of a list of rows are of the same row and class
pub same_value : (r s c d : ℕ) → c < 16 → d < 16 → r * 16 + c ≡ s * 16 + d → (r ≡ s) × (c ≡ d)
same_value r s c d h k e = (omega arith, omega arith)

-- two words at the same place are of the same processor and class
pub same_word : (p q c d : ℕ) → c < 16 → d < 16 → 16 * p + c ≡ 16 * q + d → (p ≡ q) × (c ≡ d)
same_word p q c d h k e = (omega arith, omega arith)
