-- The sum of the values of the 16 classes.
use Rattle.std.specs.Prelude.{List, sum, ℕ, ◌<◌, ◌^◌, ◌≡◌}
use Rattle.nt_event.specs.Lists.{table, value_at}

-- of a value for each of the classes 0 to 15
abbrev pub sum_of : (ℕ → ℕ) → ℕ
sum_of values = sum (table 16 values)

-- the sum of these values, which fits in 128 bits since each of them fits in 64
pub record IsSum (n : ℕ) (values : List ℕ) : Type 0 where
  pub total : n ≡ sum_of (value_at values)
  pub fits : (c : ℕ) → value_at values c < 2 ^ 64
