-- The sum of the words of each processor.
use Rattle.std.specs.Prelude.{List, get_or, length, ℕ, ◌*◌, ◌<◌, ◌^◌, ◌≡◌}
use Rattle.nt_event.specs.declared.numbers.CpuNo.{CpuNo}
use Rattle.nt_floor.specs.Sums.{sum_of}
use Rattle.nt_plain.specs.Places.{value_in}

-- these are the sums of the words, one for each processor
pub record AreSums (sums words : List ℕ) : Type 0 where
  pub rows : length words ≡ 16 * length sums
  pub each : (p : CpuNo) → p.0 < length sums → get_or sums p.0 0 ≡ sum_of (value_in words p)
  -- so a sum fits in 128 bits
  pub fits : (i : ℕ) → get_or words i 0 < 2 ^ 64
