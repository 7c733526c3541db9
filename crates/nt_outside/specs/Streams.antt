-- What is counted at the standard streams, which tell no bytes.
use Rattle.std.specs.Prelude.{◌≤◌, ℕ, Result, Ok, Err}
use Rattle.nt_outside.specs.Counts.{last_count, counted}

pub record InputCounts : Type 0 where
  pub taken : ℕ
  pub faults : ℕ

-- the counts after a read with this answer
abbrev pub after_read : {E : Type 0} → Result ℕ E → InputCounts → InputCounts
after_read (Ok n) s = record s { taken = counted s.taken n }
after_read (Err e) s = record s { faults = counted s.faults 1 }

-- both counts are within 64 bits
pub record FitInput (s : InputCounts) : Type 0 where
  pub taken_fits : s.taken ≤ last_count
  pub faults_fit : s.faults ≤ last_count

-- the count of faults after a write with this answer
abbrev pub after_write : {E : Type 0} → Result ℕ E → ℕ → ℕ
after_write (Ok n) faults = faults
after_write (Err e) faults = counted faults 1
