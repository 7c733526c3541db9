-- The calls of a source or a sink in memory: which of them fail, and how many were made and met a fault.
use Rattle.std.specs.Prelude.{List, ℕ, Contains}
use Rattle.nt_outside.specs.Counts.{counted}

-- calls are numbered from 0
pub record CallState : Type 0 where
  pub fails : List ℕ
  pub made : ℕ
  pub faults : ℕ

-- no call was made yet
abbrev pub no_calls : List ℕ → CallState
no_calls fails = record { fails = fails; made = 0; faults = 0 }

-- the next call is one of those that fail
abbrev pub NextFails : CallState → Type 0
NextFails s = Contains s.fails s.made

-- one more call was made
abbrev pub called : CallState → CallState
called s = record s { made = counted s.made 1 }

-- one more call met a fault
abbrev pub faulted : CallState → CallState
faulted s = record s { faults = counted s.faults 1 }
