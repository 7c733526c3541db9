-- A source in memory: what a call does to it.
use Rattle.std.specs.Prelude.{◌≤◌, ℕ, List, Result, Ok, Err, length, drop, min}
use Rattle.nt_outside.specs.Counts.{last_count, counted}
use Rattle.nt_outside.specs.Calls.{CallState, no_calls, called, faulted}

pub record SourceState : Type 0 where
  -- the bytes that are left, and how many were taken
  pub left : List ℕ
  pub taken : ℕ
  -- how many bytes a call moves at most
  pub piece : ℕ
  pub calls : CallState

abbrev pub new_source : List ℕ → ℕ → List ℕ → SourceState
new_source bytes piece fails = record { left = bytes; taken = 0; piece = piece; calls = no_calls fails }

-- how many bytes a call with this much room moves, where it doesn't fail
abbrev pub piece_for : SourceState → ℕ → ℕ
piece_for s room = min (min s.piece room) (length s.left)

-- the source after a call with this answer
abbrev pub after_take : {E : Type 0} → Result ℕ E → SourceState → SourceState
after_take (Ok n) s = record s { left = drop n s.left; taken = counted s.taken n; calls = called s.calls }
after_take (Err e) s = record s { calls = faulted (called s.calls) }

-- what is true of each source in memory
pub record IsMemorySource (s : SourceState) : Type 0 where
  pub moves : 1 ≤ s.piece
  pub taken_fits : s.taken ≤ last_count
  pub faults_fit : s.calls.faults ≤ last_count
