-- A sink in memory: what a call does to it.
use Rattle.std.specs.Prelude.{◌≡◌, ◌-◌, ◌<◌, ◌≤◌, ◌⊎◌, ℕ, List, [], ◌++◌, Result, Ok, Err, length, take, min}
use Rattle.nt_outside.specs.Counts.{last_count}
use Rattle.nt_outside.specs.Calls.{CallState, no_calls, called, faulted, NextFails}

pub record SinkState : Type 0 where
  pub held : List ℕ
  -- how many bytes it holds at most
  pub room : ℕ
  -- how many bytes a call moves at most
  pub piece : ℕ
  pub calls : CallState

abbrev pub new_sink : ℕ → ℕ → List ℕ → SinkState
new_sink room piece fails = record { held = []; room = room; piece = piece; calls = no_calls fails }

-- it holds as many bytes as it has room for
abbrev pub IsFull : SinkState → Type 0
IsFull s = length s.held ≡ s.room

-- a call with these bytes fails: it is one of those that fail, or there are bytes and no room
abbrev pub RefusesNext : List ℕ → SinkState → Type 0
RefusesNext bytes s = NextFails s.calls ⊎ (IsFull s × (0 < length bytes))

-- how many bytes a call with this many bytes moves, where it doesn't fail
abbrev pub piece_of : SinkState → ℕ → ℕ
piece_of s offered = min (min s.piece offered) (s.room - length s.held)

-- the sink after a call with these bytes and this answer
abbrev pub after_give : {E : Type 0} → Result ℕ E → List ℕ → SinkState → SinkState
after_give (Ok n) bytes s = record s { held = s.held ++ take n bytes; calls = called s.calls }
after_give (Err e) bytes s = record s { calls = faulted (called s.calls) }

-- what is true of each sink in memory
pub record IsMemorySink (s : SinkState) : Type 0 where
  pub moves : 1 ≤ s.piece
  pub in_room : length s.held ≤ s.room
  pub faults_fit : s.calls.faults ≤ last_count
