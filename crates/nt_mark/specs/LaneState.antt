-- The states of the lanes behind one lock, as a note keeps them: nt_event's lane states. Nothing of this crate looks
-- into one.
use Rattle.std.specs.Prelude.{[]}
use Rattle.nt_event.specs.LaneStates.{LaneState as StateOfLane, OfObject}
use Rattle.nt_event.specs.Objects.{start_object}

abbrev pub LaneState : Type 0
LaneState = StateOfLane

-- some state, for a value that no code makes
abbrev pub any_state : LaneState
any_state = record { content = OfObject start_object; told = [] }
