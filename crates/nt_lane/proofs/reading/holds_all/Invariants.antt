use Rattle.std.proofs.Common.{drop}
use Rattle.nt_states.specs.Reads.{AreHeld}
use Rattle.nt_lane.specs.Answers.{IsHeld}
use Rattle.nt_lane.proofs.reading.holds_all.Given as goal

abbrev pub invariant-loop-lane : goal.invariant-loop-lane
invariant-loop-lane l = AreHeld (IsHeld l.held) (drop l.lane-index l.lanes) → AreHeld (IsHeld l.held) l.lanes
