use Rattle.std.specs.Prelude.{drop, ◌≡◌}
use Rattle.nt_lane.specs.Needed.{with_lanes}
use Rattle.nt_lane.proofs.needs.Needs.with_all.Given as goal

-- what is left gives what all give
abbrev pub invariant-loop-lane : goal.invariant-loop-lane
invariant-loop-lane l = with_lanes l.needs (drop l.lane-index l.lanes) ≡ with_lanes l.fn.self l.lanes
