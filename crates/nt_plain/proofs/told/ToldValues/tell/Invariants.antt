use Rattle.std.proofs.Common.{drop, length, ◌≡◌}
use Rattle.nt_states.specs.LaneLists.{as_asks}
use Rattle.nt_plain.specs.Made.{tell_lanes}
use Rattle.nt_plain.proofs.told.ToldValues.tell.Given as goal

abbrev pub invariant-loop-lane : goal.invariant-loop-lane
invariant-loop-lane l = record {
  rest : tell_lanes l.script l.to (drop l.lane-index l.lanes) (as_asks l.asks) l.self ≡ tell_lanes l.script l.to l.lanes (as_asks l.asks) l.initial.self;
  len : length l.self ≡ length l.initial.self;
}
