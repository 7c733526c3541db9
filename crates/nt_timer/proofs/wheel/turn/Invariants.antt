use Rattle.std.proofs.Common.{◌≡◌, ◌≤◌}
use Rattle.nt_timer.specs.declared.rings.TheConstants.{HEADS}
use Rattle.std.specs.Vec.{vec_capacity}
use Rattle.nt_timer.specs.Wheel.{IsTurned}
use Rattle.nt_timer.proofs.wheel.turn.Given as goal

abbrev pub invariant-loop-slot : goal.invariant-loop-slot
invariant-loop-slot l = record {
  turned : IsTurned l.lowest l.past l.now l.slot l.settings l.rings l.due.items;
  small : l.lowest ≤ HEADS;
  room : vec_capacity l.due ≡ vec_capacity l.fn.due;
}
