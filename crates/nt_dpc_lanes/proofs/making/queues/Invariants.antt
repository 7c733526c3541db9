use Rattle.std.proofs.Common.{◌≡◌}
use Rattle.nt_dpc_lanes.specs.Agree.{new_queues}
use Rattle.nt_dpc_lanes.proofs.making.queues.Given as goal

abbrev pub invariant-loop-i : goal.invariant-loop-i
invariant-loop-i l = l.queues.items ≡ new_queues l.fn.script l.i
