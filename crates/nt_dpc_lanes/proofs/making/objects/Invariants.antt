use Rattle.std.proofs.Common.{◌≡◌}
use Rattle.nt_dpc_lanes.specs.Agree.{new_objects}
use Rattle.nt_dpc_lanes.proofs.making.objects.Given as goal

abbrev pub invariant-loop-i : goal.invariant-loop-i
invariant-loop-i l = l.objects.items ≡ new_objects l.fn.script l.i
