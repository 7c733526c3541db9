use Rattle.std.proofs.Common.{◌≡◌}
use Rattle.nt_load.specs.Load.{with_spelled}
use Rattle.nt_load.proofs.names.name_things.Given as goal

abbrev pub invariant-loop-i : goal.invariant-loop-i
invariant-loop-i l = l.names ≡ with_spelled l.kind l.letter l.i l.fn.names
