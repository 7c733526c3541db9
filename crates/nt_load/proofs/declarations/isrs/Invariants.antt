use Rattle.std.proofs.Common.{◌≡◌}
use Rattle.nt_event.specs.Lists.{table}
use Rattle.nt_load.specs.Load.{idle_isr}
use Rattle.nt_load.proofs.declarations.isrs.Given as goal

abbrev pub invariant-loop-p : goal.invariant-loop-p
invariant-loop-p l = (l.level ≡ 5) × l.isrs ≡ table l.p idle_isr
