use Rattle.std.proofs.Common.{◌≡◌}
use Rattle.nt_event.specs.Lists.{table}
use Rattle.nt_load.specs.Load.{timer_of_dpc}
use Rattle.nt_load.proofs.declarations.timers.Given as goal

abbrev pub invariant-loop-i : goal.invariant-loop-i
invariant-loop-i l = l.timers ≡ table l.i timer_of_dpc
