use Rattle.std.proofs.Common.{◌≡◌}
use Rattle.nt_event.specs.Lists.{table}
use Rattle.nt_load.specs.Load.{idle_dpc}
use Rattle.nt_load.proofs.declarations.dpcs.Given as goal

abbrev pub invariant-loop-i : goal.invariant-loop-i
invariant-loop-i l = l.dpcs ≡ table l.i idle_dpc
