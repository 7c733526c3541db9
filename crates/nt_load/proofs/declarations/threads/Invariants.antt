use Rattle.std.proofs.Common.{◌≡◌}
use Rattle.nt_event.specs.Lists.{table}
use Rattle.nt_load.specs.Load.{busy_thread}
use Rattle.nt_load.proofs.declarations.threads.Given as goal

abbrev pub invariant-loop-i : goal.invariant-loop-i
invariant-loop-i l = l.threads ≡ table l.i busy_thread
