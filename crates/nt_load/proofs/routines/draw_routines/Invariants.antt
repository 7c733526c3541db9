use Rattle.std.proofs.Common.{◌≡◌, ◌∷◌, ◌*◌}
use Rattle.nt_event.specs.Lists.{table}
use Rattle.nt_load.specs.Commands.{begin}
use Rattle.nt_load.specs.Load.{busy_routine, idle_routine}
use Rattle.nt_load.proofs.routines.draw_routines.Given as goal

abbrev pub invariant-loop-r : goal.invariant-loop-r
invariant-loop-r l =
    (l.routines ≡ idle_routine ∷ table l.r (busy_routine l.seed)) × l.draws.number ≡ begin (128 * l.r) l.seed
