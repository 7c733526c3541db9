use Rattle.std.proofs.Common.{drop, ◌≡◌}
use Rattle.nt_cpus.specs.Asking.{are_marked}
use Rattle.nt_cpus.proofs.asking.were_asked.Given as goal

abbrev pub invariant-loop-class : goal.invariant-loop-class
invariant-loop-class g l =
    are_marked (g.F.Words.view l.floor) l.cpu 0 l.rises.value ≡ are_marked (g.F.Words.view l.floor) l.cpu l.class (drop l.class l.rises.value)
