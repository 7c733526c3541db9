use Rattle.std.proofs.Common.{drop, ◌≡◌}
use Rattle.nt_cpu.specs.Turns.{rise_above}
use Rattle.nt_cpu.proofs.looks.all_above.Given as goal

abbrev pub invariant-loop-class : goal.invariant-loop-class
invariant-loop-class l =
    rise_above 0 l.values l.seen ≡ rise_above l.class (drop l.class l.values) l.seen
