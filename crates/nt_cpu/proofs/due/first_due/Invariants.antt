use Rattle.std.proofs.Common.{drop, ◌≡◌}
use Rattle.std.specs.Prelude.{find}
use Rattle.nt_cpu.specs.Due.{is_unserved}
use Rattle.nt_cpu.proofs.due.first_due.Given as goal

abbrev pub invariant-loop-class : goal.invariant-loop-class
invariant-loop-class l =
    find (is_unserved l.seen l.served) l.classes ≡ find (is_unserved l.seen l.served) (drop l.class-index l.classes)
