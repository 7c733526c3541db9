use Rattle.std.proofs.Common.{length}
use Rattle.nt_lab.specs.Looks.{TurnsAreWhole}
use Rattle.nt_lab.proofs.looks.read_looks.Given as goal

-- all are whole, if those that are left are
abbrev pub invariant-loop-walk : goal.invariant-loop-walk
invariant-loop-walk l = TurnsAreWhole l.walk → TurnsAreWhole l.list

abbrev pub decreases-loop-walk : goal.decreases-loop-walk
decreases-loop-walk l = length l.walk
