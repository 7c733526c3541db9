use Rattle.std.proofs.Common.{length}
use Rattle.nt_people.proofs.near.kind_of_name.Given as goal

abbrev pub decreases-loop-line : goal.decreases-loop-line
decreases-loop-line l = length l.lines
