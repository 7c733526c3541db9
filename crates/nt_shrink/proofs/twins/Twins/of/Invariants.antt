use Rattle.std.proofs.Common.{length}
use Rattle.nt_shrink.proofs.Pairs.{IsPaired}
use Rattle.nt_shrink.proofs.twins.Twins.of.Given as goal

abbrev pub invariant-loop-walk : goal.invariant-loop-walk
invariant-loop-walk l = IsPaired l.list l.walk l.twins.flags.items l.last

abbrev pub decreases-loop-walk : goal.decreases-loop-walk
decreases-loop-walk l = length l.walk
