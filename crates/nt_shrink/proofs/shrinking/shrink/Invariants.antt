use Rattle.std.proofs.Common.{length}
use Rattle.nt_shrink.proofs.Shrunk.{IsShort}
use Rattle.nt_shrink.proofs.shrinking.shrink.Given as goal

abbrev pub invariant-loop-short : goal.invariant-loop-short
invariant-loop-short l = IsShort l.script l.turns l.goal l.list l.short

abbrev pub decreases-loop-short : goal.decreases-loop-short
decreases-loop-short l = length l.short
