use Rattle.std.proofs.Common.{length, ◌++◌, ◌≡◌}
use Rattle.nt_shrink.proofs.shrinking.turns_of.Given as goal

abbrev pub invariant-loop-walk : goal.invariant-loop-walk
invariant-loop-walk l = l.turns.items ++ l.walk ≡ l.list

abbrev pub decreases-loop-walk : goal.decreases-loop-walk
decreases-loop-walk l = length l.walk
