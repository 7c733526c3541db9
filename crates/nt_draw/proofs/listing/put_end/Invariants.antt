use Rattle.std.proofs.Common.{◌≤◌, length}
use Rattle.nt_draw.proofs.listing.put_end.Given as goal

abbrev pub invariant-loop-length : goal.invariant-loop-length
invariant-loop-length l = l.length ≤ length l.out.items

abbrev pub decreases-loop-length : goal.decreases-loop-length
decreases-loop-length l = l.length
