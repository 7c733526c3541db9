use Rattle.std.proofs.Common.{◌≤◌}
use Rattle.nt_people.proofs.places.left_out.Given as goal

abbrev pub invariant-loop-i : goal.invariant-loop-i
invariant-loop-i l = l.count ≤ l.i
