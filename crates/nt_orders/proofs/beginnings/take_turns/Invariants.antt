use Rattle.std.proofs.Common.{length}
use Rattle.nt_orders.proofs.Taking.{IsOnWay}
use Rattle.nt_orders.proofs.beginnings.take_turns.Given as goal

abbrev pub invariant-loop-walk : goal.invariant-loop-walk
invariant-loop-walk l = IsOnWay l.turns l.walk l.at l.fn.core l.core

abbrev pub decreases-loop-walk : goal.decreases-loop-walk
decreases-loop-walk l = length l.walk
