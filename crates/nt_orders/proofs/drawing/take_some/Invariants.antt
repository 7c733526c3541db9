use Rattle.std.proofs.Common.{◌≡◌}
use Rattle.nt_orders.proofs.drawing.take_some.Given as goal

abbrev pub invariant-loop : goal.invariant-loop
invariant-loop l = l.core ≡ l.fn.core
