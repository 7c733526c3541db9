use Rattle.std.proofs.Common.{length, ◌*◌, ◌-◌}
use Rattle.nt_orders.proofs.Settling.{IsSettling}
use Rattle.nt_orders.proofs.machines.settle.Given as goal

abbrev pub invariant-loop-turn : goal.invariant-loop-turn
invariant-loop-turn l = IsSettling l.fn.core l.core

abbrev pub decreases-loop-turn : goal.decreases-loop-turn
decreases-loop-turn l = l.fn.core.script.cpus * l.fn.core.limit - length l.core.past
