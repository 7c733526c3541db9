use Rattle.nt_orders.proofs.Drawn.{IsDrawn}
use Rattle.nt_orders.proofs.drawing.usual_turn.Given as goal

abbrev pub invariant-loop-p : goal.invariant-loop-p
invariant-loop-p l = IsDrawn l.core.script l.core.limit l.core.past l.p l.count l.drawn
