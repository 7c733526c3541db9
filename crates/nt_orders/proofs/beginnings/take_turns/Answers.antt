use Rattle.nt_orders.proofs.Taking.{way_more}
use Rattle.nt_orders.proofs.beginnings.take_turns.Goals as goal

pub loop-walk-preserved : goal.loop-walk-preserved
loop-walk-preserved c =
    way_more c.args.turns.now c.loop-walk.walk c.next.new.self c.loop-walk.at c.next.new.turn c.in-Ok.field-0 c.args.core.now c.loop-walk.core
    c.turn.new.self c.loop-walk.invariant (c.next.ensures.some c.loop-walk-test.true) c.in-Ok.ensures.ok.0 c.in-Ok.ensures.ok.1
