use Rattle.nt_witness.proofs.Leading.{begun_on, begun_whole, not_begun}
use Rattle.nt_witness.proofs.completing.begun.Goals as goal

pub loop-turn-init : goal.loop-turn-init
loop-turn-init c = not_begun c.args.script.now c.args.limit c.args.turns.now c.in_ok-core.core c.in_ok-core.ensures

pub loop-turn-preserved : goal.loop-turn-preserved
loop-turn-preserved c =
    begun_on c.args.script.now c.args.limit c.loop-turn.turn-index c.args.turns.now _ c.loop-turn.core c.take.new.core c.requires.room
    c.loop-turn-test.true c.loop-turn.invariant c.take.ensures

pub returns-clause-past : goal.returns-clause-past
returns-clause-past c h lead =
    begun_whole c.args.script.now c.args.limit c.loop-turn.turn-index c.args.turns.now c.loop-turn.core h c.loop-turn-test.false c.loop-turn.invariant lead
