use Rattle.nt_mark.specs.Names.{pass_view}
use Rattle.nt_lane.proofs.Marked.{all_marked}
use Rattle.nt_lane.proofs.marking.mark_all.Goals as goal

pub returns-clause-marked : goal.returns-clause-marked
returns-clause-marked c =
    all_marked c.args.n c.loop-ask.ask-index c.args.asks.now (pass_view c.args.pass.now) (pass_view c.loop-ask.pass) c.loop-ask-test.false
    c.loop-ask.invariant.rest
