use Rattle.nt_lane.proofs.Holding.{named_for}
use Rattle.nt_lane.proofs.held.HeldLaneAnswers.queue_for.Goals as goal

pub returns-clause-named : goal.returns-clause-named
returns-clause-named c =
    rw c.queue_for.ensures (named_for c.args.self.now.script c.object.result.now.state.target c.args.by c.object.ensures.there.target c.requires.cpu)
