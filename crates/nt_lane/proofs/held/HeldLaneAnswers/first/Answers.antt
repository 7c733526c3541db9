use Rattle.nt_lane.proofs.Holding.{first_named}
use Rattle.nt_lane.proofs.held.HeldLaneAnswers.first.Goals as goal

pub returns-clause-named : goal.returns-clause-named
returns-clause-named c = first_named c.args.self.now.script c.args.part _ _ c.queue.ensures.there.entries c.first.ensures.value
