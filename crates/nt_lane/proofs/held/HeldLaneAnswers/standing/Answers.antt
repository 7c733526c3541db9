use Rattle.nt_lane.proofs.Holding.{standing_named}
use Rattle.nt_lane.proofs.held.HeldLaneAnswers.standing.Goals as goal

pub returns-clause-named : goal.returns-clause-named
returns-clause-named c = standing_named c.args.self.now.script c.object.result.now.state.standing _ c.standing.ensures c.object.ensures.there.standing
