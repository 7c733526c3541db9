use Rattle.nt_lane.proofs.Opening.{queue_opens}
use Rattle.nt_lane.proofs.making.queue_lane.Goals as goal

pub opening-requires-clause-opens : goal.opening-requires-clause-opens
opening-requires-clause-opens g c =
    queue_opens g.N.Plan.script c.args.p _ _ c.in_ok-queue.queue c.requires.cpu c.in_ok-queue.ensures
