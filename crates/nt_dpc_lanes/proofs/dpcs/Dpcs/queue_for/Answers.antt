use Rattle.nt_dpc_lanes.proofs.Seeing.{queue_for_in}
use Rattle.nt_dpc_lanes.proofs.dpcs.Dpcs.queue_for.Goals as goal

pub returns-clause-cpu : goal.returns-clause-cpu
returns-clause-cpu c =
    rw (c.queue_for.ensures, c.object.ensures.state) (queue_for_in _ _ _ c.agree.ensures c.requires.cpu)
