use Rattle.nt_dpc_lanes.proofs.Seeing.{queued_in}
use Rattle.nt_dpc_lanes.proofs.dpcs.Dpcs.standing.Goals as goal

pub returns-clause-cpu : goal.returns-clause-cpu
returns-clause-cpu c =
    rw (c.standing.ensures, c.object.ensures.state) (queued_in _ _ c.agree.ensures)
