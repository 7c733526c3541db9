use Rattle.nt_event.specs.Objects.{standing}
use Rattle.nt_left.specs.Walks.{past_of}
use Rattle.nt_left.proofs.Dpcs.{in_no_queue}
use Rattle.nt_left.proofs.gathering.dpc_left.Goals as goal

pub returns-in-None : goal.returns-in-None
returns-in-None c =
    let e = c.args.end.now in
    in_no_queue e.script.now e.limit (past_of e.events) c.args.dpc (standing c.args.dpc (past_of e.events)) c.in-None.ensures.queue
