use Rattle.nt_laws.proofs.Holders.{stopped_none}
use Rattle.nt_laws.proofs.locks.a_thread_that_does_not_run_holds_no_lock.Goals as goal

pub returns : goal.returns
returns c = stopped_none
