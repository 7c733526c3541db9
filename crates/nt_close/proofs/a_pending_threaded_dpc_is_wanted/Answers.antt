use Rattle.nt_close.proofs.PendingDpcs.{threaded_wanted}
use Rattle.nt_close.proofs.a_pending_threaded_dpc_is_wanted.Goals as goal

pub returns : goal.returns
returns c = threaded_wanted
