use Rattle.nt_close.proofs.PendingDpcs.{ordinary_wanted}
use Rattle.nt_close.proofs.a_pending_ordinary_dpc_is_wanted_at_rest.Goals as goal

pub returns : goal.returns
returns c = ordinary_wanted
