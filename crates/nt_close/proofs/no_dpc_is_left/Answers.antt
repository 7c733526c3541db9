use Rattle.nt_close.proofs.Closed.{no_dpc_is_left}
use Rattle.nt_close.proofs.no_dpc_is_left.Goals as goal

pub returns : goal.returns
returns c = no_dpc_is_left
