use Rattle.nt_dpc.proofs.Pending.{removed_is_gone}
use Rattle.nt_dpc.proofs.laws.removed_is_gone.Goals as goal

pub returns : goal.returns
returns c = removed_is_gone
