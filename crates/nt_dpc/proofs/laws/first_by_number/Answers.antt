use Rattle.nt_dpc.proofs.Pending.{first_by_number}
use Rattle.nt_dpc.proofs.laws.first_by_number.Goals as goal

pub returns : goal.returns
returns c = first_by_number
