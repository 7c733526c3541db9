use Rattle.nt_dpc.proofs.Pending.{one_entry_each}
use Rattle.nt_dpc.proofs.laws.one_entry_each.Goals as goal

pub returns : goal.returns
returns c = one_entry_each
