use Rattle.nt_laws.proofs.Fates.Once.{delivered_inserts_wait}
use Rattle.nt_laws.proofs.inserts.what_is_delivered_waits.Goals as goal

pub returns : goal.returns
returns c = delivered_inserts_wait
