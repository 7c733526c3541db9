use Rattle.nt_laws.proofs.Fates.Once.{no_insert_is_delivered_twice}
use Rattle.nt_laws.proofs.inserts.no_insert_is_delivered_twice.Goals as goal

pub returns : goal.returns
returns c = no_insert_is_delivered_twice
