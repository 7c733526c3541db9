use Rattle.nt_laws.proofs.Fates.Apcs.{at_most_one_apc}
use Rattle.nt_laws.proofs.inserts.an_apc_object_has_at_most_one_pending_insert.Goals as goal

pub returns : goal.returns
returns c = at_most_one_apc
