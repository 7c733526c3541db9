use Rattle.nt_laws.proofs.Fates.Agree.{at_most_one}
use Rattle.nt_laws.proofs.inserts.a_dpc_object_has_at_most_one_pending_insert.Goals as goal

pub returns : goal.returns
returns c = at_most_one
