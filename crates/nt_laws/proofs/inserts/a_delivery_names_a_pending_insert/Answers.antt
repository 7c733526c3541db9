use Rattle.nt_laws.proofs.Fates.Deliveries.{deliveries_name_pending_inserts}
use Rattle.nt_laws.proofs.inserts.a_delivery_names_a_pending_insert.Goals as goal

pub returns : goal.returns
returns c = deliveries_name_pending_inserts
