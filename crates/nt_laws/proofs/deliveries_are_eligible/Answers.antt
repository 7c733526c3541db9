use Rattle.nt_laws.proofs.Deliveries.{deliveries_are_eligible}
use Rattle.nt_laws.proofs.deliveries_are_eligible.Goals as goal

pub returns : goal.returns
returns c = deliveries_are_eligible
