use Rattle.nt_readings.proofs.Fates.{inserts_listed}
use Rattle.nt_readings.proofs.inserts_are_listed.Goals as goal

pub returns : goal.returns
returns c = inserts_listed
