use Rattle.nt_readings.proofs.FirstApcs.{picks_fall}
use Rattle.nt_readings.proofs.pending_apcs_stand_by_number.Goals as goal

pub returns : goal.returns
returns c = picks_fall
