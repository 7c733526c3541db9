use Rattle.nt_readings.proofs.Fates.{fate_is_first_use}
use Rattle.nt_readings.proofs.the_fate_is_the_first_use.Goals as goal

pub returns : goal.returns
returns c = fate_is_first_use
