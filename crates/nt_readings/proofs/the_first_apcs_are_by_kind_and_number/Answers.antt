use Rattle.nt_readings.proofs.FirstApcs.{firsts_by_number}
use Rattle.nt_readings.proofs.the_first_apcs_are_by_kind_and_number.Goals as goal

pub returns : goal.returns
returns c = firsts_by_number
