use Rattle.nt_readings.proofs.Declared.{holds_of_each}
use Rattle.nt_readings.proofs.inserts_of_a_fitting_script.Goals as goal

pub returns : goal.returns
returns c = holds_of_each
