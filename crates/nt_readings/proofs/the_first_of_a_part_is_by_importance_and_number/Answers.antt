use Rattle.nt_runs.proofs.First.{first_is_first}
use Rattle.nt_readings.proofs.the_first_of_a_part_is_by_importance_and_number.Goals as goal

pub returns : goal.returns
returns c = first_is_first
