use Rattle.nt_readings.proofs.OneFate.{each_insert_has_one_fate as proved, waiting_are_the_pending}
use Rattle.nt_readings.proofs.each_insert_has_one_fate.Goals as goal

pub returns-clause-one : goal.returns-clause-one
returns-clause-one c = proved

pub returns-clause-waiting : goal.returns-clause-waiting
returns-clause-waiting c = waiting_are_the_pending
