use Rattle.nt_readings.proofs.Timers.{first_due_least}
use Rattle.nt_readings.proofs.the_first_due_key_is_least.Goals as goal

pub returns : goal.returns
returns c = first_due_least
