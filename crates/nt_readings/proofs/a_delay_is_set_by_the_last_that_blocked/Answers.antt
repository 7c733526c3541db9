use Rattle.nt_readings.proofs.Timers.{delays_set_last}
use Rattle.nt_readings.proofs.a_delay_is_set_by_the_last_that_blocked.Goals as goal

pub returns : goal.returns
returns c = delays_set_last
