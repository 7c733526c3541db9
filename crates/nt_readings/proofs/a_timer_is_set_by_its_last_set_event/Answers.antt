use Rattle.nt_readings.proofs.Timers.{timers_set_last}
use Rattle.nt_readings.proofs.a_timer_is_set_by_its_last_set_event.Goals as goal

pub returns : goal.returns
returns c = timers_set_last
