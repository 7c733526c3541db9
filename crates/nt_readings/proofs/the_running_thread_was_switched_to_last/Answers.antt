use Rattle.nt_readings.proofs.Innermost.{running_is_last}
use Rattle.nt_readings.proofs.the_running_thread_was_switched_to_last.Goals as goal

pub returns : goal.returns
returns c = running_is_last
