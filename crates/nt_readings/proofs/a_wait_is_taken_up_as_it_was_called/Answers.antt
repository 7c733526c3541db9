use Rattle.nt_readings.proofs.Phases.{taken_up}
use Rattle.nt_readings.proofs.a_wait_is_taken_up_as_it_was_called.Goals as goal

pub returns : goal.returns
returns c = taken_up
