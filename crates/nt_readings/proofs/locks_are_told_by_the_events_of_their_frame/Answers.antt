use Rattle.nt_readings.proofs.Locks.{locks_told}
use Rattle.nt_readings.proofs.locks_are_told_by_the_events_of_their_frame.Goals as goal

pub returns : goal.returns
returns c = locks_told
