use Rattle.nt_readings.proofs.Threads.{thread_lists}
use Rattle.nt_readings.proofs.thread_frames_are_the_open_ones.Goals as goal

pub returns : goal.returns
returns c = thread_lists
