use Rattle.nt_readings.proofs.Frames.{own_lists}
use Rattle.nt_readings.proofs.own_frames_are_the_open_ones.Goals as goal

pub returns : goal.returns
returns c = own_lists
