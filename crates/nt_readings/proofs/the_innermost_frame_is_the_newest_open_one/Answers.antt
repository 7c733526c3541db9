use Rattle.nt_readings.proofs.Innermost.{innermost_greatest}
use Rattle.nt_readings.proofs.the_innermost_frame_is_the_newest_open_one.Goals as goal

pub returns : goal.returns
returns c = innermost_greatest
