use Rattle.nt_readings.proofs.Phases.{frames_told}
use Rattle.nt_readings.proofs.frames_are_told_by_their_present_phase.Goals as goal

pub returns : goal.returns
returns c = frames_told
