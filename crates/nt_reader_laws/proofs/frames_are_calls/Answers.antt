use Rattle.nt_reader_laws.proofs.Frames.{frames_are_calls}
use Rattle.nt_reader_laws.proofs.frames_are_calls.Goals as goal

pub returns : goal.returns
returns c = frames_are_calls
