use Rattle.nt_reader_laws.proofs.Waits.{waits_are_read}
use Rattle.nt_reader_laws.proofs.waits_are_read.Goals as goal

pub returns : goal.returns
returns c = waits_are_read
