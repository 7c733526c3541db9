use Rattle.nt_reader_laws.proofs.Flags.{flags_read}
use Rattle.nt_reader_laws.proofs.flags_are_set_and_kept.Goals as goal

pub returns : goal.returns
returns c = flags_read
