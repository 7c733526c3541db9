use Rattle.nt_reader_laws.proofs.AgainRun.{taken_up_where_interrupted}
use Rattle.nt_reader_laws.proofs.waits_are_taken_up_where_interrupted.Goals as goal

pub returns : goal.returns
returns c = taken_up_where_interrupted
