use Rattle.nt_reader_laws.proofs.Steps.{advances}
use Rattle.nt_reader_laws.proofs.advances_are_steps.Goals as goal

pub returns : goal.returns
returns c = advances
