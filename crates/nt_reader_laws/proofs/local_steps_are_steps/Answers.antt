use Rattle.nt_reader_laws.proofs.Steps.{local_steps}
use Rattle.nt_reader_laws.proofs.local_steps_are_steps.Goals as goal

pub returns : goal.returns
returns c = local_steps
