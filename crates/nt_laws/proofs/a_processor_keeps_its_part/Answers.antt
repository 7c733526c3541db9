use Rattle.nt_laws.proofs.OwnParts.{keeps_its_part}
use Rattle.nt_laws.proofs.a_processor_keeps_its_part.Goals as goal

pub returns : goal.returns
returns c = keeps_its_part
