use Rattle.nt_laws.proofs.Local.{step_is_local}
use Rattle.nt_laws.proofs.step_is_local.Goals as goal

pub returns : goal.returns
returns c = step_is_local
