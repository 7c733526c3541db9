use Rattle.nt_runs.proofs.Running.{running_has_base}
use Rattle.nt_runs.proofs.running_has_base.Goals as goal

pub returns : goal.returns
returns c = running_has_base
