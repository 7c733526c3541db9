use Rattle.nt_runs.proofs.Allowed.{processors_stand}
use Rattle.nt_runs.proofs.processors_stand.Goals as goal

pub returns : goal.returns
returns c = processors_stand
