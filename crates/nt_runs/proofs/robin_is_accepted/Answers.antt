use Rattle.nt_runs.proofs.Robin.{robin_accepted}
use Rattle.nt_runs.proofs.robin_is_accepted.Goals as goal

pub returns : goal.returns
returns c = robin_accepted
