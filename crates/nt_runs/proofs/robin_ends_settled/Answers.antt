use Rattle.nt_runs.proofs.Settled.{robin_ends_settled}
use Rattle.nt_runs.proofs.robin_ends_settled.Goals as goal

pub returns : goal.returns
returns c = robin_ends_settled
