use Rattle.nt_runs.proofs.Allowed.{jobs_allowed}
use Rattle.nt_runs.proofs.jobs_allowed.Goals as goal

pub returns : goal.returns
returns c = jobs_allowed
