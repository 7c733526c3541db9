use Rattle.nt_runs.proofs.Shared.{events_agree}
use Rattle.nt_runs.proofs.events_agree.Goals as goal

pub returns : goal.returns
returns c = events_agree
