use Rattle.nt_runs.proofs.Settled.{seen_below}
use Rattle.nt_runs.proofs.seen_was_asked.Goals as goal

pub returns : goal.returns
returns c = seen_below
