use Rattle.nt_verdict.proofs.Row.{closed}
use Rattle.nt_verdict.proofs.raise_queue_lower_is_closed_whatever_is_watched.Goals as goal

pub returns : goal.returns
returns c = closed
