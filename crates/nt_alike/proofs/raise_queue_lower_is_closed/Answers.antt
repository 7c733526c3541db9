use Rattle.nt_alike.proofs.RaiseQueueLower.{closed}
use Rattle.nt_alike.proofs.raise_queue_lower_is_closed.Goals as goal

pub returns : goal.returns
returns c = closed
