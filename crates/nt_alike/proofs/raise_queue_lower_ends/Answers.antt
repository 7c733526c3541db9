use Rattle.nt_alike.proofs.RaiseQueueLower.{ends}
use Rattle.nt_alike.proofs.raise_queue_lower_ends.Goals as goal

pub returns : goal.returns
returns c = ends
