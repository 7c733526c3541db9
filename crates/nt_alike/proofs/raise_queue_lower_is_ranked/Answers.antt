use Rattle.nt_alike.proofs.RaiseQueueLower.{ranked}
use Rattle.nt_alike.proofs.raise_queue_lower_is_ranked.Goals as goal

pub returns : goal.returns
returns c = ranked
