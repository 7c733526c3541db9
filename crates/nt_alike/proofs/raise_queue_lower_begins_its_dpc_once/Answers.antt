use Rattle.nt_alike.proofs.RaiseQueueLower.{begins_once}
use Rattle.nt_alike.proofs.raise_queue_lower_begins_its_dpc_once.Goals as goal

pub returns : goal.returns
returns c = begins_once
