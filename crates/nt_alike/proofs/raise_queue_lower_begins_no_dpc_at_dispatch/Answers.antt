use Rattle.nt_alike.proofs.RaiseQueueLower.{waits_for_the_lower}
use Rattle.nt_alike.proofs.raise_queue_lower_begins_no_dpc_at_dispatch.Goals as goal

pub returns : goal.returns
returns c = waits_for_the_lower
