use Rattle.nt_dpc.proofs.Events.{queue_calls_are_events}
use Rattle.nt_dpc.proofs.laws.queue_calls_are_events.Goals as goal

pub returns : goal.returns
returns c = queue_calls_are_events
