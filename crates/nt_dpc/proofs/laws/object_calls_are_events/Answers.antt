use Rattle.nt_dpc.proofs.Events.{object_calls_are_events}
use Rattle.nt_dpc.proofs.laws.object_calls_are_events.Goals as goal

pub returns : goal.returns
returns c = object_calls_are_events
