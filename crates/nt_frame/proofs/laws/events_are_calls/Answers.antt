use Rattle.nt_frame.proofs.EventLaw.{events_are_calls}
use Rattle.nt_frame.proofs.laws.events_are_calls.Goals as goal

pub returns : goal.returns
returns c = events_are_calls
