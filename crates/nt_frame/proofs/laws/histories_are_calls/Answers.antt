use Rattle.nt_frame.proofs.EventLaw.{histories_are_calls}
use Rattle.nt_frame.proofs.laws.histories_are_calls.Goals as goal

pub returns : goal.returns
returns c = histories_are_calls
