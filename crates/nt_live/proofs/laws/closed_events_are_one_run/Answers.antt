use Rattle.nt_live.proofs.Wholes.{gathers}
use Rattle.nt_live.proofs.laws.closed_events_are_one_run.Goals as goal

pub returns : goal.returns
returns c = gathers
