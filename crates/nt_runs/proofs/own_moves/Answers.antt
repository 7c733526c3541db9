use Rattle.nt_event.proofs.Moves.{own_moves}
use Rattle.nt_runs.proofs.own_moves.Goals as goal

pub returns : goal.returns
returns c = own_moves
