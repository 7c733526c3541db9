use Rattle.nt_event.proofs.Moves.{lanes_move}
use Rattle.nt_runs.proofs.lanes_move.Goals as goal

pub returns : goal.returns
returns c = lanes_move
