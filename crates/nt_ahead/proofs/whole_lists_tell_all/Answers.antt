use Rattle.nt_ahead.proofs.Like.{has_turn}
use Rattle.nt_ahead.proofs.whole_lists_tell_all.Goals as goal

pub returns : goal.returns
returns c = has_turn
