use Rattle.nt_rounds.proofs.Going.{goes_on}
use Rattle.nt_rounds.proofs.rounds_go_on.Goals as goal

pub returns : goal.returns
returns c = goes_on
