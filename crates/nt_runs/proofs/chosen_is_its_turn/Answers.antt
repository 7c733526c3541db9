use Rattle.nt_runs.proofs.Chosen.{chosen_is_its_turn}
use Rattle.nt_runs.proofs.chosen_is_its_turn.Goals as goal

pub returns : goal.returns
returns c = chosen_is_its_turn
