use Rattle.nt_runs.proofs.Chosen.{chosen_comes}
use Rattle.nt_runs.proofs.chosen_comes.Goals as goal

pub returns : goal.returns
returns c = chosen_comes
