use Rattle.nt_rounds.proofs.Going.{longest}
use Rattle.nt_rounds.proofs.depths_are_of_longest_paths.Goals as goal

pub returns : goal.returns
returns c = longest
