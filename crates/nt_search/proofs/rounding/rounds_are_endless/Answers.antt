use Rattle.nt_search.proofs.GoingRound.{endless}
use Rattle.nt_search.proofs.rounding.rounds_are_endless.Goals as goal

pub returns : goal.returns
returns c = endless
