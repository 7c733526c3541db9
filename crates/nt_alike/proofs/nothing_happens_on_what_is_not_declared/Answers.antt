use Rattle.nt_alike.proofs.Declared.{nothing_beyond}
use Rattle.nt_alike.proofs.nothing_happens_on_what_is_not_declared.Goals as goal

pub returns : goal.returns
returns c = nothing_beyond
