use Rattle.nt_close.proofs.Closed.{nothing_is_eligible}
use Rattle.nt_close.proofs.nothing_is_eligible.Goals as goal

pub returns : goal.returns
returns c = nothing_is_eligible
