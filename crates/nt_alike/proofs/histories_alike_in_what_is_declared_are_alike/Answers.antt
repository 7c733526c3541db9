use Rattle.nt_alike.proofs.Compared.{declared_alike}
use Rattle.nt_alike.proofs.histories_alike_in_what_is_declared_are_alike.Goals as goal

pub returns : goal.returns
returns c = declared_alike
