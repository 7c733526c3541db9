use Rattle.nt_alike.proofs.GoOn.{goes}
use Rattle.nt_alike.proofs.alike_histories_go_on_alike.Goals as goal

pub returns : goal.returns
returns c = λ s h k e rh rk al m. goes s h k rh rk al e m
