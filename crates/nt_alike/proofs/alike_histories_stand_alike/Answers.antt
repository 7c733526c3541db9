use Rattle.nt_alike.proofs.Questions.{stand_alike}
use Rattle.nt_alike.proofs.alike_histories_stand_alike.Goals as goal

pub returns : goal.returns
returns c = stand_alike
