use Rattle.nt_verdict.proofs.Verdicts.{show_alike}
use Rattle.nt_verdict.proofs.alike_histories_show_alike.Goals as goal

pub returns : goal.returns
returns c = show_alike
