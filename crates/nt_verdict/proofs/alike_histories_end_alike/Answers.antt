use Rattle.nt_verdict.proofs.Verdicts.{end_alike}
use Rattle.nt_verdict.proofs.alike_histories_end_alike.Goals as goal

pub returns : goal.returns
returns c = end_alike
