use Rattle.nt_runs.proofs.Facts.{agree}
use Rattle.nt_runs.proofs.facts_agree.Goals as goal

pub returns : goal.returns
returns c = agree
