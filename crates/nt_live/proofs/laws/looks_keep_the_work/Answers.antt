use Rattle.nt_live.proofs.Going.{looks_keep_work}
use Rattle.nt_live.proofs.laws.looks_keep_the_work.Goals as goal

pub returns : goal.returns
returns c = looks_keep_work
