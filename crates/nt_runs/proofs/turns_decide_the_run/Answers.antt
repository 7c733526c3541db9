use Rattle.nt_runs.proofs.Turns.{turns_decide}
use Rattle.nt_runs.proofs.turns_decide_the_run.Goals as goal

pub returns : goal.returns
returns c = turns_decide
