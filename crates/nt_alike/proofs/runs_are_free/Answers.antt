use Rattle.nt_alike.proofs.Free.{runs_free}
use Rattle.nt_alike.proofs.runs_are_free.Goals as goal

pub returns : goal.returns
returns c = runs_free
