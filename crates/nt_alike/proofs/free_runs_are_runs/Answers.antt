use Rattle.nt_alike.proofs.Free.{run_free}
use Rattle.nt_alike.proofs.free_runs_are_runs.Goals as goal

pub returns : goal.returns
returns c = run_free
