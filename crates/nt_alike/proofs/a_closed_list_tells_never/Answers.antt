use Rattle.nt_alike.proofs.Closed.{never_in_runs}
use Rattle.nt_alike.proofs.a_closed_list_tells_never.Goals as goal

pub returns : goal.returns
returns c = never_in_runs
