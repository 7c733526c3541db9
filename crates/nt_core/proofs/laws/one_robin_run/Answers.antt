use Rattle.nt_core.proofs.OneRobin.{one_whole_robin}
use Rattle.nt_core.proofs.laws.one_robin_run.Goals as goal

pub returns : goal.returns
returns c s limit h k w x = one_whole_robin s limit h k w x
