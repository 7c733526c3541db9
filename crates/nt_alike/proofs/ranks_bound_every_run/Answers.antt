use Rattle.nt_alike.proofs.Ranks.{no_longer}
use Rattle.nt_alike.proofs.ranks_bound_every_run.Goals as goal

pub returns : goal.returns
returns c = no_longer
