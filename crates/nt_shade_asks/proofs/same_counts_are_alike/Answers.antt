use Rattle.nt_shade_asks.proofs.Counts.{same_counts}
use Rattle.nt_shade_asks.proofs.same_counts_are_alike.Goals as goal

pub returns : goal.returns
returns c = same_counts
