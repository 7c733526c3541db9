use Rattle.nt_shade_asks.proofs.Counts.{all_few}
use Rattle.nt_shade_asks.proofs.counts_fit.Goals as goal

pub returns : goal.returns
returns c = all_few
