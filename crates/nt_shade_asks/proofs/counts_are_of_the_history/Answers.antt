use Rattle.nt_shade_asks.proofs.Counts.{all_tell}
use Rattle.nt_shade_asks.proofs.counts_are_of_the_history.Goals as goal

pub returns : goal.returns
returns c = all_tell
