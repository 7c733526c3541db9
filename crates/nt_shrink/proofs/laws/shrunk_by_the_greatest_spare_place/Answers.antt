use Rattle.nt_shrink.proofs.Shrunk.{by_the_greatest}
use Rattle.nt_shrink.proofs.laws.shrunk_by_the_greatest_spare_place.Goals as goal

pub returns : goal.returns
returns c s limit g list = by_the_greatest s limit g list
