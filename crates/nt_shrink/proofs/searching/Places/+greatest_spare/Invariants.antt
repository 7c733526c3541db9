use Rattle.std.proofs.Common.{◌-◌}
use Rattle.nt_shrink.proofs.searching.Places.+greatest_spare.Given as goal

abbrev pub decreases-greatest_spare : goal.decreases-greatest_spare
decreases-greatest_spare l = l.high - l.low
