use Rattle.std.proofs.Common.{refl}
use Rattle.nt_event.specs.Lists.{table_from}
use Rattle.nt_floor.proofs.Sums.{no_sum}
use Rattle.nt_floor.proofs.seen.Seen.new.Goals as goal

pub returns : goal.returns
unfolding table_from
returns c = refl

pub invariant_of-result : goal.invariant_of-result
invariant_of-result c = no_sum
