use Rattle.std.proofs.Common.{refl}
use Rattle.nt_event.specs.Lists.{table_from}
use Rattle.nt_rows.proofs.special_in_a_normal_routine.Goals as goal

pub returns : goal.returns
unfolding table_from
returns c = record { fits = refl; run = refl; settled = refl }
