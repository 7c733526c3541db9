use Rattle.std.proofs.Common.{refl}
use Rattle.nt_event.specs.Lists.{table_from}
use Rattle.nt_rows.proofs.region_left_by_a_kernel_routine.Goals as goal

pub returns : goal.returns
unfolding table_from
returns c = record { fits = refl; run = refl; settled = refl }
