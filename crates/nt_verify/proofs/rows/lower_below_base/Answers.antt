use Rattle.std.proofs.Common.{refl}
use Rattle.nt_event.specs.Lists.{table_from}
use Rattle.nt_verify.proofs.rows.lower_below_base.Goals as goal

pub returns : goal.returns
unfolding table_from
returns c = record { fits = refl; found = refl; ordered = refl }
