use Rattle.std.proofs.Common.{refl}
use Rattle.nt_event.specs.Lists.{table_from}
use Rattle.nt_rows.proofs.alert_ends_a_delay.Goals as goal

pub returns : goal.returns
unfolding table_from
returns c = record { fits = refl; run = refl; settled = refl }
