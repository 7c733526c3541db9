use Rattle.std.proofs.Common.{refl}
use Rattle.nt_event.specs.Lists.{table_from}
use Rattle.nt_rows.proofs.rest_notices_a_lane.Goals as goal

pub returns : goal.returns
unfolding table_from
returns c = record {
  replayed = record { fits = refl; run = refl; all = refl; settled = refl };
  unfinished = record { all = refl; unsettled = refl };
}
