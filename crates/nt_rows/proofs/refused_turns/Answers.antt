use Rattle.std.proofs.Common.{refl}
use Rattle.nt_event.specs.Lists.{table_from}
use Rattle.nt_rows.proofs.refused_turns.Goals as goal

pub returns : goal.returns
unfolding table_from
returns c = record {
  made = refl;
  no_such_cpu = refl;
  rests = refl;
  not_asked = refl;
  no_rise = refl;
  not_its_own = refl;
  not_ready = refl;
}
