use Rattle.nt_readings.proofs.Fates.{waiting_is_pending}
use Rattle.nt_readings.proofs.an_insert_waits_where_it_is_pending.Goals as goal

pub returns : goal.returns
returns c = waiting_is_pending
