use Rattle.nt_readings.proofs.Served.{served_last}
use Rattle.nt_readings.proofs.served_is_what_was_seen_at_the_last_service.Goals as goal

pub returns : goal.returns
returns c = served_last
