use Rattle.nt_readings.proofs.Pending.{pending_reads}
use Rattle.nt_readings.proofs.pending_is_inserted_and_not_used_up.Goals as goal

pub returns : goal.returns
returns c = pending_reads
