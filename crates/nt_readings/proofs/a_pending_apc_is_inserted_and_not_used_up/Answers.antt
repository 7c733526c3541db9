use Rattle.nt_readings.proofs.Apcs.{pending_apc_reads}
use Rattle.nt_readings.proofs.a_pending_apc_is_inserted_and_not_used_up.Goals as goal

pub returns : goal.returns
returns c = pending_apc_reads
