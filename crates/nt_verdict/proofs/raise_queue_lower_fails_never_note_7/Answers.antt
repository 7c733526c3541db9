use Rattle.nt_verdict.proofs.Row.{fails}
use Rattle.nt_verdict.proofs.raise_queue_lower_fails_never_note_7.Goals as goal

pub returns : goal.returns
returns c = fails
