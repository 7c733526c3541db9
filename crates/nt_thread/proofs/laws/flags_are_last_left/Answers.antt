use Rattle.nt_thread.proofs.Rows.{flags-last}
use Rattle.nt_thread.proofs.laws.flags_are_last_left.Goals as goal

pub returns : goal.returns
returns c = flags-last
