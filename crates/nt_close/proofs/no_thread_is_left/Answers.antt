use Rattle.nt_close.proofs.ReadyThreads.{no_thread_is_left}
use Rattle.nt_close.proofs.no_thread_is_left.Goals as goal

pub returns : goal.returns
returns c = no_thread_is_left
