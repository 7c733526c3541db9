use Rattle.nt_close.proofs.ReadyThreads.{ready_wanted}
use Rattle.nt_close.proofs.a_ready_thread_is_wanted_at_rest.Goals as goal

pub returns : goal.returns
returns c = ready_wanted
