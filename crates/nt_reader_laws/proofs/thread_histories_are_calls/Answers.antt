use Rattle.nt_reader_laws.proofs.Threads.{thread_history}
use Rattle.nt_reader_laws.proofs.thread_histories_are_calls.Goals as goal

pub returns : goal.returns
returns c = thread_history
