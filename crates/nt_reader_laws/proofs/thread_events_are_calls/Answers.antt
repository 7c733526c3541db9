use Rattle.nt_reader_laws.proofs.Threads.{thread_calls}
use Rattle.nt_reader_laws.proofs.thread_events_are_calls.Goals as goal

pub returns : goal.returns
returns c = thread_calls
