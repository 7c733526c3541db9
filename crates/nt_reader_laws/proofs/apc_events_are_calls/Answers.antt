use Rattle.nt_reader_laws.proofs.Apcs.{apc_calls}
use Rattle.nt_reader_laws.proofs.apc_events_are_calls.Goals as goal

pub returns : goal.returns
returns c = apc_calls
