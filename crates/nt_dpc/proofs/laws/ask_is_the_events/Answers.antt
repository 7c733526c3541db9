use Rattle.nt_dpc.proofs.Events.{ask_is_the_events}
use Rattle.nt_dpc.proofs.laws.ask_is_the_events.Goals as goal

pub returns : goal.returns
returns c = ask_is_the_events
