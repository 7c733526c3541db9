use Rattle.nt_timer.proofs.Events.{timer_calls_are_events}
use Rattle.nt_timer.proofs.laws.timer_calls_are_events.Goals as goal

pub returns : goal.returns
returns c = timer_calls_are_events
