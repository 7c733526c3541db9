use Rattle.std.specs.Prelude.{take, ◌≡◌}
use Rattle.nt_history.proofs.events.Events.of.Given as goal

abbrev pub invariant-loop-event : goal.invariant-loop-event
invariant-loop-event l = l.list ≡ take l.event-index l.fn.events
