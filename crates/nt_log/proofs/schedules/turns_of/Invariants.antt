use Rattle.std.proofs.Common.{◌≡◌, ◌++◌, drop, map}
use Rattle.nt_event.specs.Step.{turn_of}
use Rattle.nt_history.specs.Briefs.{events_in}
use Rattle.nt_log.proofs.schedules.turns_of.Given as goal

abbrev pub invariant-loop-event : goal.invariant-loop-event
invariant-loop-event l = l.list ++ map turn_of (events_in (drop l.event-index l.event-items) l.events.rises.now)
    ≡ map turn_of (events_in l.event-items l.events.rises.now)
