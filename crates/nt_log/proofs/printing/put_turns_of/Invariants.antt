use Rattle.std.proofs.Common.{◌≡◌, ◌++◌, drop, map}
use Rattle.nt_text.specs.Lines.{rows_text}
use Rattle.nt_event.specs.Step.{turn_of}
use Rattle.nt_history.specs.Briefs.{events_in}
use Rattle.nt_log.specs.Schedules.{turn_row}
use Rattle.nt_log.proofs.printing.put_turns_of.Given as goal

-- what was put and what is left is all of it
abbrev pub invariant-loop-event : goal.invariant-loop-event
invariant-loop-event l = l.out.items ++ rows_text (map (turn_row l.input.names) (map turn_of (events_in (drop l.event-index l.event-items) l.events.rises.now)))
    ≡ l.fn.out.items ++ rows_text (map (turn_row l.input.names) (map turn_of (events_in l.event-items l.events.rises.now)))
