-- The events of a history that is read.
use Rattle.std.specs.Prelude.{List}
use Rattle.nt_event.specs.declared.events.Event.{Event}
use Rattle.nt_history.specs.Briefs.{events_in}
use Rattle.nt_history.specs.declared.events.Briefs.{Briefs}

-- the events that the briefs stand for, with the values of the looks
abbrev pub lent : Briefs → List Event
lent events = events_in events.briefs.now events.rises.now
