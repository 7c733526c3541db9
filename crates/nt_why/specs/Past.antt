-- The first events of a history.
use Rattle.std.specs.Prelude.{List, reverse, take, ℕ}
use Rattle.nt_event.specs.declared.events.Event.{Event}

-- the first n of these events, as a past: the newest first
abbrev pub past_at : ℕ → List Event → List Event
past_at n events = reverse (take n events)
