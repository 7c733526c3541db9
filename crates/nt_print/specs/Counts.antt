-- A table of how many events each processor made.
use Rattle.std.specs.Prelude.{◌≡◌, ℕ, ◌<◌, List, get_or, length}
use Rattle.nt_event.specs.declared.events.Event.{Event}
use Rattle.nt_print.specs.Report.{made}

-- the table tells how many of these events each processor made
abbrev pub TellsMade : List Event → List ℕ → Type 0
TellsMade events table = (p : ℕ) → p < length table → get_or table p 0 ≡ made p events
