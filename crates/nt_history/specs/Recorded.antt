-- What contracts see of the events of a run while it is made.
use Rattle.std.specs.Prelude.{List, None, Option, Some, [], ℕ, ◌∷◌}
use Rattle.nt_event.specs.declared.events.Event.{Event}
use Rattle.nt_event.specs.declared.numbers.CpuNo.{CpuNo}

-- the events, and for how many there is room
pub record Recorded : Type 0 where
  pub events : List Event
  pub room : ℕ

-- the processor of the event that stands first
abbrev pub cpu_of_first : List Event → Option CpuNo
cpu_of_first [] = None
cpu_of_first (e ∷ es) = Some e.cpu
