-- Machines that take turns which are not refused.
use Rattle.std.specs.Prelude.{Ok, ◌≡◌}
use Rattle.nt_event.specs.declared.events.Event.{Event}
use Rattle.nt_event.specs.declared.events.Turn.{Turn}
use Rattle.nt_event.specs.Step.{step}
use Rattle.nt_core.specs.States.{CoreState, with_event}

-- the turn's event is there, and nothing else changed
pub record IsTaken (t : Turn) (old new : CoreState) : Type 0 where
  pub event : Event
  pub step_is : step old.script old.limit t old.past ≡ Ok event
  pub is : new ≡ with_event event old

-- some event is there that was not, and nothing else changed
pub record HasGrown (old new : CoreState) : Type 0 where
  pub event : Event
  pub is : new ≡ with_event event old
