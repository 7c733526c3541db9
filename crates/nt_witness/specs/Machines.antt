-- Machines that take turns.
use Rattle.std.specs.Prelude.{Ok, ◌∷◌, ◌≡◌}
use Rattle.nt_event.specs.declared.events.Event.{Event}
use Rattle.nt_event.specs.declared.events.Turn.{Turn}
use Rattle.nt_event.specs.Step.{step}
use Rattle.nt_core.specs.States.{CoreState}

-- the machine took the turn, where that has an event
pub record IsTaken (t : Turn) (old new : CoreState) : Type 0 where
  pub script : new.script ≡ old.script
  pub limit : new.limit ≡ old.limit
  pub past : (e : Event) → step old.script old.limit t old.past ≡ Ok e → new.past ≡ e ∷ old.past
