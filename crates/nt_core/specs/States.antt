-- What contracts see of the pure machine.
use Rattle.std.specs.Prelude.{List, ℕ, ◌∷◌}
use Rattle.nt_event.specs.declared.events.Event.{Event}
use Rattle.nt_event.specs.declared.scripts.Script.{Script}

-- the script, the turn limit, and the history so far, its newest event first
pub record CoreState : Type 0 where
  pub script : Script
  pub limit : ℕ
  pub past : List Event

-- the history with one more event
abbrev pub with_event : Event → CoreState → CoreState
with_event e c = record c { past = e ∷ c.past }
