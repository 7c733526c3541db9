-- How a list of turns stands for all that may come: a look with fewer than 16 values has its like in the list.
use Rattle.std.specs.Prelude.{Contains, List, Ok, ◌∷◌, ◌≡◌}
use Rattle.nt_event.specs.declared.events.Event.{Event}
use Rattle.nt_event.specs.declared.events.Turn.{Turn}
use Rattle.nt_event.specs.declared.scripts.Script.{Script}
use Rattle.nt_alike.specs.Alike.{Alike}
use Rattle.nt_alike.specs.Bare.{bare_event}
use Rattle.nt_alike.specs.Free.{MayCome, free_step}
use Rattle.nt_ahead.specs.Turns.{HasAll}

-- one of the turns gives this event, or one that is the same but for the values of a look, and leaves a like history
pub record HasTurnOf (s : Script) (past : List Event) (turns : List Turn) (e : Event) : Type 0 where
  pub turn : Turn
  pub among : Contains turns turn
  pub event : Event
  pub gives : free_step s turn past ≡ Ok event
  pub same : bare_event e ≡ bare_event event
  pub alike : Alike s (e ∷ past) (event ∷ past)

-- where a list has each turn that may be taken, each event that may come has its turn there
abbrev pub WholeListsTellAll : Type 0
WholeListsTellAll =
    (s : Script) (past : List Event) (turns : List Turn) (e : Event) → HasAll s past turns → MayCome s e past →
    HasTurnOf s past turns e
