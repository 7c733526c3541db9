-- The smallest script: one processor and nothing on it. Nothing but Rest ever comes.
use Rattle.std.specs.Prelude.{List, None, [], true, ℕ, ◌∷◌, ◌≡◌}
use Rattle.nt_event.specs.declared.events.Event.{Event}
use Rattle.nt_event.specs.declared.events.What.TheVariants.{Rest}
use Rattle.nt_event.specs.declared.scripts.Script.{Script}
use Rattle.nt_event.specs.Numbers.{cpu}
use Rattle.nt_event.specs.Own.{is_rest}
use Rattle.nt_event.specs.Step.{IsRun}
use Rattle.nt_rows.specs.Plain.{plain}
use Rattle.nt_alike.specs.Closed.{IsClosedList}
use Rattle.nt_alike.specs.Free.{LooksAreShort}

abbrev pub empty : Script
empty = plain

abbrev pub rest : Event
rest = record { cpu = cpu 0; thread = None; level = 0; what = Rest }

-- its histories, but for numbers: these two are a closed list
abbrev pub histories : List (List Event)
histories = [] ∷ (rest ∷ []) ∷ []

pub record OnlyRests : Type 0 where
  pub closed : IsClosedList empty histories
  pub rests : (limit : ℕ) (e : Event) (past : List Event) → IsRun empty limit (e ∷ past) → LooksAreShort (e ∷ past) →
      is_rest e.what ≡ true
