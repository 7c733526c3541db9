-- The history that a list of turns makes, or why there is none.
use Rattle.std.specs.Prelude.{Err, List, Ok, Result, [], if◌then◌else◌, suc, ℕ, ◌∷◌}
use Rattle.nt_event.specs.declared.events.Event.{Event}
use Rattle.nt_event.specs.declared.events.ScheduleKind.{ScheduleKind}
use Rattle.nt_event.specs.declared.events.ScheduleKind.TheVariants.{Unfinished}
use Rattle.nt_event.specs.declared.events.Turn.{Turn}
use Rattle.nt_event.specs.declared.scripts.Script.{Script}
use Rattle.nt_event.specs.Robin.{is_settled}
use Rattle.nt_event.specs.Step.{step}

-- the place of the turn, from 0, and why it is refused
pub record Refused : Type 0 where
  pub at : ℕ
  pub kind : ScheduleKind

abbrev pub refused_at : ℕ → ScheduleKind → Result (List Event) Refused
refused_at n k = Err (record { at = n; kind = k })

-- goes on where the turn at this place gave an event
abbrev pub goes_on : ℕ → Result Event ScheduleKind → (Event → Result (List Event) Refused) → Result (List Event) Refused
goes_on n (Ok e) more = more e
goes_on n (Err k) more = refused_at n k

-- takes these turns after a history, the first of them at this place; the newest event comes first
abbrev pub replayed_from : Script → ℕ → ℕ → List Event → List Turn → Result (List Event) Refused
replayed_from s limit n past [] = if is_settled s limit past then Ok past else refused_at n Unfinished
replayed_from s limit n past (t ∷ ts) =
    goes_on n (step s limit t past) (λ e. replayed_from s limit (suc n) (e ∷ past) ts)

-- the history of these turns where each is taken and all together settle; else the first that is refused, or Unfinished
-- at their number
abbrev pub replayed : Script → ℕ → List Turn → Result (List Event) Refused
replayed s limit list = replayed_from s limit 0 [] list
