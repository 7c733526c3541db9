-- The history that a list of turns makes, settled or not.
use Rattle.std.specs.Prelude.{Bool, Err, List, Ok, Result, [], false, length, ℕ, ◌∷◌}
use Rattle.nt_event.specs.declared.events.Event.{Event}
use Rattle.nt_event.specs.declared.events.ScheduleKind.{ScheduleKind}
use Rattle.nt_event.specs.declared.events.Turn.{Turn}
use Rattle.nt_event.specs.declared.scripts.Script.{Script}
use Rattle.nt_event.specs.Step.{step}
use Rattle.nt_shrink.specs.declared.goals.Goal.{Goal}
use Rattle.nt_shrink.specs.declared.refusals.TraceRefusal.{TraceRefusal}
use Rattle.nt_shrink.specs.declared.refusals.TraceRefusal.TheVariants.{Bad}
use Rattle.nt_shrink.specs.Goals.{delivers}

abbrev pub Traced : Type 0
Traced = Result (List Event) TraceRefusal

-- goes on where the turn after this past gave an event; else the turn's place is the number of events
abbrev pub goes_on : List Event → Result Event ScheduleKind → (Event → Traced) → Traced
goes_on past (Ok e) more = more e
goes_on past (Err k) more = Err (Bad (length past) k)

-- takes these turns after a past, the newest event first
abbrev pub traced_from : Script → ℕ → List Event → List Turn → Traced
traced_from s limit past [] = Ok past
traced_from s limit past (t ∷ ts) = goes_on past (step s limit t past) (λ e. traced_from s limit (e ∷ past) ts)

-- the history of these turns where each is taken; else the first that is refused
abbrev pub traced : Script → ℕ → List Turn → Traced
traced s limit list = traced_from s limit [] list

-- the turns are taken, and their history delivers the request
abbrev pub is_delivered : Goal → Traced → Bool
is_delivered g (Ok past) = delivers g past
is_delivered g (Err r) = false
