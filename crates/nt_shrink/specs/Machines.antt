-- Machines that took turns, one after another.
use Rattle.std.specs.Prelude.{Err, List, Ok, [], take, ℕ, ◌∷◌, ◌≡◌}
use Rattle.nt_event.specs.declared.events.Event.{Event}
use Rattle.nt_event.specs.declared.events.ScheduleKind.{ScheduleKind}
use Rattle.nt_event.specs.declared.events.Turn.{Turn}
use Rattle.nt_event.specs.declared.scripts.Script.{Script}
use Rattle.nt_event.specs.Step.{step}
use Rattle.nt_plain.specs.States.{view_of}
use Rattle.nt_cpus.specs.Following.{AreAfter}
use Rattle.nt_shrink.specs.declared.goals.Goal.{Goal}
use Rattle.nt_shrink.specs.declared.machine.Machine.{Machine}
use Rattle.nt_shrink.specs.declared.refusals.TraceRefusal.{TraceRefusal}
use Rattle.nt_shrink.specs.Goals.{delivers}
use Rattle.nt_shrink.specs.Traces.{traced_from}

-- the machine is as this run of the script leaves it, and says whether the run delivers the request
pub record Took (s : Script) (limit : ℕ) (g : Goal) (past : List Event) (m : Machine) : Type 0 where
  pub script : m.processors.script ≡ s
  pub limit_is : m.processors.limit ≡ limit
  pub after : AreAfter past m.processors m.floor.script (view_of m.floor)
  pub met : m.is_met ≡ delivers g past

-- it is as some run leaves it
abbrev pub IsSound : Goal → Machine → Type 0
IsSound g m = (past : List Event) × Took m.processors.script m.processors.limit g past m

-- after this past the turn gives an event, which the machine made
pub record IsTaken (s : Script) (limit : ℕ) (g : Goal) (t : Turn) (past : List Event) (m : Machine) : Type 0 where
  pub event : Event
  pub made : step s limit t past ≡ Ok event
  pub took : Took s limit g (event ∷ past) m

-- after this past the turn is refused
pub record RefusesOne (s : Script) (limit : ℕ) (t : Turn) (past : List Event) : Type 0 where
  pub kind : ScheduleKind
  pub refused : step s limit t past ≡ Err kind

-- after this past each of the turns gives an event, and the machine made them
pub record AreTaken (s : Script) (limit : ℕ) (g : Goal) (list : List Turn)
    (past : List Event) (m : Machine) : Type 0 where
  pub end : List Event
  pub traced_is : traced_from s limit past list ≡ Ok end
  pub took : Took s limit g end m

-- after this past one of the turns is refused
pub record Refuses (s : Script) (limit : ℕ) (list : List Turn) (past : List Event) : Type 0 where
  pub why : TraceRefusal
  pub refused : traced_from s limit past list ≡ Err why

-- the machine took so many turns of the list
abbrev pub HasTaken : Script → ℕ → Goal → List Turn → ℕ → Machine → Type 0
HasTaken s limit g list n m = AreTaken s limit g (take n list) [] m
