-- What `shrink` finds in a script and a schedule, in the order of its tests.
use Rattle.std.specs.Prelude.{Bool, Err, List, None, Ok, Option, Result, Some, if◌then◌else◌, length, nat_lt, ℕ, ◌≡◌}
use Rattle.nt_core.specs.Replays.{Refused}
use Rattle.nt_event.specs.declared.events.Event.{Event}
use Rattle.nt_event.specs.declared.events.Turn.{Turn}
use Rattle.nt_event.specs.declared.scripts.Script.{Script}
use Rattle.nt_line.specs.declared.names.Named.{Named}
use Rattle.nt_line.specs.declared.names.Named.TheVariants as named
use Rattle.nt_line.specs.NameLists.{NameLists, meaning}
use Rattle.nt_log.specs.declared.schedules.Schedule.{Schedule}
use Rattle.nt_log.specs.Schedules.{schedule_text}
use Rattle.nt_script.specs.declared.walk.Input.{Input}
use Rattle.nt_shrink.specs.declared.goals.Goal.{Goal}
use Rattle.nt_shrink.specs.declared.goals.Goal.TheVariants as goal
use Rattle.nt_shrink.specs.declared.refusals.TraceRefusal.TheVariants.{Bad, NoMemory}
use Rattle.nt_shrink.specs.Goals.{delivers}
use Rattle.nt_shrink.specs.Laws.{IsDelivery}
use Rattle.nt_shrink.specs.Spare.{NoneSpare, shrunk}
use Rattle.nt_shrink.specs.Traces.{Traced, traced}

-- the goal that a thing is: DPC and APC objects are delivered, and nothing else
abbrev pub goal_by : Option Named → Option Goal
goal_by None = None
goal_by (Some (named.Dpc d)) = Some (goal.Dpc d)
goal_by (Some (named.Apc a)) = Some (goal.Apc a)
goal_by (Some (named.Timer t)) = None
goal_by (Some (named.Thread t)) = None
goal_by (Some (named.Lock k)) = None
goal_by (Some (named.Routine r)) = None

-- the goal of this name, if a DPC or APC object has it
abbrev pub goal_of : NameLists → List ℕ → Option Goal
goal_of names name = goal_by (meaning name names)

-- what is found: there is no such goal; the list is too long; a turn is refused; the turns don't deliver the goal; they
-- do
pub data Found : Type 0 where
  no_goal : Found
  too_many : Found
  bad_turn : Refused → Found
  undelivered : Found
  delivered : Goal → Found

-- of the history of the turns, or of the turn that is refused; to take turns takes no memory
abbrev pub found_by : Goal → Traced → Found
found_by g (Ok past) = if delivers g past then delivered g else undelivered
found_by g (Err (Bad at kind)) = bad_turn (record { at = at; kind = kind })
found_by g (Err NoMemory) = undelivered

abbrev pub found_for : Script → Schedule → Option Goal → Found
found_for s schedule None = no_goal
found_for s schedule (Some g) = if nat_lt 1000 (length schedule.list) then too_many
    else found_by g (traced s schedule.turns schedule.list)

-- what is found for the goal of this name
abbrev pub found : Input → Schedule → List ℕ → Found
found input schedule name = found_for input.script schedule (goal_of input.names name)

-- the turn that is refused
abbrev pub turn_in : Found → Option Refused
turn_in no_goal = None
turn_in too_many = None
turn_in (bad_turn r) = Some r
turn_in undelivered = None
turn_in (delivered g) = None

-- the schedule with these turns
abbrev pub with_turns : Schedule → List Turn → Schedule
with_turns schedule list = record { turns = schedule.turns; list = list }

-- the text is the shrunk schedule: its turns deliver the goal in a run, and none can be left out
pub record IsShrunkTo (input : Input) (schedule : Schedule) (name text : List ℕ) : Type 0 where
  pub goal : Goal
  pub found : found input schedule name ≡ delivered goal
  pub answer : List Turn
  pub shrunk : answer ≡ shrunk input.script schedule.turns goal schedule.list
  pub delivers : IsDelivery input.script schedule.turns goal answer
  pub none_spare : NoneSpare input.script schedule.turns goal answer
  pub is : text ≡ schedule_text input (with_turns schedule answer)
