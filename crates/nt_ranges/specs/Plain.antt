-- The history of a run and its schedule are plain.
use Rattle.std.specs.Prelude.{reverse, ◌<◌, ◌≡◌, ◌≤◌}
use Rattle.std.specs.List.{AllByRecursion}
use Rattle.nt_event.specs.declared.events.History.{History}
use Rattle.nt_event.specs.Robin.{IsRobin}
use Rattle.nt_event.specs.Step.{IsRun, cpu_at}
use Rattle.nt_script.specs.declared.walk.Input.{Input}
use Rattle.nt_script.specs.Sound.{IsSound}
use Rattle.nt_log.specs.Schedules.{schedule_of, turn_bound, IsPlain as ScheduleIsPlain}
use Rattle.nt_print.specs.Conditions.{IsPlain as HistoryIsPlain}
use Rattle.nt_print.specs.Report.{report_text}
use Rattle.nt_ranges.specs.Looks.{LooksAreWhole}

-- the history is a run of the script of a sound input, whose turn limit is in its range and whose looks are whole
pub record IsRunOf (input : Input) (h : History) : Type 0 where
  pub sound : IsSound input
  pub limit : (1 ≤ h.turns) × (h.turns ≤ turn_bound input.script.cpus)
  pub run : IsRun input.script h.turns (reverse h.events)
  pub looks : LooksAreWhole h.events

-- such a history may have a report
abbrev pub ARunHasAReport : Type 0
ARunHasAReport = (input : Input) (h : History) → IsRunOf input h → HistoryIsPlain input h

-- its schedule may have a text
abbrev pub ItsScheduleIsPlain : Type 0
ItsScheduleIsPlain = (input : Input) (h : History) → IsRunOf input h → ScheduleIsPlain input (schedule_of h)

-- and each of its turns is one of a processor of the script
abbrev pub ItsTurnsAreOfProcessors : Type 0
ItsTurnsAreOfProcessors = (input : Input) (h : History) → IsRunOf input h →
    AllByRecursion (λ t. (cpu_at t).0 < input.script.cpus) (schedule_of h).list

-- the history of a robin run whose turn limit is in its range is such a run
abbrev pub ARobinRunIsOne : Type 0
ARobinRunIsOne = (input : Input) (h : History) → IsSound input →
    (1 ≤ h.turns) × (h.turns ≤ turn_bound input.script.cpus) → IsRun input.script h.turns (reverse h.events) →
    IsRobin input.script h.turns (reverse h.events) → IsRunOf input h

-- so is that of a replay: of a run whose schedule is plain
abbrev pub AReplayIsOne : Type 0
AReplayIsOne = (input : Input) (h : History) → IsSound input → IsRun input.script h.turns (reverse h.events) →
    ScheduleIsPlain input (schedule_of h) → IsRunOf input h

-- and of two such runs of one input that have the same report, each is the other
abbrev pub OneReportOneHistory : Type 0
OneReportOneHistory = (input : Input) (h g : History) → IsRunOf input h → IsRunOf input g → report_text input h
    ≡ report_text input g → h ≡ g
