-- Which run a text shows, and why it shows none.
use Rattle.std.specs.Prelude.{◌≡◌, ◌≤◌, ℕ, Bool, Err, List, None, Ok, Option, Result, Some, drop, reverse, true}
use Rattle.std.specs.Prelude.{false, if◌then◌else◌, nat_le}
use Rattle.nt_event.specs.declared.events.History.{History}
use Rattle.nt_event.specs.declared.limits.TheConstants.{CPUS, USUAL_TURNS}
use Rattle.nt_event.specs.declared.scripts.Script.{Script as TheScript}
use Rattle.nt_event.specs.Robin.{IsRobin, is_settled}
use Rattle.nt_event.specs.Step.{IsRun}
use Rattle.nt_check.specs.declared.checking.Verdict.TheVariants.{IllegalAt}
use Rattle.nt_check.specs.Verdicts.{IsVerdict}
use Rattle.nt_core.specs.declared.refusals.ScheduleRefusal.TheVariants as refused
use Rattle.nt_core.specs.Refusals.{IsReplayRefused}
use Rattle.nt_core.specs.Replays.{replayed}
use Rattle.nt_lab_words.specs.declared.words.How.{How}
use Rattle.nt_lab_words.specs.declared.words.Order.{Order}
use Rattle.nt_lab_words.specs.declared.words.Order.TheVariants.{Random, Robin}
use Rattle.nt_log.specs.declared.schedules.Schedule.{Schedule as TheSchedule}
use Rattle.nt_log.specs.Reading.{reading as schedule_in}
use Rattle.nt_log.specs.Schedules.{IsTextOf, turn_bound}
use Rattle.nt_orders.specs.declared.beginnings.GoneOn.{GoneOn}
use Rattle.nt_orders.specs.declared.beginnings.Went.TheVariants.{All}
use Rattle.nt_orders.specs.Beginnings.{IsGoneOn}
use Rattle.nt_print.specs.Conditions.{IsReportOf}
use Rattle.nt_report.specs.Reading.{reading as report_in}
use Rattle.nt_script.specs.declared.walk.Input.{Input}
use Rattle.nt_script.specs.Reading.{reading as script_in}
use Rattle.nt_script.specs.Sound.{IsSound}
use Rattle.nt_shown.specs.declared.parts.Behind.{Behind}
use Rattle.nt_shown.specs.declared.parts.Part.{Part}
use Rattle.nt_shown.specs.declared.parts.Part.TheVariants as part
use Rattle.nt_shown.specs.declared.refusal.ShownRefusal.{ShownRefusal}
use Rattle.nt_shown.specs.declared.refusal.ShownRefusal.TheVariants.{Event, NoMemory, Report, Schedule, Script, Turn}
use Rattle.nt_shown.specs.declared.showing.ShownRun.{ShownRun}
use Rattle.nt_shown.specs.Parts.{behind, script_part}

-- ---- what is asked for

abbrev pub turns_or : Option ℕ → ℕ
turns_or None = USUAL_TURNS
turns_or (Some n) = n

-- the turn limit of a run of so many processors
abbrev pub limit_of : How → ℕ → ℕ
limit_of how cpus = if nat_le (turns_or how.turns) (turn_bound cpus) then turns_or how.turns else turn_bound cpus

-- a turn limit that a run of the script may have
abbrev pub IsLimit : Input → ℕ → Type 0
IsLimit input turns = (1 ≤ turns) × (turns ≤ turn_bound input.script.cpus)

-- ---- what is shown

-- the events are a settled run of the script
pub record IsSettledRun (s : TheScript) (h : History) : Type 0 where
  pub run : IsRun s h.turns (reverse h.events)
  pub settled : is_settled s h.turns (reverse h.events) ≡ true

-- a settled run of the script, with a turn limit that it may have
pub record IsWhole (input : Input) (g : GoneOn) : Type 0 where
  pub limit : IsLimit input g.history.turns
  pub settled : IsSettledRun input.script g.history

-- the order is that of the robin rule, where it is asked for
abbrev pub IsInOrder : Order → TheScript → History → Type 0
IsInOrder Robin s h = IsRobin s h.turns (reverse h.events)
IsInOrder (Random seed) s h = Unit {0}

-- a run of the script alone
pub record IsMade (input : Input) (how : How) (g : GoneOn) : Type 0 where
  pub settled : IsSettledRun input.script g.history
  pub limit : g.history.turns ≡ limit_of how input.script.cpus
  pub order : IsInOrder how.order input.script g.history

-- this run, which is a settled one
pub record IsChecked (input : Input) (h : History) (g : GoneOn) : Type 0 where
  pub settled : IsSettledRun input.script g.history
  pub same : g.history ≡ h

-- the run whose report the bytes are
pub record IsReported (input : Input) (bytes : List ℕ) (g : GoneOn) : Type 0 where
  pub settled : IsSettledRun input.script g.history
  pub report : IsReportOf bytes input g.history

-- the replay of the schedule
pub record IsReplayed (input : Input) (w : TheSchedule) (g : GoneOn) : Type 0 where
  pub settled : IsSettledRun input.script g.history
  pub limit : g.history.turns ≡ w.turns
  pub replay : replayed input.script w.turns w.list ≡ Ok (reverse g.history.events)

-- a run that begins with the turns of the schedule, and goes on from there by the robin rule
pub record GoesOn (input : Input) (w : TheSchedule) (g : GoneOn) : Type 0 where
  pub settled : IsSettledRun input.script g.history
  pub limit : g.history.turns ≡ w.turns
  pub goes_on : IsGoneOn input.script w.turns w.list g.went (reverse g.history.events)

abbrev pub IsRunBy : Input → TheSchedule → Bool → GoneOn → Type 0
IsRunBy input w true g = GoesOn input w g
IsRunBy input w false g = IsReplayed input w g

-- the run of the schedule whose text the bytes are
abbrev pub IsScheduled : Input → List ℕ → Bool → GoneOn → Type 0
IsScheduled input bytes goes_on g = (w : TheSchedule) × IsTextOf bytes input w × IsRunBy input w goes_on g

-- the run of a script, by what stands behind it
abbrev pub IsShownBy : Input → How → Part → List ℕ → GoneOn → Type 0
IsShownBy input how part.Expectations rest g = IsMade input how g
IsShownBy input how part.Report rest g = IsReported input rest g
IsShownBy input how part.Schedule rest g = IsScheduled input rest how.goes_on g

abbrev pub IsShownIn : Input → List ℕ → How → Option Behind → GoneOn → Type 0
IsShownIn input strict how None g = IsMade input how g
IsShownIn input strict how (Some b) g = IsShownBy input how b.part (drop b.split.at strict) g

-- the script of the text, and a run of it
pub record IsShown (strict : List ℕ) (how : How) (r : ShownRun) : Type 0 where
  pub sound : IsSound r.input
  pub read : script_in (script_part strict) ≡ Ok r.input
  pub shown : IsShownIn r.input strict how (behind strict) r.gone

-- ---- why none is

-- the script that the bytes are, or the line of it that is refused
abbrev pub GivesInput : List ℕ → Result Input ShownRefusal → Type 0
GivesInput bytes (Ok input) = script_in bytes ≡ Ok input
GivesInput bytes (Err (Script line kind)) = script_in bytes ≡ Err (line, kind)
GivesInput bytes (Err (Schedule line kind)) = ⊥
GivesInput bytes (Err (Report line kind)) = ⊥
GivesInput bytes (Err (Turn at kind)) = ⊥
GivesInput bytes (Err (Event n)) = ⊥
GivesInput bytes (Err NoMemory) = Unit {0}

-- the run of a report is refused: an event of it is not the machine's
abbrev pub IsUnchecked : Input → History → ShownRefusal → Type 0
IsUnchecked input h (Script line kind) = ⊥
IsUnchecked input h (Schedule line kind) = ⊥
IsUnchecked input h (Report line kind) = ⊥
IsUnchecked input h (Turn at kind) = ⊥
IsUnchecked input h (Event n) = IsVerdict input.script h.turns h.events (IllegalAt n)
IsUnchecked input h NoMemory = Unit {0}

-- the report that the bytes are is refused, of which the first line has this number
abbrev pub IsUnreported : Input → List ℕ → ℕ → ShownRefusal → Type 0
IsUnreported input bytes line (Script l kind) = ⊥
IsUnreported input bytes line (Schedule l kind) = ⊥
IsUnreported input bytes line (Report l kind) = report_in input line bytes ≡ Err (l, kind)
IsUnreported input bytes line (Turn at kind) = ⊥
IsUnreported input bytes line (Event n) = (h : History) × IsReportOf bytes input h × IsUnchecked input h (Event n)
IsUnreported input bytes line NoMemory = Unit {0}

-- the replay of a schedule is refused at a turn
abbrev pub IsUnreplayed : Input → TheSchedule → ShownRefusal → Type 0
IsUnreplayed input w (Script line kind) = ⊥
IsUnreplayed input w (Schedule line kind) = ⊥
IsUnreplayed input w (Report line kind) = ⊥
IsUnreplayed input w (Turn at kind) = IsReplayRefused input.script w.turns w.list (refused.Bad at kind)
IsUnreplayed input w (Event n) = ⊥
IsUnreplayed input w NoMemory = Unit {0}

-- the schedule that the bytes are is refused, of which the first line has this number
abbrev pub IsUnscheduled : Input → List ℕ → ℕ → ShownRefusal → Type 0
IsUnscheduled input bytes line (Script l kind) = ⊥
IsUnscheduled input bytes line (Schedule l kind) = schedule_in CPUS input line bytes ≡ Err (l, kind)
IsUnscheduled input bytes line (Report l kind) = ⊥
IsUnscheduled input bytes line (Turn at kind) =
    (w : TheSchedule) × IsTextOf bytes input w × IsUnreplayed input w (Turn at kind)
IsUnscheduled input bytes line (Event n) = ⊥
IsUnscheduled input bytes line NoMemory = Unit {0}

-- only memory is wanting
abbrev pub IsNoMemory : ShownRefusal → Type 0
IsNoMemory (Script line kind) = ⊥
IsNoMemory (Schedule line kind) = ⊥
IsNoMemory (Report line kind) = ⊥
IsNoMemory (Turn at kind) = ⊥
IsNoMemory (Event n) = ⊥
IsNoMemory NoMemory = Unit {0}

-- what stands behind the script is refused
abbrev pub IsUnshownBy : Input → Part → List ℕ → ℕ → ShownRefusal → Type 0
IsUnshownBy input part.Expectations rest line r = IsNoMemory r
IsUnshownBy input part.Report rest line r = IsUnreported input rest line r
IsUnshownBy input part.Schedule rest line r = IsUnscheduled input rest line r

abbrev pub IsUnshownIn : Input → List ℕ → Option Behind → ShownRefusal → Type 0
IsUnshownIn input strict None r = IsNoMemory r
IsUnshownIn input strict (Some b) r = IsUnshownBy input b.part (drop b.split.at strict) b.split.line r

-- the script is refused at this line; or it is one, and what stands behind it is refused
abbrev pub IsBehindUnshown : List ℕ → ShownRefusal → Type 0
IsBehindUnshown strict r =
    (input : Input) × (script_in (script_part strict) ≡ Ok input) × IsUnshownIn input strict (behind strict) r

abbrev pub IsUnshown : List ℕ → ShownRefusal → Type 0
IsUnshown strict (Script line kind) = script_in (script_part strict) ≡ Err (line, kind)
IsUnshown strict (Schedule line kind) = IsBehindUnshown strict (Schedule line kind)
IsUnshown strict (Report line kind) = IsBehindUnshown strict (Report line kind)
IsUnshown strict (Turn at kind) = IsBehindUnshown strict (Turn at kind)
IsUnshown strict (Event n) = IsBehindUnshown strict (Event n)
IsUnshown strict NoMemory = Unit {0}
