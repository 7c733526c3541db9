-- What a call of the program finds out, what it writes, and when each status comes.
use Rattle.std.specs.Prelude.{◌≡◌, ◌≢◌, ℕ, ◌+◌, ◌<◌, ◌≤◌, ◌⊎◌, true, IsSome, List, [], ◌∷◌, ◌++◌, length, Option, Some}
use Rattle.std.specs.Prelude.{None, Result, Ok, Err, codes, decimal, reverse}
use Rattle.std.specs.Io.KnownBytes.{append_known}
use Rattle.nt_event.specs.declared.events.Event.{Event}
use Rattle.nt_event.specs.declared.events.History.{History}
use Rattle.nt_event.specs.Numbered.{schedule_name, schedule_number}
use Rattle.nt_check.specs.declared.checking.Verdict.TheVariants as verdict
use Rattle.nt_check.specs.Verdicts.{IsVerdict}
use Rattle.nt_core.specs.Replays.{Refused, replayed}
use Rattle.nt_script.specs.declared.walk.Input.{Input}
use Rattle.nt_script.specs.Text.{text as script_text}
use Rattle.nt_load.specs.Load.{load_input}
use Rattle.nt_outside.specs.Bytes.{IsLonger, AddsFrontOf}
use Rattle.nt_outside.specs.Counts.{Rose, RoseBy}
use Rattle.nt_outside.specs.Sides.{GaveWithin, Store, Supply}
use Rattle.nt_print.specs.Report.{report_text}
use Rattle.nt_print.specs.Summary.{summary_text}
use Rattle.nt_text.specs.declared.kind.ScriptKind.{ScriptKind}
use Rattle.nt_text.specs.declared.kind.ScriptKind.TheVariants.{TooMany}
use Rattle.nt_text.specs.declared.lines.TheConstants.{INPUT_LIMIT}
use Rattle.nt_text.specs.Kinds.{kind_number, kind_name, thing_name}
use Rattle.nt_words.specs.declared.form.Form.{Form}
use Rattle.nt_words.specs.declared.form.Form.TheVariants as form
use Rattle.nt_words.specs.declared.form.TheConstants.{USAGE}
use Rattle.nt_words.specs.Forms.{IsForm}
use Rattle.nt_words.specs.Refusals.{IsNoForm}
use Rattle.nt_top.specs.declared.status.Status.{Status}
use Rattle.nt_top.specs.declared.status.Status.TheVariants as exit
use Rattle.nt_top.specs.declared.task.Task.{Task}
use Rattle.nt_top.specs.declared.task.Task.TheVariants as task
use Rattle.nt_top.specs.Tasks.{Bad, input_of, reads, task_of}
use Rattle.nt_top.specs.Audited.{IsAudited}
use Rattle.nt_top.specs.Runs.{IsLiveRun, IsReplayed, IsRobinRun}
use Rattle.nt_top.specs.Shrunk.{Found, IsShrunkTo, bad_turn, delivered, found, no_goal, too_many, turn_in, undelivered}
use Rattle.nt_top.specs.Verified.{verify_text}
use Rattle.nt_shrink.specs.declared.goals.Goal.{Goal}

-- ---- the outside, as a call finds or leaves it

-- the source gave these bytes, not too many, and is at its end
abbrev pub Gave : List ℕ → Supply → Supply → Type 0
Gave = GaveWithin INPUT_LIMIT

-- ---- the lines

abbrev pub usage_line : List ℕ
usage_line = USAGE.now

abbrev pub read_line : List ℕ
read_line = codes "read fault\n"

abbrev pub long_line : List ℕ
long_line = codes "input too long\n"

abbrev pub memory_line : List ℕ
memory_line = codes "no memory\n"

-- a kind's name, for too many things with the thing behind it
abbrev pub kind_text : ScriptKind → List ℕ
kind_text (TooMany thing) = kind_name (TooMany thing) ++ 32 ∷ thing_name thing
kind_text kind = kind_name kind

abbrev pub script_line : ℕ → ScriptKind → List ℕ
script_line line kind = codes "script line "
    ++ (decimal line ++ (codes ": " ++ (decimal (kind_number kind) ++ 32 ∷ (kind_text kind ++ 10 ∷ []))))

-- the line of a refused turn: its place, from 0, and the kind of the refusal
abbrev pub turn_line : Refused → List ℕ
turn_line r = codes "schedule turn "
    ++ (decimal r.at ++ (codes ": " ++ (decimal (schedule_number r.kind) ++ 32 ∷ (schedule_name r.kind ++ 10 ∷ []))))

-- why a schedule isn't shrunk
abbrev pub no_goal_line : List ℕ
no_goal_line = codes "no goal\n"

abbrev pub many_turns_line : List ℕ
many_turns_line = codes "too many turns\n"

abbrev pub undelivered_line : List ℕ
undelivered_line = codes "not delivered\n"

-- what is written of a history that is a settled run, and of one that goes wrong at this number
abbrev pub legal_line : List ℕ
legal_line = codes "legal\n"

abbrev pub illegal_line : ℕ → List ℕ
illegal_line n = codes "illegal at " ++ (decimal n ++ 10 ∷ [])

-- ---- what is found in the bytes

abbrev pub refusal_of : {A : Type 0} → Result A Bad → Option Bad
refusal_of (Err bad) = Some bad
refusal_of (Ok x) = None

-- the line that is refused, and why
abbrev pub refusal : Form → List ℕ → Option Bad
refusal form bytes = refusal_of (task_of form bytes)

-- the history whose report the task asks for: the robin run, any settled run on threads, the run of the schedule's
-- turns; the other tasks ask for no report
abbrev pub IsRunOf : Task → History → Type 0
IsRunOf (task.Run input turns) h = IsRobinRun input.script turns h
IsRunOf (task.Live input turns) h = IsLiveRun input.script turns h
IsRunOf (task.Replay input schedule) h = IsReplayed input.script schedule h
IsRunOf (task.Check input history) h = ⊥
IsRunOf (task.Migrate input) h = ⊥
IsRunOf (task.Verify input) h = ⊥
IsRunOf (task.Shrink input schedule goal) h = ⊥
IsRunOf (task.Audit input turns workers) h = ⊥

abbrev pub refused_in : Result (List Event) Refused → Option Refused
refused_in (Ok past) = None
refused_in (Err r) = Some r

-- the turn at which the task's turns make no settled run, or which is refused where they are to be shrunk, and why;
-- only a schedule has one
abbrev pub refused_turn : Task → Option Refused
refused_turn (task.Run input turns) = None
refused_turn (task.Live input turns) = None
refused_turn (task.Replay input schedule) = refused_in (replayed input.script schedule.turns schedule.list)
refused_turn (task.Check input history) = None
refused_turn (task.Migrate input) = None
refused_turn (task.Verify input) = None
refused_turn (task.Shrink input schedule goal) = turn_in (found input schedule goal)
refused_turn (task.Audit input turns workers) = None

-- the status of a schedule that isn't shrunk for another cause than a refused turn
abbrev pub miss_in : Found → Option Status
miss_in no_goal = Some exit.NoGoal
miss_in too_many = Some exit.TooMany
miss_in (bad_turn r) = None
miss_in undelivered = Some exit.NotDelivered
miss_in (delivered g) = None

-- the same of a task; only one to be shrunk has it
abbrev pub missed : Task → Option Status
missed (task.Run input turns) = None
missed (task.Live input turns) = None
missed (task.Replay input schedule) = None
missed (task.Check input history) = None
missed (task.Migrate input) = None
missed (task.Verify input) = None
missed (task.Shrink input schedule goal) = miss_in (found input schedule goal)
missed (task.Audit input turns workers) = None

-- the text is the report of the task's history
pub record IsReport (t : Task) (text : List ℕ) : Type 0 where
  pub history : History
  pub run : IsRunOf t history
  pub is : text ≡ report_text (input_of t) history

-- the history that is checked is a settled run of the script
abbrev pub IsLegal : Input → History → Type 0
IsLegal input h = IsVerdict input.script h.turns h.events verdict.Legal

-- the number at which the history that is checked goes wrong; the other tasks have none
abbrev pub IsIllegal : Task → ℕ → Type 0
IsIllegal (task.Check input history) n = IsVerdict input.script history.turns history.events (verdict.IllegalAt n)
IsIllegal (task.Run input turns) n = ⊥
IsIllegal (task.Live input turns) n = ⊥
IsIllegal (task.Replay input schedule) n = ⊥
IsIllegal (task.Migrate input) n = ⊥
IsIllegal (task.Verify input) n = ⊥
IsIllegal (task.Shrink input schedule goal) n = ⊥
IsIllegal (task.Audit input turns workers) n = ⊥

-- the task is done with this text: a report, the line of a legal history, a script's text, what is found in it, a
-- shrunk schedule, or an audit
abbrev pub IsWell : Task → List ℕ → Type 0
IsWell (task.Run input turns) text = IsReport (task.Run input turns) text
IsWell (task.Live input turns) text = IsReport (task.Live input turns) text
IsWell (task.Replay input schedule) text = IsReport (task.Replay input schedule) text
IsWell (task.Check input history) text = IsLegal input history × (text ≡ legal_line)
IsWell (task.Migrate input) text = text ≡ script_text input
IsWell (task.Verify input) text = text ≡ verify_text input
IsWell (task.Shrink input schedule goal) text = IsShrunkTo input schedule goal text
IsWell (task.Audit input turns workers) text = IsAudited input turns text

-- what is answered to a task, and its text
abbrev pub IsDone : Task → Status → List ℕ → Type 0
IsDone t exit.Ok text = IsWell t text
IsDone t exit.Schedule text = (r : Refused) × (refused_turn t ≡ Some r) × (text ≡ turn_line r)
IsDone t exit.Illegal text = (n : ℕ) × IsIllegal t n × (text ≡ illegal_line n)
IsDone t exit.NoGoal text = (missed t ≡ Some exit.NoGoal) × (text ≡ no_goal_line)
IsDone t exit.TooMany text = (missed t ≡ Some exit.TooMany) × (text ≡ many_turns_line)
IsDone t exit.NotDelivered text = (missed t ≡ Some exit.NotDelivered) × (text ≡ undelivered_line)
IsDone t exit.Memory text = text ≡ memory_line
IsDone t exit.Usage text = ⊥
IsDone t exit.Script text = ⊥
IsDone t exit.Read text = ⊥
IsDone t exit.Write text = ⊥
IsDone t exit.TooLong text = ⊥

-- the bytes are refused at this line, or the text is that of want of memory
abbrev pub IsRefused : ℕ → ScriptKind → Status → List ℕ → Type 0
IsRefused line kind exit.Script text = text ≡ script_line line kind
IsRefused line kind exit.Memory text = text ≡ memory_line
IsRefused line kind _ text = ⊥

-- what a form finds in the bytes of an input, and its text
abbrev pub IsFoundIn : Form → List ℕ → Status → List ℕ → Type 0
IsFoundIn form bytes exit.Script text =
    (bad : Bad) × (refusal form bytes ≡ Some bad) × (text ≡ script_line bad.0 bad.1)
IsFoundIn form bytes exit.Memory text = text ≡ memory_line
IsFoundIn form bytes status text = (t : Task) × (task_of form bytes ≡ Ok t) × IsDone t status text

-- what a form finds from the source, and its text, in the order of the tests. Want of memory may come at any place.
abbrev pub IsFoundFrom : Form → Supply → Supply → Status → List ℕ → Type 0
IsFoundFrom form old new exit.Usage text = ⊥
IsFoundFrom form old new exit.Read text = Rose old.faults new.faults × (new.taken ≤ old.taken + INPUT_LIMIT) ×
    (text ≡ read_line)
IsFoundFrom form old new exit.TooLong text = IsLonger INPUT_LIMIT old.left ×
    RoseBy (INPUT_LIMIT + 1) old.taken new.taken × (text ≡ long_line)
IsFoundFrom form old new exit.Memory text = (new.taken ≤ old.taken + INPUT_LIMIT) × (text ≡ memory_line)
IsFoundFrom form old new status text = (bytes : List ℕ) × Gave bytes old new × IsFoundIn form bytes status text

-- the text is the summary of the robin run of the seed's load with this limit
pub record IsSummary (seed limit : ℕ) (text : List ℕ) : Type 0 where
  pub history : History
  pub run : IsRobinRun (load_input seed).script limit history
  pub is : text ≡ summary_text (load_input seed) history

-- what a load finds, and its text
abbrev pub IsLoaded : ℕ → ℕ → Status → List ℕ → Type 0
IsLoaded seed turns exit.Ok text = IsSummary seed turns text
IsLoaded seed turns exit.Memory text = text ≡ memory_line
IsLoaded seed turns _ text = ⊥

-- what a form finds; `load` reads nothing
abbrev pub IsFoundBy : Form → Supply → Supply → Status → List ℕ → Type 0
IsFoundBy (form.Run turns) old new status text = IsFoundFrom (form.Run turns) old new status text
IsFoundBy form.Replay old new status text = IsFoundFrom form.Replay old new status text
IsFoundBy form.Check old new status text = IsFoundFrom form.Check old new status text
IsFoundBy (form.Live turns) old new status text = IsFoundFrom (form.Live turns) old new status text
IsFoundBy (form.Load seed turns) old new status text = (new ≡ old) × IsLoaded seed turns status text
IsFoundBy form.Migrate old new status text = IsFoundFrom form.Migrate old new status text
IsFoundBy form.Verify old new status text = IsFoundFrom form.Verify old new status text
IsFoundBy (form.Shrink goal) old new status text = IsFoundFrom (form.Shrink goal) old new status text
IsFoundBy (form.Audit turns workers) old new status text = IsFoundFrom (form.Audit turns workers) old new status text

-- the words are a form that reads, and not too much was read
pub record HasRead (given : List (List ℕ)) (old new : Supply) : Type 0 where
  pub form : Form
  pub is : IsForm given form
  pub may : reads form ≡ true
  pub few : new.taken ≤ old.taken + INPUT_LIMIT

-- memory was wanting: before anything was read, or later
abbrev pub IsStarved : List (List ℕ) → Supply → Supply → Type 0
IsStarved given old new = (new ≡ old) ⊎ HasRead given old new

-- what is found from the words and the source, and its text. Where the words are no form, nothing is read.
abbrev pub IsFound : List (List ℕ) → Supply → Supply → Status → List ℕ → Type 0
IsFound words old new exit.Usage text = IsNoForm words × (new ≡ old) × (text ≡ usage_line)
IsFound words old new exit.Memory text = IsStarved words old new × (text ≡ memory_line)
IsFound words old new status text = (form : Form) × IsForm words form × IsFoundBy form old new status text

-- the text was added and the call answers what it found; or the sink failed, and a front part of the text was added
abbrev pub IsWritten : Status → List ℕ → Store → Store → Status → Type 0
IsWritten found text old new exit.Write = Rose old.faults new.faults × AddsFrontOf text old.held new.held
IsWritten found text old new status = (status ≡ found) × (new.held ≡ append_known old.held text)

-- the whole call
pub record IsAnswered (words : List (List ℕ)) (source_old source_new : Supply) (sink_old sink_new : Store)
    (status : Status) : Type 0 where
  pub found : Status
  pub text : List ℕ
  pub cause : IsFound words source_old source_new found text
  pub written : IsWritten found text sink_old sink_new status

-- ---- exactly where

-- a status comes exactly where its cause holds, but for want of memory and a fault of the sink
pub record ComesExactly (status wanted : Status) (Cause : Type 0) : Type 0 where
  pub only : status ≡ wanted → Cause
  pub always : Cause → status ≢ exit.Memory → status ≢ exit.Write → status ≡ wanted

-- the words are this form, which reads the input, and the source tells these bytes and meets no fault
pub record IsGiven (words : List (List ℕ)) (f : Form) (bytes : List ℕ) (old new : Supply) : Type 0 where
  pub form : IsForm words f
  pub may : reads f ≡ true
  pub left : old.left ≡ Some bytes
  pub no_fault : Rose old.faults new.faults → ⊥

-- they are given, are not too many, and are a task
pub record IsAsked (words : List (List ℕ)) (f : Form) (bytes : List ℕ) (t : Task) (old new : Supply) : Type 0 where
  pub given : IsGiven words f bytes old new
  pub few : length bytes ≤ INPUT_LIMIT
  pub task : task_of f bytes ≡ Ok t

-- the history that is checked goes wrong at some number
abbrev pub GoesWrong : Task → Type 0
GoesWrong t = (n : ℕ) × IsIllegal t n

-- a script is run, migrated, verified or audited; the turns of a schedule make a settled run, or they deliver the goal
-- where they are to be shrunk; the history that is checked is a settled run
abbrev pub GoesWell : Task → Type 0
GoesWell (task.Run input turns) = Unit {0}
GoesWell (task.Live input turns) = Unit {0}
GoesWell (task.Replay input schedule) = refused_turn (task.Replay input schedule) ≡ None
GoesWell (task.Check input history) = IsLegal input history
GoesWell (task.Migrate input) = Unit {0}
GoesWell (task.Verify input) = Unit {0}
GoesWell (task.Shrink input schedule goal) = (g : Goal) × (found input schedule goal ≡ delivered g)
GoesWell (task.Audit input turns workers) = Unit {0}

-- nothing is read, and the status is 0, but for want of memory and a fault of the sink
pub record IsUnread (status : Status) (old new : Supply) : Type 0 where
  pub unread : new ≡ old
  pub ok : status ≢ exit.Memory → status ≢ exit.Write → status ≡ exit.Ok

-- why each status comes
pub record HasCause (words : List (List ℕ)) (source_old source_new : Supply) (sink_old sink_new : Store)
    (status : Status) : Type 0 where
  pub usage : ComesExactly status exit.Usage (IsNoForm words)
  pub unread : status ≡ exit.Usage → source_new ≡ source_old
  pub read : status ≡ exit.Read → Rose source_old.faults source_new.faults
  pub many : status ≡ exit.TooLong → RoseBy (INPUT_LIMIT + 1) source_old.taken source_new.taken
  pub few : status ≢ exit.TooLong → status ≢ exit.Write → source_new.taken ≤ source_old.taken + INPUT_LIMIT
  pub too_long : (form : Form) (bytes : List ℕ) → IsGiven words form bytes source_old source_new →
      ComesExactly status exit.TooLong (INPUT_LIMIT < length bytes)
  pub script : (form : Form) (bytes : List ℕ) → IsGiven words form bytes source_old source_new →
      length bytes ≤ INPUT_LIMIT → ComesExactly status exit.Script (IsSome (refusal form bytes))
  -- the turns of a schedule make no settled run, or one is refused where they are to be shrunk
  pub schedule : (form : Form) (bytes : List ℕ) (t : Task) → IsAsked words form bytes t source_old source_new →
      ComesExactly status exit.Schedule (IsSome (refused_turn t))
  -- the history that is checked is no settled run
  pub illegal : (form : Form) (bytes : List ℕ) (t : Task) → IsAsked words form bytes t source_old source_new →
      ComesExactly status exit.Illegal (GoesWrong t)
  -- no object has the goal's name; the schedule is too long to be shrunk; its turns don't deliver the goal
  pub no_goal : (form : Form) (bytes : List ℕ) (t : Task) → IsAsked words form bytes t source_old source_new →
      ComesExactly status exit.NoGoal (missed t ≡ Some exit.NoGoal)
  pub many_turns : (form : Form) (bytes : List ℕ) (t : Task) → IsAsked words form bytes t source_old source_new →
      ComesExactly status exit.TooMany (missed t ≡ Some exit.TooMany)
  pub undelivered : (form : Form) (bytes : List ℕ) (t : Task) → IsAsked words form bytes t source_old source_new →
      ComesExactly status exit.NotDelivered (missed t ≡ Some exit.NotDelivered)
  -- completeness: else what is asked for is written
  pub ok : (form : Form) (bytes : List ℕ) (t : Task) → IsAsked words form bytes t source_old source_new →
      ComesExactly status exit.Ok (GoesWell t)
  -- completeness of a load, which reads nothing
  pub load : (seed turns : ℕ) → IsForm words (form.Load seed turns) → IsUnread status source_old source_new
  pub write : status ≡ exit.Write → Rose sink_old.faults sink_new.faults
