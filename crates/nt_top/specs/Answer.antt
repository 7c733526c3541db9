-- What the parts of a call answer.
use Rattle.std.specs.Prelude.{◌≡◌, ℕ, Err, List, Ok, Result}
use Rattle.nt_event.specs.declared.events.History.{History}
use Rattle.nt_core.specs.Replays.{Refused}
use Rattle.nt_core.specs.declared.refusals.ScheduleRefusal.{ScheduleRefusal}
use Rattle.nt_core.specs.declared.refusals.ScheduleRefusal.TheVariants.{Bad, NoMemory}
use Rattle.nt_print.specs.Report.{report_text}
use Rattle.nt_log.specs.declared.schedules.Schedule.{Schedule}
use Rattle.nt_log.specs.Schedules.{schedule_text}
use Rattle.nt_script.specs.declared.walk.Input.{Input}
use Rattle.nt_words.specs.declared.form.Form.{Form}
use Rattle.nt_words.specs.Forms.{IsForm}
use Rattle.nt_top.specs.declared.answer.Answer.{Answer}
use Rattle.nt_top.specs.declared.answer.Text.{Text}
use Rattle.nt_top.specs.declared.answer.Text.TheVariants.{Line, Made}
use Rattle.nt_top.specs.declared.status.Status.{Status}
use Rattle.nt_top.specs.declared.status.Status.TheVariants as exit
use Rattle.nt_top.specs.declared.task.Task.{Task}
use Rattle.nt_top.specs.Outcome.{Gave, IsDone, IsFound, IsFoundBy, IsFoundFrom, IsFoundIn, illegal_line}
use Rattle.nt_outside.specs.Sides.{Supply}
use Rattle.nt_top.specs.Outcome.{memory_line, turn_line}
use Rattle.nt_top.specs.Tasks.{task_of}

-- a text to be written
abbrev pub text_of : Text → List ℕ
text_of (Line line) = line.now
text_of (Made text) = text.items

-- the text is the history's report, or that of want of memory
abbrev pub IsReported : Input → History → Status → List ℕ → Type 0
IsReported input h exit.Ok text = text ≡ report_text input h
IsReported input h exit.Memory text = text ≡ memory_line
IsReported input h _ text = ⊥

-- the text is the line of the refused turn, or that of want of memory
abbrev pub IsTurnRefused : Refused → Status → List ℕ → Type 0
IsTurnRefused r exit.Schedule text = text ≡ turn_line r
IsTurnRefused r exit.Memory text = text ≡ memory_line
IsTurnRefused r _ text = ⊥

-- the text of a history that was made, or of why it wasn't
abbrev pub IsMade : Input → Result History ScheduleRefusal → Status → List ℕ → Type 0
IsMade input (Ok h) status text = IsReported input h status text
IsMade input (Err (Bad at kind)) status text = IsTurnRefused (record { at = at; kind = kind }) status text
IsMade input (Err NoMemory) status text = (status ≡ exit.Memory) × (text ≡ memory_line)

-- the text is that of the schedule, or that of want of memory
abbrev pub IsScheduled : Input → Schedule → Status → List ℕ → Type 0
IsScheduled input schedule exit.Ok text = text ≡ schedule_text input schedule
IsScheduled input schedule exit.Memory text = text ≡ memory_line
IsScheduled input schedule _ text = ⊥

-- the line of the number at which a history goes wrong, or that of want of memory
abbrev pub IsIllegalLine : ℕ → Status → List ℕ → Type 0
IsIllegalLine n exit.Illegal text = text ≡ illegal_line n
IsIllegalLine n exit.Memory text = text ≡ memory_line
IsIllegalLine n _ text = ⊥

-- ---- what is asked for: a task, or what is answered at once

abbrev pub AsksIn : Form → List ℕ → Result Task Answer → Type 0
AsksIn form bytes (Ok t) = task_of form bytes ≡ Ok t
AsksIn form bytes (Err a) = IsFoundIn form bytes a.status (text_of a.text)

-- the source gave bytes that are this task of the form
pub record IsRead (form : Form) (t : Task) (old new : Supply) : Type 0 where
  pub bytes : List ℕ
  pub gave : Gave bytes old new
  pub task : task_of form bytes ≡ Ok t

abbrev pub AsksFrom : Form → Supply → Supply → Result Task Answer → Type 0
AsksFrom form old new (Ok t) = IsRead form t old new
AsksFrom form old new (Err a) = IsFoundFrom form old new a.status (text_of a.text)

abbrev pub AsksBy : Form → Supply → Supply → Result Task Answer → Type 0
AsksBy form old new (Ok t) = IsRead form t old new
AsksBy form old new (Err a) = IsFoundBy form old new a.status (text_of a.text)

abbrev pub Asks : List (List ℕ) → Supply → Supply → Result Task Answer → Type 0
Asks words old new (Ok t) = (form : Form) × IsForm words form × IsRead form t old new
Asks words old new (Err a) = IsFound words old new a.status (text_of a.text)

-- what is answered to a task that was asked for, or what was answered at once
abbrev pub IsAnswerTo : Result Task Answer → Status → List ℕ → Type 0
IsAnswerTo (Ok t) status text = IsDone t status text
IsAnswerTo (Err a) status text = (status ≡ a.status) × (text ≡ text_of a.text)
