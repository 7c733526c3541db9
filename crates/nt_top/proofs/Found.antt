-- What is found in the bytes of an input, from what each part of the call answers.
use Rattle.std.proofs.Common.{inl, inr, ◌≡◌, ℕ, List, Some, Result, Ok, Err, ap, refl, subst, sym}
use Rattle.std.specs.Prelude.{IfOk, true}
use Rattle.nt_core.specs.declared.refusals.ScheduleRefusal.{ScheduleRefusal}
use Rattle.nt_core.specs.declared.refusals.ScheduleRefusal.TheVariants.{Bad, NoMemory}
use Rattle.nt_core.specs.Replays.{Refused}
use Rattle.nt_event.specs.declared.events.History.{History}
use Rattle.nt_event.specs.declared.events.ScheduleKind.{ScheduleKind}
use Rattle.nt_print.specs.Report.{report_text}
use Rattle.nt_script.specs.declared.walk.Input.{Input}
use Rattle.nt_text.specs.declared.kind.ScriptKind.{ScriptKind}
use Rattle.nt_words.specs.declared.form.Form.{Form}
use Rattle.nt_words.specs.declared.form.Form.TheVariants as form
use Rattle.nt_words.specs.Forms.{IsForm}
use Rattle.nt_top.specs.declared.status.Status.{Status}
use Rattle.nt_top.specs.declared.status.Status.TheVariants as exit
use Rattle.nt_top.specs.declared.task.Task.{Task}
use Rattle.nt_top.specs.declared.task.Task.TheVariants as task
use Rattle.nt_top.specs.Answer.{IsIllegalLine, IsMade, IsReported, IsTurnRefused}
use Rattle.nt_top.specs.Outcome.{IsFound, IsFoundBy, IsFoundFrom, refusal, refusal_of, refused_turn, IsDone, IsFoundIn, IsIllegal, IsRefused, IsRunOf}
use Rattle.nt_outside.specs.Sides.{Supply}
use Rattle.nt_top.specs.Outcome.{IsWell}
use Rattle.nt_top.specs.Tasks.{reads, input_of, task_of}

-- a line is refused
pub refused_in : (form : Form) (bytes : List ℕ) (line : ℕ) (kind : ScriptKind) (status : Status) (text : List ℕ) → refusal form bytes
    ≡ Some (line, kind) → IsRefused line kind status text → IsFoundIn form bytes status text
refused_in form bytes line kind exit.Ok text r h = absurd h
refused_in form bytes line kind exit.Usage text r h = absurd h
refused_in form bytes line kind exit.Script text r h = ((line, kind), r, h)
refused_in form bytes line kind exit.Schedule text r h = absurd h
refused_in form bytes line kind exit.Read text r h = absurd h
refused_in form bytes line kind exit.Write text r h = absurd h
refused_in form bytes line kind exit.Memory text r h = h
refused_in form bytes line kind exit.TooLong text r h = absurd h
refused_in form bytes line kind exit.Illegal text r h = absurd h
refused_in form bytes line kind exit.NoGoal text r h = absurd h
refused_in form bytes line kind exit.TooMany text r h = absurd h
refused_in form bytes line kind exit.NotDelivered text r h = absurd h

-- the line that is refused
pub bad_refused : (form : Form) (bytes : List ℕ) (line : ℕ) (kind : ScriptKind) → task_of form bytes ≡ Err (line, kind) → refusal form bytes
    ≡ Some (line, kind)
bad_refused form bytes line kind read = ap refusal_of read

-- a task is read, and done
pub done_in : (form : Form) (bytes : List ℕ) (t : Task) (status : Status) (text : List ℕ) → task_of form bytes ≡ Ok t → IsDone t status text →
    IsFoundIn form bytes status text
done_in form bytes t exit.Ok text read h = (t, read, h)
done_in form bytes t exit.Usage text read h = absurd h
done_in form bytes t exit.Script text read h = absurd h
done_in form bytes t exit.Schedule text read h = (t, read, h)
done_in form bytes t exit.Read text read h = absurd h
done_in form bytes t exit.Write text read h = absurd h
done_in form bytes t exit.Memory text read h = h
done_in form bytes t exit.TooLong text read h = absurd h
done_in form bytes t exit.Illegal text read h = (t, read, h)
done_in form bytes t exit.NoGoal text read h = (t, read, h)
done_in form bytes t exit.TooMany text read h = (t, read, h)
done_in form bytes t exit.NotDelivered text read h = (t, read, h)

-- the report of a history that a task's run has is what the task writes if it goes well
well_of : (t : Task) (h : History) (text : List ℕ) → IsRunOf t h → text ≡ report_text (input_of t) h → IsWell t text
well_of (task.Run input turns) h text r k = record { history = h; run = r; is = k }
well_of (task.Live input turns) h text r k = record { history = h; run = r; is = k }
well_of (task.Replay input schedule) h text r k = record { history = h; run = r; is = k }
well_of (task.Check input history) h text r k = absurd r
well_of (task.Migrate input) h text r k = absurd r
well_of (task.Verify input) h text r k = absurd r
well_of (task.Shrink input schedule goal) h text r k = absurd r
well_of (task.Audit input turns workers) h text r k = absurd r

-- the history of a task is reported
pub reported_done : (t : Task) (h : History) (status : Status) (text : List ℕ) → IsRunOf t h → IsReported (input_of t) h status text → IsDone t status text
reported_done t h exit.Ok text r k = well_of t h text r k
reported_done t h exit.Usage text r k = absurd k
reported_done t h exit.Script text r k = absurd k
reported_done t h exit.Schedule text r k = absurd k
reported_done t h exit.Read text r k = absurd k
reported_done t h exit.Write text r k = absurd k
reported_done t h exit.Memory text r k = k
reported_done t h exit.TooLong text r k = absurd k
reported_done t h exit.Illegal text r k = absurd k
reported_done t h exit.NoGoal text r k = absurd k
reported_done t h exit.TooMany text r k = absurd k
reported_done t h exit.NotDelivered text r k = absurd k

-- a turn of a task is refused
pub turn_done : (t : Task) (r : Refused) (status : Status) (text : List ℕ) → refused_turn t ≡ Some r → IsTurnRefused r status text → IsDone t status text
turn_done t r exit.Ok text e k = absurd k
turn_done t r exit.Usage text e k = absurd k
turn_done t r exit.Script text e k = absurd k
turn_done t r exit.Schedule text e k = (r, e, k)
turn_done t r exit.Read text e k = absurd k
turn_done t r exit.Write text e k = absurd k
turn_done t r exit.Memory text e k = k
turn_done t r exit.TooLong text e k = absurd k
turn_done t r exit.Illegal text e k = absurd k
turn_done t r exit.NoGoal text e k = absurd k
turn_done t r exit.TooMany text e k = absurd k
turn_done t r exit.NotDelivered text e k = absurd k

-- a history was made for the task, or its turns are refused
pub made_done : (t : Task) (r : Result History ScheduleRefusal) (status : Status) (text : List ℕ) → IfOk r (IsRunOf t) →
    ((at : ℕ) (kind : ScheduleKind) → r ≡ Err (Bad at kind) → refused_turn t ≡ Some (record { at = at; kind = kind })) →
    IsMade (input_of t) r status text → IsDone t status text
made_done t (Ok h) status text ok err m = reported_done t h status text ok m
made_done t (Err (Bad at kind)) status text ok err m = turn_done t (record { at = at; kind = kind }) status text (err at kind refl) m
made_done t (Err NoMemory) status text ok err m = subst (λ (s : Status). IsDone t s text) (sym m.0) m.1

-- a history goes wrong at this number
pub illegal_done : (input : Input) (h : History) (n : ℕ) (status : Status) (text : List ℕ) → IsIllegal (task.Check input h) n →
    IsIllegalLine n status text → IsDone (task.Check input h) status text
illegal_done input h n exit.Ok text v k = absurd k
illegal_done input h n exit.Usage text v k = absurd k
illegal_done input h n exit.Script text v k = absurd k
illegal_done input h n exit.Schedule text v k = absurd k
illegal_done input h n exit.Read text v k = absurd k
illegal_done input h n exit.Write text v k = absurd k
illegal_done input h n exit.Memory text v k = k
illegal_done input h n exit.TooLong text v k = absurd k
illegal_done input h n exit.Illegal text v k = (n, v, k)
illegal_done input h n exit.NoGoal text v k = absurd k
illegal_done input h n exit.TooMany text v k = absurd k
illegal_done input h n exit.NotDelivered text v k = absurd k

-- ---- what a form finds is what the words find

-- what a form that reads its source finds is what the words of that form find
found_as_form : (f : Form) (words : List (List ℕ)) (so sn : Supply) (status : Status) (text : List ℕ) → reads f ≡ true → IsForm words f →
    IsFoundFrom f so sn status text → IsFoundBy f so sn status text → IsFound words so sn status text
found_as_form f words so sn exit.Ok text r h w v = (f, h, v)
found_as_form f words so sn exit.Usage text r h w v = absurd w
found_as_form f words so sn exit.Script text r h w v = (f, h, v)
found_as_form f words so sn exit.Schedule text r h w v = (f, h, v)
found_as_form f words so sn exit.Read text r h w v = (f, h, v)
found_as_form f words so sn exit.Write text r h w v = (f, h, v)
found_as_form f words so sn exit.Memory text r h w v = (inr (record { form = f; is = h; may = r; few = w.0 }), w.1)
found_as_form f words so sn exit.TooLong text r h w v = (f, h, v)
found_as_form f words so sn exit.Illegal text r h w v = (f, h, v)
found_as_form f words so sn exit.NoGoal text r h w v = (f, h, v)
found_as_form f words so sn exit.TooMany text r h w v = (f, h, v)
found_as_form f words so sn exit.NotDelivered text r h w v = (f, h, v)

-- what the form load finds is what the words of that form find
found_as_load : (seed turns : ℕ) (words : List (List ℕ)) (so sn : Supply) (status : Status) (text : List ℕ) → IsForm words (form.Load seed turns) →
    IsFoundBy (form.Load seed turns) so sn status text → IsFound words so sn status text
found_as_load seed turns words so sn exit.Ok text h w = (form.Load seed turns, h, w)
found_as_load seed turns words so sn exit.Usage text h w = absurd w.1
found_as_load seed turns words so sn exit.Script text h w = absurd w.1
found_as_load seed turns words so sn exit.Schedule text h w = absurd w.1
found_as_load seed turns words so sn exit.Read text h w = absurd w.1
found_as_load seed turns words so sn exit.Write text h w = absurd w.1
found_as_load seed turns words so sn exit.Memory text h w = (inl w.0, w.1)
found_as_load seed turns words so sn exit.TooLong text h w = absurd w.1
found_as_load seed turns words so sn exit.Illegal text h w = absurd w.1
found_as_load seed turns words so sn exit.NoGoal text h w = absurd w.1
found_as_load seed turns words so sn exit.TooMany text h w = absurd w.1
found_as_load seed turns words so sn exit.NotDelivered text h w = absurd w.1

-- what is found by the form of the words is found for the words
pub found_by : (f : Form) (words : List (List ℕ)) (so sn : Supply) (status : Status) (text : List ℕ) → IsForm words f → IsFoundBy f so sn status text →
    IsFound words so sn status text
found_by (form.Run turns) words so sn status text h w = found_as_form (form.Run turns) words so sn status text refl h w w
found_by form.Replay words so sn status text h w = found_as_form form.Replay words so sn status text refl h w w
found_by form.Check words so sn status text h w = found_as_form form.Check words so sn status text refl h w w
found_by (form.Live turns) words so sn status text h w = found_as_form (form.Live turns) words so sn status text refl h w w
found_by (form.Load seed turns) words so sn status text h w = found_as_load seed turns words so sn status text h w
found_by form.Migrate words so sn status text h w = found_as_form form.Migrate words so sn status text refl h w w
found_by form.Verify words so sn status text h w = found_as_form form.Verify words so sn status text refl h w w
found_by (form.Shrink goal) words so sn status text h w = found_as_form (form.Shrink goal) words so sn status text refl h w w
found_by (form.Audit turns workers) words so sn status text h w = found_as_form (form.Audit turns workers) words so sn status text refl h w w
