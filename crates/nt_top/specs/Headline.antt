-- The headline: what the report that is written promises, and that replaying its schedule writes it again.
use Rattle.std.specs.Io.KnownBytes.{append_known}
use Rattle.std.specs.List.{Contains}
use Rattle.std.specs.Prelude.{List, None, Ok, Option, Some, [], drop, false, if◌then◌else◌, is_some, nat_lt}
use Rattle.std.specs.Prelude.{not, reverse, true, ℕ, ◌&&◌, ◌++◌, ◌<◌, ◌∷◌, ◌≡◌, ◌≢◌, ◌↔◌, ◌⊎◌}
use Rattle.nt_close.specs.Close.{IsHeldElsewhere, is_stopped}
use Rattle.nt_event.specs.declared.events.Event.{Event}
use Rattle.nt_event.specs.declared.events.History.{History}
use Rattle.nt_event.specs.declared.numbers.CpuNo.{CpuNo}
use Rattle.nt_event.specs.declared.numbers.LockNo.{LockNo}
use Rattle.nt_event.specs.declared.numbers.ThreadNo.{ThreadNo}
use Rattle.nt_event.specs.declared.scripts.Script.{Script}
use Rattle.nt_event.specs.declared.threads.Doing.TheVariants.{Blocked as IsBlocked}
use Rattle.nt_event.specs.declared.threads.Waiting.{Waiting}
use Rattle.nt_event.specs.Eligible.{Request, eligible, request_of}
use Rattle.nt_event.specs.Fate.{Inserted, Thing, waiting_inserts}
use Rattle.nt_event.specs.Jobs.{rests, spins_still}
use Rattle.nt_event.specs.Numbers.{cpu}
use Rattle.nt_event.specs.Own.{own_of}
use Rattle.nt_event.specs.Queues.{pending}
use Rattle.nt_event.specs.Robin.{is_settled}
use Rattle.nt_event.specs.Routines.{cpu_of}
use Rattle.nt_event.specs.Script.{has_lock, has_thread}
use Rattle.nt_event.specs.Step.{IsRun, is_cut}
use Rattle.nt_event.specs.Timers.{first_due, timers_at}
use Rattle.nt_event.specs.Waits.{facts}
use Rattle.nt_laws.specs.Fates.{NamesPending}
use Rattle.nt_laws.specs.Objects.{HoldsOfEveryObject}
use Rattle.nt_load.specs.Load.{load_input}
use Rattle.nt_log.specs.declared.schedules.Schedule.{Schedule}
use Rattle.nt_print.specs.declared.spins.Spun.{Spun}
use Rattle.nt_print.specs.Summary.{summary_text}
use Rattle.nt_print.specs.Report.{cut_of, cut_row, report_text, spin_left}
use Rattle.nt_ranges.specs.Plain.{IsRunOf as IsRunOfInput}
use Rattle.nt_readings.specs.Fates.{HasOneFate, IsInsert, IsPending}
use Rattle.nt_runs.specs.SomeFrame.{some_frame, spins_lock}
use Rattle.nt_script.specs.Reading.{reading}
use Rattle.nt_script.specs.declared.walk.Input.{Input}
use Rattle.nt_script.specs.Text.{text}
use Rattle.nt_event.specs.Quiet.{IsQuiet}
use Rattle.nt_words.specs.declared.form.Form.{Form}
use Rattle.nt_words.specs.declared.form.Form.TheVariants as form
use Rattle.nt_words.specs.Forms.{IsForm}
use Rattle.nt_top.specs.declared.status.Status.{Status}
use Rattle.nt_top.specs.declared.status.Status.TheVariants as exit
use Rattle.nt_top.specs.declared.task.Tail.TheVariants as tail
use Rattle.nt_top.specs.declared.task.Task.{Task}
use Rattle.nt_top.specs.declared.task.Task.TheVariants as task
use Rattle.nt_top.specs.Outcome.{Gave, IsAnswered, IsGiven, IsRunOf, legal_line}
use Rattle.nt_outside.specs.Sides.{Store, Supply}
use Rattle.nt_top.specs.Audited.{IsAudited}
use Rattle.nt_top.specs.Runs.{IsRobinRun}
use Rattle.nt_top.specs.Shrunk.{IsShrunkTo}
use Rattle.nt_top.specs.Tasks.{behind, input_of, limit_of, limited, migrated, tail_word, task_of}
use Rattle.nt_top.specs.Verified.{verify_text}
use Rattle.nt_verify.specs.Laws.{CallsAreExpected, CleanScriptsRefuseNothing, OrderedScriptsSpinNowhere}

-- ---- the actual history

-- what an event delivers was eligible just before it, and is an insert of its object that was pending then (a DPC's in
-- the queue of its processor, an APC's at the thread that runs there) and that no earlier event delivered; and a
-- removal that isn't refused answers yes exactly where there was an insert
pub record IsDue (s : Script) (e : Event) (past : List Event) : Type 0 where
  pub eligible : (r : Request) → request_of s e.what ≡ Some r → eligible s e.cpu r past ≡ true
  pub pending : NamesPending s e.cpu e.what past
  pub inserts : HoldsOfEveryObject s e past

abbrev pub AllDue : Script → List Event → Type 0
AllDue s [] = Unit {0}
AllDue s (e ∷ past) = IsDue s e past × AllDue s past

-- a processor of the script that made fewer events than the turn limit
pub record IsUncut (s : Script) (limit : ℕ) (past : List Event) (p : CpuNo) : Type 0 where
  pub named : nat_lt p.0 s.cpus ≡ true
  pub uncut : is_cut limit (own_of s p past) ≡ false

-- nothing that may run is left: a processor that isn't cut rests or spins still, and no request is eligible there.
-- Where it rests, no DPC is pending and each thread is blocked or gone; where it spins on a lock, another processor
-- holds that, which is cut or spins still. Nothing waits behind a block; and a due key is left only where a processor
-- is cut or spins still.
pub record NothingIsLeft (s : Script) (limit : ℕ) (past : List Event) : Type 0 where
  pub still : (p : CpuNo) → IsUncut s limit past p → (rests (own_of s p past) ≡ true) ⊎
      (spins_still (own_of s p past) ≡ true)
  pub requests : (p : CpuNo) (r : Request) → IsUncut s limit past p → eligible s p r past ≡ false
  pub dpcs : (p : CpuNo) → IsUncut s limit past p → rests (own_of s p past) ≡ true → pending s p past ≡ []
  pub threads : (p : CpuNo) (t : ThreadNo) → IsUncut s limit past p → rests (own_of s p past) ≡ true →
      has_thread s t ≡ true → (cpu_of s t).0 ≡ p.0 → is_stopped (facts s t past).doing ≡ true
  pub locks : (p : CpuNo) (k : LockNo) → IsUncut s limit past p → k.0 < s.locks →
      some_frame (spins_lock k) s p past ≡ true → IsHeldElsewhere s limit p k past
  pub blocks : (t : ThreadNo) (w : Waiting) → has_thread s t ≡ true → (facts s t past).doing ≡ IsBlocked w →
      IsQuiet w (facts s t past).apcs
  pub keys : ((p : CpuNo) → nat_lt p.0 s.cpus ≡ true → (is_cut limit (own_of s p past) ≡ false) ×
      (spins_still (own_of s p past) ≡ false)) → first_due (timers_at s past) ≡ None

-- the history of a task: the robin run, the run on threads, or the run of the schedule's turns. It is a settled run of
-- the written machine; each insert has exactly one fate, and the waiting ones are those that the report lists; a
-- processor has a line `cut` exactly where it is cut, and a line `spins` exactly where it isn't and spins still, with
-- the lock of the script on which it spins; and no other run of the script has this report.
pub record IsActual (t : Task) (h : History) : Type 0 where
  pub is : IsRunOf t h
  pub turns : h.turns ≡ limit_of t
  pub run : IsRun (input_of t).script (limit_of t) (reverse h.events)
  pub settled : is_settled (input_of t).script (limit_of t) (reverse h.events) ≡ true
  pub due : AllDue (input_of t).script (reverse h.events)
  pub fates : (x : Thing) (n : ℕ) → IsInsert x n (reverse h.events) →
      HasOneFate (input_of t).script x n (reverse h.events)
  pub waiting : (x : Inserted) → Contains (waiting_inserts (reverse h.events)) x ↔
      IsPending (input_of t).script x.thing x.number (reverse h.events)
  pub left : NothingIsLeft (input_of t).script (limit_of t) (reverse h.events)
  pub cut : (p : ℕ) → cut_of h p ≡
      (if is_cut h.turns (own_of (input_of t).script (cpu p) (reverse h.events)) then cut_row p ∷ [] else [])
  pub spins : (p : ℕ) → p < (input_of t).script.cpus → is_some (spin_left h p) ≡
      (not (is_cut h.turns (own_of (input_of t).script (cpu p) (reverse h.events))) &&
      spins_still (own_of (input_of t).script (cpu p) (reverse h.events)))
  pub locked : (p : ℕ) (x : Spun) → spin_left h p ≡ Some x → has_lock (input_of t).script x.lock ≡ true
  pub spun : (p : ℕ) (x : Spun) → p < (input_of t).script.cpus → spin_left h p ≡ Some x →
      some_frame (spins_lock x.lock) (input_of t).script (cpu p) (reverse h.events) ≡ true
  pub one : (g : History) → IsRunOfInput (input_of t) g → report_text (input_of t) h ≡ report_text (input_of t) g →
      h ≡ g

-- ---- what is written

-- the bytes that the source gave are such a task, and exactly the report of its history was added to the sink
pub record IsWhole (f : Form) (so sn : Supply) (ko kn : Store) : Type 0 where
  pub bytes : List ℕ
  pub gave : Gave bytes so sn
  pub task : Task
  pub read : task_of f bytes ≡ Ok task
  pub history : History
  pub actual : IsActual task history
  pub written : kn.held ≡ append_known ko.held (report_text (input_of task) history)

-- the bytes that the source gave are a script and behind it the report of a settled run, and exactly the line of a
-- legal history was added to the sink
pub record IsWholeCheck (so sn : Supply) (ko kn : Store) : Type 0 where
  pub bytes : List ℕ
  pub gave : Gave bytes so sn
  pub input : Input
  pub history : History
  pub read : task_of form.Check bytes ≡ Ok (task.Check input history)
  pub run : IsRun input.script history.turns (reverse history.events)
  pub settled : is_settled input.script history.turns (reverse history.events) ≡ true
  pub written : kn.held ≡ append_known ko.held legal_line

-- nothing was read, and exactly the summary of the robin run of the seed's load was added to the sink
pub record IsWholeLoad (seed limit : ℕ) (so sn : Supply) (ko kn : Store) : Type 0 where
  pub unread : sn ≡ so
  pub history : History
  pub run : IsRobinRun (load_input seed).script limit history
  pub written : kn.held ≡ append_known ko.held (summary_text (load_input seed) history)

-- the bytes that the source gave are a script, and exactly its text in the newest version was added to the sink
pub record IsWholeMigrate (so sn : Supply) (ko kn : Store) : Type 0 where
  pub bytes : List ℕ
  pub gave : Gave bytes so sn
  pub input : Input
  pub read : reading bytes ≡ Ok input
  pub written : kn.held ≡ append_known ko.held (text (migrated input))

-- the bytes that the source gave are a script, and exactly the lines of what is found in it were added to the sink. In
-- every run of this script each call is refused exactly as is expected of its place; where nothing is found, no call is
-- refused; and where the locks are ordered, no processor spins in a settled run in which none is cut.
pub record IsWholeVerify (so sn : Supply) (ko kn : Store) : Type 0 where
  pub bytes : List ℕ
  pub gave : Gave bytes so sn
  pub input : Input
  pub read : reading bytes ≡ Ok input
  pub written : kn.held ≡ append_known ko.held (verify_text input)
  pub expected : CallsAreExpected
  pub clean : CleanScriptsRefuseNothing
  pub ordered : OrderedScriptsSpinNowhere

-- the bytes that the source gave are a script and behind it a schedule, and exactly the text of the shrunk schedule was
-- added to the sink: its turns are those of a run that delivers the goal of this name, and none can be left out
pub record IsWholeShrink (name : List ℕ) (so sn : Supply) (ko kn : Store) : Type 0 where
  pub bytes : List ℕ
  pub gave : Gave bytes so sn
  pub input : Input
  pub schedule : Schedule
  pub read : task_of (form.Shrink name) bytes ≡ Ok (task.Shrink input schedule name)
  pub text : List ℕ
  pub shrunk : IsShrunkTo input schedule name text
  pub written : kn.held ≡ append_known ko.held text

-- the bytes that the source gave are a script, and exactly the audit of its robin run was added to the sink: each work
-- item in the order of the events, with how many inserts were pending just before
pub record IsWholeAudit (turns : ℕ) (so sn : Supply) (ko kn : Store) : Type 0 where
  pub bytes : List ℕ
  pub gave : Gave bytes so sn
  pub input : Input
  pub read : reading bytes ≡ Ok input
  pub text : List ℕ
  pub audited : IsAudited input (limited input turns) text
  pub written : kn.held ≡ append_known ko.held text

-- what a form has written with status 0: `run`, `live` and `replay` the report of their history
abbrev pub HasWritten : Form → Supply → Supply → Store → Store → Type 0
HasWritten (form.Run turns) so sn ko kn = IsWhole (form.Run turns) so sn ko kn
HasWritten (form.Live turns) so sn ko kn = IsWhole (form.Live turns) so sn ko kn
HasWritten form.Replay so sn ko kn = IsWhole form.Replay so sn ko kn
HasWritten form.Check so sn ko kn = IsWholeCheck so sn ko kn
HasWritten (form.Load seed turns) so sn ko kn = IsWholeLoad seed turns so sn ko kn
HasWritten form.Migrate so sn ko kn = IsWholeMigrate so sn ko kn
HasWritten form.Verify so sn ko kn = IsWholeVerify so sn ko kn
HasWritten (form.Shrink goal) so sn ko kn = IsWholeShrink goal so sn ko kn
HasWritten (form.Audit turns workers) so sn ko kn = IsWholeAudit turns so sn ko kn

-- what was written with status 0 is the report of the actual history, that the history of a report is legal, the
-- summary of a load's run, the script in the newest version, what is found in the script, the shrunk schedule, or the
-- audit of the robin run
abbrev pub Headline : Type 0
Headline = (words : List (List ℕ)) (so sn : Supply) (ko kn : Store) → IsAnswered words so sn ko kn exit.Ok →
    (f : Form) × IsForm words f × HasWritten f so sn ko kn

-- ---- replaying

abbrev pub part_from : Option (ℕ × ℕ) → List ℕ → List ℕ
part_from (Some (at, line)) bytes = drop at bytes
part_from None bytes = []

-- the schedule part of a report: from its first line on that begins with the word of a schedule
abbrev pub schedule_part : List ℕ → List ℕ
schedule_part report = part_from (behind (tail_word tail.Schedule) report) report

-- the script's text, and behind it the schedule part of a report
abbrev pub replayed_bytes : Task → History → List ℕ
replayed_bytes t h = text (input_of t) ++ schedule_part (report_text (input_of t) h)

-- `run`, `live` or `replay` wrote a report; the script's text with the report's schedule part behind it, given to
-- `replay`, has status 0 and writes the same report, where memory is found and neither source nor sink fails
abbrev pub ReplayWritesTheSame : Type 0
ReplayWritesTheSame = (words again : List (List ℕ)) (f : Form) (so sn ao an : Supply) (ko kn bo bn : Store)
    (status : Status) (w : IsWhole f so sn ko kn) → IsForm words f →
    IsGiven again form.Replay (replayed_bytes w.task w.history) ao an → IsAnswered again ao an bo bn status →
    status ≢ exit.Memory → status ≢ exit.Write →
    (status ≡ exit.Ok) × (bn.held ≡ append_known bo.held (report_text (input_of w.task) w.history))

-- ---- checking

-- the script's text, and behind it a report
abbrev pub checked_bytes : Task → History → List ℕ
checked_bytes t h = text (input_of t) ++ report_text (input_of t) h

-- `run`, `live` or `replay` wrote a report; the script's text with this report behind it, given to `check`, has status
-- 0 and is called legal, where memory is found and neither source nor sink fails
abbrev pub CheckCallsItLegal : Type 0
CheckCallsItLegal = (words again : List (List ℕ)) (f : Form) (so sn ao an : Supply) (ko kn bo bn : Store)
    (status : Status) (w : IsWhole f so sn ko kn) → IsForm words f →
    IsGiven again form.Check (checked_bytes w.task w.history) ao an → IsAnswered again ao an bo bn status →
    status ≢ exit.Memory → status ≢ exit.Write →
    (status ≡ exit.Ok) × (bn.held ≡ append_known bo.held legal_line)
