-- What a form finds to do in the bytes of an input: what is read there, or the line that is refused.
use Rattle.std.specs.Prelude.{◌+◌, ◌≤◌, ℕ, Bool, false, true, List, Ok, Err, Option, Some, None, Result, codes, drop}
use Rattle.std.specs.Prelude.{length, nat_le, take, if◌then◌else◌}
use Rattle.nt_event.specs.declared.limits.TheConstants.{CPUS}
use Rattle.nt_text.specs.declared.kind.ScriptKind.{ScriptKind}
use Rattle.nt_text.specs.declared.kind.ScriptKind.TheVariants.{NoCpus, NoEnd}
use Rattle.nt_text.specs.Lines.{lines}
use Rattle.nt_log.specs.Reading.{reading as schedule_reading}
use Rattle.nt_log.specs.Schedules.{turn_bound}
use Rattle.nt_report.specs.Reading.{reading as report_reading}
use Rattle.nt_script.specs.declared.walk.Input.{Input}
use Rattle.nt_script.specs.Reading.{reading}
use Rattle.nt_script.specs.Sound.{IsSound}
use Rattle.nt_script.specs.Splitting.{split_from}
use Rattle.nt_words.specs.declared.form.Form.{Form}
use Rattle.nt_words.specs.Forms.{IsWorkers}
use Rattle.nt_words.specs.declared.form.Form.TheVariants as form
use Rattle.nt_top.specs.declared.task.Tail.{Tail}
use Rattle.nt_top.specs.declared.task.Tail.TheVariants as tail
use Rattle.nt_top.specs.declared.task.Task.{Task}
use Rattle.nt_top.specs.declared.task.Task.TheVariants as task

-- a line of the input, counted from 1, and what is wrong with it
abbrev pub Bad : Type 0
Bad = ℕ × ScriptKind

-- goes on with what was read, or the line is refused
abbrev pub and_then : {A B : Type 0} → Result A Bad → (A → Result B Bad) → Result B Bad
and_then (Ok x) more = more x
and_then (Err bad) more = Err bad

-- the word that begins what stands behind a script
abbrev pub tail_word : Tail → List ℕ
tail_word tail.Schedule = codes "schedule"
tail_word tail.Report = codes "report"
tail_word (tail.ToShrink goal) = codes "schedule"

-- where the first line with this first field begins: how many bytes stand before it, and its number
abbrev pub behind : List ℕ → List ℕ → Option (ℕ × ℕ)
behind word bytes = split_from word 0 1 (lines bytes)

-- the line behind the last one
abbrev pub last_line : List ℕ → ℕ
last_line bytes = 1 + length (lines bytes)

-- a schedule behind this input, of which the first line has this number
abbrev pub schedule_task : Input → ℕ → List ℕ → Result Task Bad
schedule_task input line rest = and_then (schedule_reading CPUS input line rest)
    (λ schedule. Ok (task.Replay input schedule))

-- a schedule behind this input that is to be shrunk for the goal of this name
abbrev pub shrink_task : List ℕ → Input → ℕ → List ℕ → Result Task Bad
shrink_task goal input line rest = and_then (schedule_reading CPUS input line rest)
    (λ schedule. Ok (task.Shrink input schedule goal))

-- a report behind this input
abbrev pub report_task : Input → ℕ → List ℕ → Result Task Bad
report_task input line rest = and_then (report_reading input line rest) (λ history. Ok (task.Check input history))

abbrev pub tail_task : Tail → Input → ℕ → List ℕ → Result Task Bad
tail_task tail.Schedule input line rest = schedule_task input line rest
tail_task tail.Report input line rest = report_task input line rest
tail_task (tail.ToShrink goal) input line rest = shrink_task goal input line rest

-- a script, and what begins so many bytes behind it, with the line of this number. The script is tested first. Where
-- nothing begins, its first line is missing behind the last one.
abbrev pub two_parts : Tail → Option (ℕ × ℕ) → List ℕ → Result Task Bad
two_parts t (Some (at, line)) bytes = and_then (reading (take at bytes)) (λ input.
    tail_task t input line (drop at bytes))
two_parts t None bytes = and_then (reading bytes) (λ input. Err (last_line bytes, NoEnd))

-- a script, and behind it what begins with the word
abbrev pub both_parts : Tail → List ℕ → Result Task Bad
both_parts t bytes = two_parts t (behind (tail_word t) bytes) bytes

-- the turn limit that is asked for, or the greatest one for so many processors where that is less
abbrev pub limited : Input → ℕ → ℕ
limited input turns =
    if nat_le turns (turn_bound input.script.cpus) then turns else turn_bound input.script.cpus

-- a script alone, to be run by the robin rule or on threads
abbrev pub run_task : ℕ → List ℕ → Result Task Bad
run_task turns bytes = and_then (reading bytes) (λ input. Ok (task.Run input (limited input turns)))

abbrev pub live_task : ℕ → List ℕ → Result Task Bad
live_task turns bytes = and_then (reading bytes) (λ input. Ok (task.Live input (limited input turns)))

-- the input in the newest version of its text
abbrev pub migrated : Input → Input
migrated input = record input { version = 2 }

-- a script alone, to be written in the newest version
abbrev pub migrate_task : List ℕ → Result Task Bad
migrate_task bytes = and_then (reading bytes) (λ input. Ok (task.Migrate (migrated input)))

-- a script alone, to be verified
abbrev pub verify_task : List ℕ → Result Task Bad
verify_task bytes = and_then (reading bytes) (λ input. Ok (task.Verify input))

-- a script alone, to be run and audited by so many workers
abbrev pub audit_task : ℕ → ℕ → List ℕ → Result Task Bad
audit_task turns workers bytes = and_then (reading bytes) (λ input. Ok (task.Audit input (limited input turns) workers))

-- the form reads the input; `load` makes its own
abbrev pub reads : Form → Bool
reads (form.Run turns) = true
reads form.Replay = true
reads form.Check = true
reads (form.Live turns) = true
reads (form.Load seed turns) = false
reads form.Migrate = true
reads form.Verify = true
reads (form.Shrink goal) = true
reads (form.Audit turns workers) = true

-- what a form reads in the bytes. One that reads nothing finds nothing there.
abbrev pub task_of : Form → List ℕ → Result Task Bad
task_of (form.Run turns) bytes = run_task turns bytes
task_of form.Replay bytes = both_parts tail.Schedule bytes
task_of form.Check bytes = both_parts tail.Report bytes
task_of (form.Live turns) bytes = live_task turns bytes
task_of (form.Load seed turns) bytes = Err (1, NoCpus)
task_of form.Migrate bytes = migrate_task bytes
task_of form.Verify bytes = verify_task bytes
task_of (form.Shrink goal) bytes = both_parts (tail.ToShrink goal) bytes
task_of (form.Audit turns workers) bytes = audit_task turns workers bytes

-- ---- what holds of a task

abbrev pub input_of : Task → Input
input_of (task.Run input turns) = input
input_of (task.Live input turns) = input
input_of (task.Replay input schedule) = input
input_of (task.Check input history) = input
input_of (task.Migrate input) = input
input_of (task.Verify input) = input
input_of (task.Shrink input schedule goal) = input
input_of (task.Audit input turns workers) = input

-- the turn limit of its run; a script that is migrated or verified has none
abbrev pub limit_of : Task → ℕ
limit_of (task.Run input turns) = turns
limit_of (task.Live input turns) = turns
limit_of (task.Replay input schedule) = schedule.turns
limit_of (task.Check input history) = history.turns
limit_of (task.Migrate input) = 0
limit_of (task.Verify input) = 0
limit_of (task.Shrink input schedule goal) = schedule.turns
limit_of (task.Audit input turns workers) = turns

-- a turn limit of the input's script
abbrev pub IsLimit : Input → ℕ → Type 0
IsLimit input turns = (1 ≤ turns) × (turns ≤ turn_bound input.script.cpus)

abbrev pub HasLimit : Task → Type 0
HasLimit (task.Run input turns) = IsLimit input turns
HasLimit (task.Live input turns) = IsLimit input turns
HasLimit (task.Replay input schedule) = IsLimit input schedule.turns
HasLimit (task.Check input history) = IsLimit input history.turns
HasLimit (task.Migrate input) = Unit {0}
HasLimit (task.Verify input) = Unit {0}
HasLimit (task.Shrink input schedule goal) = IsLimit input schedule.turns
HasLimit (task.Audit input turns workers) = IsLimit input turns × IsWorkers workers

-- what is read is sound, and its limit and its number of workers are in their ranges
pub record IsSoundTask (t : Task) : Type 0 where
  pub sound : IsSound (input_of t)
  pub limit : HasLimit t

-- the task is done on threads, and so may wait
abbrev pub is_threaded : Task → Bool
is_threaded (task.Run input turns) = false
is_threaded (task.Live input turns) = true
is_threaded (task.Replay input schedule) = false
is_threaded (task.Check input history) = false
is_threaded (task.Migrate input) = false
is_threaded (task.Verify input) = false
is_threaded (task.Shrink input schedule goal) = false
is_threaded (task.Audit input turns workers) = true

-- the form asks for such a task
abbrev pub asks_threads : Form → Bool
asks_threads (form.Run turns) = false
asks_threads (form.Live turns) = true
asks_threads form.Replay = false
asks_threads form.Check = false
asks_threads (form.Load seed turns) = false
asks_threads form.Migrate = false
asks_threads form.Verify = false
asks_threads (form.Shrink goal) = false
asks_threads (form.Audit turns workers) = true
