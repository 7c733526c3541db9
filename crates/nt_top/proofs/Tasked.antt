-- Which tasks a form has.
use Rattle.std.proofs.Common.{◌≡◌, ℕ, List, Option, Some, None, Result, Ok, Err, refl, subst}
use Rattle.std.specs.Prelude.{drop, false, take, true}
use Rattle.nt_event.specs.declared.limits.TheConstants.{CPUS}
use Rattle.nt_log.specs.Reading.{reading as schedule_reading}
use Rattle.nt_report.specs.Reading.{reading as report_reading}
use Rattle.nt_script.specs.declared.walk.Input.{Input}
use Rattle.nt_script.specs.Reading.{reading}
use Rattle.nt_text.specs.declared.kind.ScriptKind.TheVariants.{NoEnd}
use Rattle.nt_words.specs.declared.form.Form.{Form}
use Rattle.nt_words.specs.declared.form.Form.TheVariants as form
use Rattle.nt_top.specs.declared.task.Tail.{Tail}
use Rattle.nt_top.specs.declared.task.Tail.TheVariants as tail
use Rattle.nt_top.specs.declared.task.Task.{Task}
use Rattle.nt_top.specs.declared.task.Task.TheVariants as task
use Rattle.nt_top.specs.Tasks.{Bad, and_then, asks_threads, behind, is_threaded, last_line, limited, migrated, reads, tail_task, tail_word, task_of, two_parts}

abbrev pub IsCheck : Task → Type 0
IsCheck (task.Run input turns) = ⊥
IsCheck (task.Live input turns) = ⊥
IsCheck (task.Replay input schedule) = ⊥
IsCheck (task.Check input history) = Unit {0}
IsCheck (task.Migrate input) = ⊥
IsCheck (task.Verify input) = ⊥
IsCheck (task.Shrink input schedule goal) = ⊥
IsCheck (task.Audit input turns workers) = ⊥

-- the task is one of a run, whose history is reported
abbrev pub IsRunTask : Task → Type 0
IsRunTask (task.Run input turns) = Unit {0}
IsRunTask (task.Live input turns) = Unit {0}
IsRunTask (task.Replay input schedule) = Unit {0}
IsRunTask (task.Check input history) = ⊥
IsRunTask (task.Migrate input) = ⊥
IsRunTask (task.Verify input) = ⊥
IsRunTask (task.Shrink input schedule goal) = ⊥
IsRunTask (task.Audit input turns workers) = ⊥

-- the task is to shrink a schedule for the goal of this name
abbrev pub IsShrinkTask : List ℕ → Task → Type 0
IsShrinkTask name (task.Run input turns) = ⊥
IsShrinkTask name (task.Live input turns) = ⊥
IsShrinkTask name (task.Replay input schedule) = ⊥
IsShrinkTask name (task.Check input history) = ⊥
IsShrinkTask name (task.Migrate input) = ⊥
IsShrinkTask name (task.Verify input) = ⊥
IsShrinkTask name (task.Shrink input schedule goal) = name ≡ goal
IsShrinkTask name (task.Audit input turns workers) = ⊥

-- what holds of a task that a reader made of what it read
made : {A : Type 0} (P : Task → Type 0) (make : A → Task) → ((x : A) → P (make x)) → (r : Result A Bad) (t : Task) → and_then r (λ x. Ok (make x)) ≡ Ok t →
    P t
made P make each (Err bad) t e = cc
made P make each (Ok x) t e = go e
  where
    go : ◌≡◌ {A = Result Task Bad} (Ok (make x)) (Ok t) → P t
    go h = let same : make x ≡ t = cc in subst P same (each x)

-- what holds of the task of a tail, where it does behind each input
parted : (P : Task → Type 0) (k : Tail) → ((input : Input) (line : ℕ) (rest : List ℕ) (t : Task) → tail_task k input line rest ≡ Ok t → P t) →
    (split : Option (ℕ × ℕ)) (bytes : List ℕ) (t : Task) → two_parts k split bytes ≡ Ok t → P t
parted P k each None bytes t e = go (reading bytes) e
  where
    go : (r : Result Input Bad) → and_then r (λ input. Err (last_line bytes, NoEnd)) ≡ Ok t → P t
    go (Err bad) h = cc
    go (Ok input) h = cc
parted P k each (Some (at, line)) bytes t e = go (reading (take at bytes)) e
  where
    go : (r : Result Input Bad) → and_then r (λ input. tail_task k input line (drop at bytes)) ≡ Ok t → P t
    go (Err bad) h = cc
    go (Ok input) h = each input line (drop at bytes) t h

-- a task of the form `run` is one whose history is reported
pub run_is_a_run : (turns : ℕ) (bytes : List ℕ) (t : Task) → task_of (form.Run turns) bytes ≡ Ok t → IsRunTask t
run_is_a_run turns bytes t e = made IsRunTask (λ input. task.Run input (limited input turns)) (λ x. tt) (reading bytes) t e

-- a task of the form `live` is one whose history is reported
pub live_is_a_run : (turns : ℕ) (bytes : List ℕ) (t : Task) → task_of (form.Live turns) bytes ≡ Ok t → IsRunTask t
live_is_a_run turns bytes t e = made IsRunTask (λ input. task.Live input (limited input turns)) (λ x. tt) (reading bytes) t e

-- a task of the form `replay` is one whose history is reported
pub replay_is_a_run : (bytes : List ℕ) (t : Task) → task_of form.Replay bytes ≡ Ok t → IsRunTask t
replay_is_a_run bytes t e =
    parted IsRunTask tail.Schedule
    (λ input line rest u h. made IsRunTask (λ s. task.Replay input s) (λ x. tt) (schedule_reading CPUS input line rest) u h)
    (behind (tail_word tail.Schedule) bytes) bytes t e

-- a task of the form `check` is to check a history
pub check_is_one : (bytes : List ℕ) (t : Task) → task_of form.Check bytes ≡ Ok t → IsCheck t
check_is_one bytes t e =
    parted IsCheck tail.Report (λ input line rest u h. made IsCheck (λ x. task.Check input x) (λ x. tt) (report_reading input line rest) u h)
    (behind (tail_word tail.Report) bytes) bytes t e

-- a task of the form `shrink` is to shrink a schedule for the form's goal
pub shrink_is_one : (goal bytes : List ℕ) (t : Task) → task_of (form.Shrink goal) bytes ≡ Ok t → IsShrinkTask goal t
shrink_is_one goal bytes t e =
    parted (IsShrinkTask goal) (tail.ToShrink goal)
    (λ input line rest u h. made (IsShrinkTask goal) (λ s. task.Shrink input s goal) (λ x. refl) (schedule_reading CPUS input line rest) u h)
    (behind (tail_word (tail.ToShrink goal)) bytes) bytes t e

-- ---- which forms ask for threads

-- a task that is done on threads is that of `live` or `audit`
pub threads_are_live : (f : Form) (bytes : List ℕ) (t : Task) → task_of f bytes ≡ Ok t → is_threaded t ≡ asks_threads f
threads_are_live (form.Run turns) bytes t e =
    made (λ u. is_threaded u ≡ false) (λ input. task.Run input (limited input turns)) (λ x. refl) (reading bytes) t e
threads_are_live (form.Live turns) bytes t e =
    made (λ u. is_threaded u ≡ true) (λ input. task.Live input (limited input turns)) (λ x. refl) (reading bytes) t e
threads_are_live form.Replay bytes t e =
    parted (λ u. is_threaded u ≡ false) tail.Schedule
    (λ input line rest u h. made (λ v. is_threaded v ≡ false) (λ s. task.Replay input s) (λ x. refl) (schedule_reading CPUS input line rest) u h)
    (behind (tail_word tail.Schedule) bytes) bytes t e
threads_are_live form.Check bytes t e =
    parted (λ u. is_threaded u ≡ false) tail.Report
    (λ input line rest u h. made (λ v. is_threaded v ≡ false) (λ x. task.Check input x) (λ x. refl) (report_reading input line rest) u h)
    (behind (tail_word tail.Report) bytes) bytes t e
threads_are_live (form.Load seed turns) bytes t e = cc
threads_are_live form.Migrate bytes t e =
    made (λ u. is_threaded u ≡ false) (λ input. task.Migrate (migrated input)) (λ x. refl) (reading bytes) t e
threads_are_live form.Verify bytes t e =
    made (λ u. is_threaded u ≡ false) (λ input. task.Verify input) (λ x. refl) (reading bytes) t e
threads_are_live (form.Shrink goal) bytes t e =
    parted (λ u. is_threaded u ≡ false) (tail.ToShrink goal)
    (λ input line rest u h. made (λ v. is_threaded v ≡ false) (λ s. task.Shrink input s goal) (λ x. refl) (schedule_reading CPUS input line rest) u h)
    (behind (tail_word (tail.ToShrink goal)) bytes) bytes t e
threads_are_live (form.Audit turns workers) bytes t e =
    made (λ u. is_threaded u ≡ true) (λ input. task.Audit input (limited input turns) workers) (λ x. refl) (reading bytes) t e

-- and a form that has a task reads it from the source
pub tasks_are_read : (f : Form) (bytes : List ℕ) (t : Task) → task_of f bytes ≡ Ok t → reads f ≡ true
tasks_are_read (form.Run turns) bytes t e = refl
tasks_are_read (form.Live turns) bytes t e = refl
tasks_are_read form.Replay bytes t e = refl
tasks_are_read form.Check bytes t e = refl
tasks_are_read (form.Load seed turns) bytes t e = cc
tasks_are_read form.Migrate bytes t e = refl
tasks_are_read form.Verify bytes t e = refl
tasks_are_read (form.Shrink goal) bytes t e = refl
tasks_are_read (form.Audit turns workers) bytes t e = refl
