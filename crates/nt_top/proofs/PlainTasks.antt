-- A task that was read is one of a sound input, and its history is one that a report may have.
use Rattle.std.proofs.Common.{◌≡◌, ◌∙◌, ℕ, List, Option, Some, None, Result, Ok, Err, ap, arith, refl, subst, sym}
use Rattle.std.proofs.lemmas.Bool.{leb-true}
use Rattle.std.specs.Prelude.{Bool, drop, false, if◌then◌else◌, map, nat_le, reverse, take, true, ◌≤◌}
use Rattle.std.proofs.lemmas.List.{reverse-reverse}
use Rattle.nt_core.proofs.Replaying.{replays_run}
use Rattle.nt_event.specs.declared.events.History.{History}
use Rattle.nt_event.specs.declared.events.Turn.{Turn}
use Rattle.nt_event.specs.declared.limits.TheConstants.{CPUS}
use Rattle.nt_event.specs.Robin.{IsRobin}
use Rattle.nt_event.specs.Step.{IsRun, turn_of}
use Rattle.nt_log.specs.declared.schedules.Schedule.{Schedule}
use Rattle.nt_log.specs.Reading.{reading as schedule_reading}
use Rattle.nt_log.specs.Schedules.{IsPlain, schedule_of, turn_bound}
use Rattle.nt_log.proofs.Both.{walk_takes}
use Rattle.nt_print.specs.Conditions.{IsPlain as HistoryIsPlain}
use Rattle.nt_ranges.proofs.Programs.{a_replay_is_one, a_robin_run_is_one}
use Rattle.nt_ranges.specs.Plain.{IsRunOf as IsRunOfInput}
use Rattle.nt_report.proofs.Contract.{reading_is_report}
use Rattle.nt_report.specs.Reading.{reading as report_reading}
use Rattle.nt_script.specs.declared.walk.Input.{Input}
use Rattle.nt_script.specs.Reading.{reading}
use Rattle.nt_script.specs.Sound.{IsSound}
use Rattle.nt_script.proofs.Contract.{reading_is_text}
use Rattle.nt_script.proofs.Migrating.{migrated_sound}
use Rattle.nt_text.specs.declared.kind.ScriptKind.TheVariants.{NoEnd}
use Rattle.nt_text.specs.Lines.{lines}
use Rattle.nt_words.specs.declared.form.Form.{Form}
use Rattle.nt_words.specs.declared.form.Form.TheVariants as form
use Rattle.nt_words.specs.Forms.{IsTurns, IsWithin}
use Rattle.nt_top.specs.declared.task.Tail.{Tail}
use Rattle.nt_top.specs.declared.task.Tail.TheVariants as tail
use Rattle.nt_top.specs.declared.task.Task.{Task}
use Rattle.nt_top.specs.declared.task.Task.TheVariants as task
use Rattle.nt_top.specs.Outcome.{IsRunOf}
use Rattle.nt_top.specs.Tasks.{Bad, IsLimit, and_then, behind, input_of, last_line, limited, migrated, report_task, tail_task, tail_word}
use Rattle.nt_top.specs.Tasks.{task_of}
use Rattle.nt_top.specs.Tasks.{two_parts}

-- what holds of a task that was read
abbrev pub IsPlainTask : Task → Type 0
IsPlainTask (task.Run input turns) = IsSound input × IsLimit input turns
IsPlainTask (task.Live input turns) = IsSound input × IsLimit input turns
IsPlainTask (task.Replay input schedule) = IsSound input × IsPlain input schedule
IsPlainTask (task.Check input history) = IsSound input × HistoryIsPlain input history
IsPlainTask (task.Migrate input) = IsSound input
IsPlainTask (task.Verify input) = IsSound input
IsPlainTask (task.Shrink input schedule goal) = IsSound input × IsPlain input schedule
IsPlainTask (task.Audit input turns workers) = IsSound input × IsLimit input turns

-- the input of a plain task is sound
pub sound_task : (t : Task) → IsPlainTask t → IsSound (input_of t)
sound_task (task.Run input turns) p = p.0
sound_task (task.Live input turns) p = p.0
sound_task (task.Replay input schedule) p = p.0
sound_task (task.Check input history) p = p.0
sound_task (task.Migrate input) p = p
sound_task (task.Verify input) p = p
sound_task (task.Shrink input schedule goal) p = p.0
sound_task (task.Audit input turns workers) p = p.0

-- a script alone, whatever task is made of it
script_plain : (make : Input → Task) (bytes : List ℕ) (t : Task) → ((input : Input) → IsSound input → IsPlainTask (make input)) →
    and_then (reading bytes) (λ input. Ok (make input)) ≡ Ok t → IsPlainTask t
script_plain make bytes t each e = go (reading bytes) refl e
  where
    go : (r : Result Input Bad) → reading bytes ≡ r → and_then r (λ input. Ok (make input)) ≡ Ok t → IsPlainTask t
    go (Err bad) is h = cc
    go (Ok input) is h =
        let same : make input ≡ t = cc in subst IsPlainTask same (each input (reading_is_text bytes input is).sound)

-- a schedule behind a script, whatever task is made of it
schedule_plain : (make : Schedule → Task) (input : Input) (line : ℕ) (rest : List ℕ) (t : Task) →
    ((schedule : Schedule) → IsPlain input schedule → IsPlainTask (make schedule)) → IsSound input →
    and_then (schedule_reading CPUS input line rest) (λ s. Ok (make s)) ≡ Ok t → IsPlainTask t
schedule_plain make input line rest t each sound e = go (schedule_reading CPUS input line rest) refl e
  where
    go : (r : Result Schedule Bad) → schedule_reading CPUS input line rest ≡ r → and_then r (λ s. Ok (make s)) ≡ Ok t → IsPlainTask t
    go (Err bad) is h = cc
    go (Ok schedule) is h =
        let same : make schedule ≡ t = cc in
        subst IsPlainTask same (each schedule (walk_takes CPUS line input (lines rest) schedule (omega arith) sound is).1)

-- a task that is read from a report after a sound input is plain
report_plain : (input : Input) (line : ℕ) (rest : List ℕ) (t : Task) → IsSound input → report_task input line rest ≡ Ok t → IsPlainTask t
report_plain input line rest t sound e = go (report_reading input line rest) refl e
  where
    go : (r : Result History Bad) → report_reading input line rest ≡ r → and_then r (λ h. Ok (task.Check input h)) ≡ Ok t → IsPlainTask t
    go (Err bad) is h = cc
    go (Ok history) is h =
        let same : task.Check input history ≡ t = cc in
        subst IsPlainTask same (sound, (reading_is_report input sound line rest history is).plain)

-- a task that is read from the second part, after a sound input, is plain
tail_plain : (k : Tail) (input : Input) (line : ℕ) (rest : List ℕ) (t : Task) → IsSound input → tail_task k input line rest ≡ Ok t → IsPlainTask t
tail_plain tail.Schedule input line rest t sound e = schedule_plain (λ s. task.Replay input s) input line rest t (λ s plain. (sound, plain)) sound e
tail_plain tail.Report input line rest t sound e = report_plain input line rest t sound e
tail_plain (tail.ToShrink goal) input line rest t sound e =
    schedule_plain (λ s. task.Shrink input s goal) input line rest t (λ s plain. (sound, plain)) sound e

-- a task that is read from two parts is plain
parts_plain : (k : Tail) (split : Option (ℕ × ℕ)) (bytes : List ℕ) (t : Task) → two_parts k split bytes ≡ Ok t → IsPlainTask t
parts_plain k None bytes t e = go (reading bytes) e
  where
    go : (r : Result Input Bad) → and_then r (λ input. Err (last_line bytes, NoEnd)) ≡ Ok t → IsPlainTask t
    go (Err bad) h = cc
    go (Ok input) h = cc
parts_plain k (Some (at, line)) bytes t e = go (reading (take at bytes)) refl e
  where
    go : (r : Result Input Bad) → reading (take at bytes) ≡ r → and_then r (λ input. tail_task k input line (drop at bytes)) ≡ Ok t → IsPlainTask t
    go (Err bad) is h = cc
    go (Ok input) is h = tail_plain k input line (drop at bytes) t (reading_is_text (take at bytes) input is).sound h

-- the turn limit of a script is one
pub limited_fits : (input : Input) (turns : ℕ) → IsTurns turns → IsLimit input (limited input turns)
limited_fits input turns w = go (nat_le input.script.cpus 8) (nat_le turns (turn_bound input.script.cpus)) refl refl
  where
    go : (few small : Bool) → nat_le input.script.cpus 8 ≡ few → nat_le turns (turn_bound input.script.cpus) ≡ small → IsLimit input (limited input turns)
    go few true e k = rw k (w.0, leb-true turns (turn_bound input.script.cpus) k)
    go true false e k = rw (k, e) (omega arith, omega arith)
    go false false e k = rw (k, e) (omega arith, omega arith)

-- a task that is read from bytes for a form in its ranges is plain
pub task_plain : (f : Form) (bytes : List ℕ) (t : Task) → IsWithin f → task_of f bytes ≡ Ok t → IsPlainTask t
task_plain (form.Run turns) bytes t w e =
    script_plain (λ input. task.Run input (limited input turns)) bytes t (λ input sound. (sound, limited_fits input turns w)) e
task_plain form.Replay bytes t w e = parts_plain tail.Schedule (behind (tail_word tail.Schedule) bytes) bytes t e
task_plain form.Check bytes t w e = parts_plain tail.Report (behind (tail_word tail.Report) bytes) bytes t e
task_plain (form.Live turns) bytes t w e =
    script_plain (λ input. task.Live input (limited input turns)) bytes t (λ input sound. (sound, limited_fits input turns w)) e
task_plain (form.Load seed turns) bytes t w e = cc
task_plain form.Migrate bytes t w e = script_plain (λ input. task.Migrate (migrated input)) bytes t (λ input sound. migrated_sound input sound) e
task_plain form.Verify bytes t w e = script_plain (λ input. task.Verify input) bytes t (λ input sound. sound) e
task_plain (form.Shrink goal) bytes t w e = parts_plain (tail.ToShrink goal) (behind (tail_word (tail.ToShrink goal)) bytes) bytes t e
task_plain (form.Audit turns workers) bytes t w e =
    script_plain (λ input. task.Audit input (limited input turns) workers) bytes t (λ input sound. (sound, limited_fits input turns w.0)) e

-- ---- its history

-- a schedule with the turn limit and the turns of a history is that history's schedule
schedule_same : (h : History) (s : Schedule) → h.turns ≡ s.turns → map turn_of (reverse (reverse h.events)) ≡ s.list → s ≡ schedule_of h
schedule_same h s turns list =
    sym (ap (λ (n : ℕ). made n (map turn_of h.events)) turns
    ∙ ap (λ (xs : List Turn). made s.turns xs) (ap (map turn_of) (sym (reverse-reverse h.events)) ∙ list))
  where
    made : ℕ → List Turn → Schedule
    made n xs = record { turns = n; list = xs }

-- the history of a plain task is a run of the task's input
pub run_of_input : (t : Task) (h : History) → IsPlainTask t → IsRunOf t h → IsRunOfInput (input_of t) h
run_of_input (task.Run input turns) h p r =
    a_robin_run_is_one input h p.0 (subst (IsLimit input) (sym r.turns) p.1)
    (subst (λ (n : ℕ). IsRun input.script n (reverse h.events)) (sym r.turns) r.run)
    (subst (λ (n : ℕ). IsRobin input.script n (reverse h.events)) (sym r.turns) r.robin)
run_of_input (task.Live input turns) h p r = record {
  sound = p.0;
  limit = subst (IsLimit input) (sym r.turns) p.1;
  run = subst (λ (n : ℕ). IsRun input.script n (reverse h.events)) (sym r.turns) r.run;
  looks = r.looks;
}
run_of_input (task.Replay input schedule) h p r =
    let i = replays_run input.script schedule.turns schedule.list (reverse h.events) r.run in
    a_replay_is_one input h p.0 (subst (λ (n : ℕ). IsRun input.script n (reverse h.events)) (sym r.turns) i.run)
    (subst (λ (s : Schedule). IsPlain input s) (schedule_same h schedule r.turns i.turns_are) p.1)
run_of_input (task.Check input history) h p r = absurd r
run_of_input (task.Migrate input) h p r = absurd r
run_of_input (task.Verify input) h p r = absurd r
run_of_input (task.Shrink input schedule goal) h p r = absurd r
run_of_input (task.Audit input turns workers) h p r = absurd r
