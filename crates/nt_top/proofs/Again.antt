-- Replaying the schedule part of a report, behind its script, writes the report again.
use Rattle.std.proofs.Common.{◌≡◌, ◌∙◌, ℕ, ◌+◌, ◌<◌, ◌≤◌, true, false, List, [], ◌∷◌, ◌++◌, length, codes, take, drop, map, reverse, Option, Some, None, Result}
use Rattle.std.proofs.Common.{Ok, ap, arith, refl, subst, sym}
use Rattle.std.specs.Io.KnownBytes.{append_known}
use Rattle.std.specs.List.{AllByRecursion, list_any}
use Rattle.std.specs.Str.{bytes_eq}
use Rattle.std.proofs.lemmas.Bool.{or_from}
use Rattle.std.proofs.lemmas.Grind.{flat_map-append}
use Rattle.std.proofs.lemmas.List.{map-append, reverse-reverse}
use Rattle.std.proofs.Math.Seq.{drop-append_seam, take-append_seam}
use Rattle.nt_core.proofs.Replaying.{runs_replay}
use Rattle.nt_core.specs.Replays.{Refused, replayed}
use Rattle.nt_event.specs.declared.events.Event.{Event}
use Rattle.nt_event.specs.declared.events.History.{History}
use Rattle.nt_event.specs.declared.events.Turn.{Turn}
use Rattle.nt_event.specs.declared.limits.TheConstants.{CPUS}
use Rattle.nt_event.specs.declared.scripts.Script.{Script}
use Rattle.nt_event.specs.Robin.{is_settled}
use Rattle.nt_event.specs.Step.{IsRun, cpu_at, turn_of}
use Rattle.nt_line.specs.Keywords.{keyword_of, word_of}
use Rattle.nt_log.specs.declared.schedules.Schedule.{Schedule}
use Rattle.nt_log.specs.Reading.{start, walk}
use Rattle.nt_log.specs.Schedules.{AreBelow, IsPlain, limit_row, schedule_of, schedule_rows, schedule_text}
use Rattle.nt_log.proofs.Both.{walk_again}
use Rattle.nt_log.proofs.OneSchedule.{schedule_clean}
use Rattle.nt_print.proofs.OneReport.{before_schedule, report_clean}
use Rattle.nt_print.specs.Conditions.{IsPlain as HistoryIsPlain}
use Rattle.nt_print.specs.Report.{report_rows, report_text}
use Rattle.nt_ranges.proofs.Lists.{all_then}
use Rattle.nt_ranges.proofs.Reports.{a_run_has_a_report, few_cpus, its_schedule_is_plain, its_turns_are_of_processors}
use Rattle.nt_ranges.proofs.Sizes.{texts_fit_the_input}
use Rattle.nt_report.proofs.AgainWhole.{report_is_read}
use Rattle.nt_script.specs.declared.walk.Input.{Input}
use Rattle.nt_script.specs.Reading.{reading}
use Rattle.nt_script.specs.Sound.{IsSound}
use Rattle.nt_script.specs.Splitting.{begins, first_begins, split_from}
use Rattle.nt_script.specs.Text.{text}
use Rattle.nt_script.proofs.Behind.{behind as found_behind, rows_bytes, split_behind}
use Rattle.nt_script.proofs.Both.{reading_again}
use Rattle.nt_script.proofs.Cutting.{bytes_of}
use Rattle.nt_script.proofs.Soundness.{sound_fits}
use Rattle.nt_text.specs.declared.lines.TheConstants.{INPUT_LIMIT}
use Rattle.nt_text.specs.Lines.{AllRows, IsRow, Row, first, line_of, lines, row_text, rows_text}
use Rattle.nt_text.proofs.Rows.{fields_again, lines_again}
use Rattle.nt_words.proofs.Answered.{form_within}
use Rattle.nt_words.specs.declared.form.Form.{Form}
use Rattle.nt_words.specs.declared.form.Form.TheVariants as form
use Rattle.nt_words.specs.Forms.{IsForm, WordsHaveOneForm}
use Rattle.nt_top.specs.declared.status.Status.{Status}
use Rattle.nt_top.specs.declared.status.Status.TheVariants as exit
use Rattle.nt_top.specs.declared.task.Tail.{Tail}
use Rattle.nt_top.specs.declared.task.Tail.TheVariants as tail
use Rattle.nt_top.specs.declared.task.Task.{Task}
use Rattle.nt_top.specs.declared.task.Task.TheVariants as task
use Rattle.nt_top.specs.Headline.{CheckCallsItLegal, ReplayWritesTheSame, checked_bytes, part_from, replayed_bytes, schedule_part}
use Rattle.nt_top.specs.Runs.{IsReplayed}
use Rattle.nt_top.specs.Outcome.{Gave, IsAnswered, IsDone, IsFound, IsFoundFrom, IsFoundIn, IsGiven, IsReport, IsWritten, refused_in}
use Rattle.nt_outside.specs.Sides.{Store, Supply}
use Rattle.nt_top.specs.Tasks.{Bad, and_then, behind, input_of, reads, tail_task, tail_word, task_of, two_parts}
use Rattle.nt_top.proofs.Causes.{causes, from_source, gave_told, same_task}
use Rattle.nt_top.proofs.PlainTasks.{run_of_input, sound_task, task_plain}

-- ---- a text of rows is cut before the first one with a word

-- if the rows of two joined lists are rows of a text, those of the first list are
rows_front : (a b : List Row) → AllRows (a ++ b) → AllRows a
rows_front [] b h = tt
rows_front (r ∷ a) b h = (h.0, rows_front a b h.1)

-- if the rows of two joined lists are rows of a text, those of the second list are
rows_back : (a b : List Row) → AllRows (a ++ b) → AllRows b
rows_back [] b h = h
rows_back (r ∷ a) b h = rows_back a b h.1

-- the line of a row begins with a word exactly if the row's first field is that word
begins_row : (word : List ℕ) (row : Row) → IsRow row → begins word (line_of row) ≡ bytes_eq (first row) word
begins_row word row h = ap (λ (r : Row). bytes_eq (first r) word) (fields_again row h)

-- if no row has a word as its first field, no line of the rows begins with it
none_before : (word : List ℕ) (rows : List Row) → AllRows rows → AllByRecursion (λ z. bytes_eq (first z) word ≡ false) rows →
    list_any (begins word) (map line_of rows) ≡ false
none_before word [] h k = refl
none_before word (row ∷ rows) h k =
    or_from (begins word (line_of row)) (list_any (begins word) (map line_of rows)) (begins_row word row h.0 ∙ k.0) (none_before word rows h.1 k.1)

-- the part of a text from the first line that begins with a word is the text of the rows from there on
part_of_rows : (word : List ℕ) (a b : List Row) (bytes : List ℕ) → bytes ≡ rows_text (a ++ b) → AllRows (a ++ b) →
    AllByRecursion (λ z. bytes_eq (first z) word ≡ false) a → first_begins word (map line_of b) ≡ true → part_from (behind word bytes) bytes ≡ rows_text b
part_of_rows word a b bytes e h none there =
    let all : lines bytes ≡ map line_of a ++ map line_of b = ap lines e ∙ lines_again (a ++ b) h ∙ map-append line_of a b in
    let split = ap (split_from word 0 1) all
    ∙ split_behind word 0 1 (map line_of a) (map line_of b) (none_before word a (rows_front a b h) none) there in
    let at : 0 + bytes_of (map line_of a) ≡ length (rows_text a) = (let size = rows_bytes a in omega (arith, size)) in
    ap (λ (o : Option (ℕ × ℕ)). part_from o bytes) split
    ∙ ap (λ (n : ℕ). drop n bytes) at
    ∙ ap (drop (length (rows_text a))) (e ∙ flat_map-append row_text a b)
    ∙ drop-append_seam (rows_text a) (rows_text b)

-- the rows of a schedule are rows of a text, and the first line of them begins the schedule
first_row : (input : Input) (s : Schedule) → AllRows (schedule_rows input.names s) →
    first_begins (tail_word tail.Schedule) (map line_of (schedule_rows input.names s)) ≡ true
first_row input s h = begins_row (tail_word tail.Schedule) (limit_row s.turns) h.0

-- the schedule part of a report is the text of its history's schedule
schedule_of_report : (input : Input) (h : History) → IsSound input → HistoryIsPlain input h → IsPlain input (schedule_of h) →
    schedule_part (report_text input h) ≡ schedule_text input (schedule_of h)
schedule_of_report input h sound plain sched =
    let parts = before_schedule input h plain.few in
    part_of_rows (tail_word tail.Schedule) parts.0 (schedule_rows input.names (schedule_of h)) (report_text input h) (ap rows_text parts.1)
    (subst AllRows parts.1 (report_clean input sound h plain)) parts.2 (first_row input (schedule_of h) (schedule_clean input sound (schedule_of h) sched))

-- ---- the two parts are read

-- no first word of a second part is a keyword of a script
no_keyword : (version : ℕ) (k : Tail) → keyword_of version (tail_word k) ≡ None
unfolding word_of
no_keyword version tail.Schedule = refl
no_keyword version tail.Report = refl
no_keyword version (tail.ToShrink goal) = refl

-- if the front is read as an input and the rest as its task, both parts are read as that task
read_parts : (k : Tail) (input : Input) (at line : ℕ) (bytes front rest : List ℕ) (t : Task) → take at bytes ≡ front → drop at bytes ≡ rest → reading front
    ≡ Ok input → tail_task k input line rest ≡ Ok t → two_parts k (Some (at, line)) bytes ≡ Ok t
read_parts k input at line bytes front rest t a b c d =
    ap (λ (r : Result Input Bad). and_then r (λ i. tail_task k i line (drop at bytes))) (ap reading a ∙ c) ∙ (ap (tail_task k input line) b ∙ d)

-- a script's text, and rows behind it that begin with the word
both_again : (k : Tail) (input : Input) (rows : List Row) (t : Task) → IsSound input → AllRows rows → first_begins (tail_word k) (map line_of rows) ≡ true →
    tail_task k input (1 + length (lines (text input))) (rows_text rows) ≡ Ok t →
    two_parts k (behind (tail_word k) (text input ++ rows_text rows)) (text input ++ rows_text rows) ≡ Ok t
both_again k input rows t sound clean there read =
    let first : first_begins (tail_word k) (lines (rows_text rows)) ≡ true = ap (first_begins (tail_word k)) (lines_again rows clean) ∙ there in
    ap (λ (o : Option (ℕ × ℕ)). two_parts k o (text input ++ rows_text rows))
    (found_behind (tail_word k) input rows (no_keyword input.version k) sound clean first)
    ∙ read_parts k input (length (text input)) (1 + length (lines (text input))) (text input ++ rows_text rows) (text input) (rows_text rows) t
    (take-append_seam (text input) (rows_text rows)) (drop-append_seam (text input) (rows_text rows)) (reading_again input (sound_fits input sound)) read

-- a script with a plain schedule after it is read as the task of replaying that schedule
task_again : (input : Input) (s : Schedule) → IsSound input → IsPlain input s → AreBelow CPUS s.list →
    task_of form.Replay (text input ++ schedule_text input s) ≡ Ok (task.Replay input s)
task_again input s sound plain below =
    let rows = schedule_rows input.names s in
    let clean = schedule_clean input sound s plain in
    let line = 1 + length (lines (text input)) in
    both_again tail.Schedule input rows (task.Replay input s) sound clean (first_row input s clean)
    (ap (λ (r : Result Schedule Bad). and_then r (λ x. Ok (task.Replay input x)))
    (ap (walk CPUS input start line) (lines_again rows clean) ∙ walk_again CPUS line input s sound plain below))

-- a script with a report after it is read as the task of checking the reported history
check_again : (input : Input) (h : History) → IsSound input → HistoryIsPlain input h → task_of form.Check (text input ++ report_text input h)
    ≡ Ok (task.Check input h)
check_again input h sound plain =
    let clean = report_clean input sound h plain in
    both_again tail.Report input (report_rows input h) (task.Check input h) sound clean (begins_row (tail_word tail.Report) (codes "report" ∷ []) clean.0)
    (ap (λ (r : Result History Bad). and_then r (λ x. Ok (task.Check input x)))
    (report_is_read (report_text input h) input h (1 + length (lines (text input))) (record { sound = sound; plain = plain; text = refl })))

-- ---- the turns of a history make it again

-- replaying the schedule of a settled run gives its events again
replayed_again : (s : Script) (h : History) → IsRun s h.turns (reverse h.events) → is_settled s h.turns (reverse h.events) ≡ true →
    replayed s (schedule_of h).turns (schedule_of h).list ≡ Ok (reverse h.events)
replayed_again s h r d =
    ap (λ (es : List Event). replayed s h.turns (map turn_of es)) (sym (reverse-reverse h.events)) ∙ runs_replay s h.turns (reverse h.events) r d

-- two histories that the same replay gives are the same
same_past : (r : Result (List Event) Refused) (a b : List Event) → r ≡ Ok a → r ≡ Ok b → a ≡ b
same_past r a b e k = go (sym e ∙ k)
  where
    go : ◌≡◌ {A = Result (List Event) Refused} (Ok a) (Ok b) → a ≡ b
    go i = cc

-- a history that replays the schedule of another is that other history
history_again : (s : Script) (h k : History) → replayed s (schedule_of h).turns (schedule_of h).list ≡ Ok (reverse h.events) →
    IsReplayed s (schedule_of h) k → k ≡ h
history_again s h k e r =
    let back : reverse k.events ≡ reverse h.events = same_past (replayed s h.turns (schedule_of h).list) (reverse k.events) (reverse h.events) r.run e in
    let events : k.events ≡ h.events = sym (reverse-reverse k.events) ∙ ap reverse back ∙ reverse-reverse h.events in
    ap (λ (n : ℕ). made n k.events) r.turns ∙ ap (λ (es : List Event). made h.turns es) events
  where
    made : ℕ → List Event → History
    made n es = record { turns = n; events = es }

-- ---- the laws

-- what is answered with status 0 to words that are this form and bytes that are this task
answered_well : WordsHaveOneForm → (words : List (List ℕ)) (f : Form) (bytes : List ℕ) (t : Task) (so sn : Supply) (ko kn : Store) (status : Status)
    (a : IsAnswered words so sn ko kn status) → IsGiven words f bytes so sn → task_of f bytes ≡ Ok t → status ≡ exit.Ok →
    IsDone t exit.Ok a.text × (kn.held ≡ append_known ko.held a.text)
answered_well one words f bytes t so sn ko kn status a given asked ok =
    let written : IsWritten a.found a.text ko kn exit.Ok = subst (λ (x : Status). IsWritten a.found a.text ko kn x) ok a.written in
    let found : IsFound words so sn exit.Ok a.text = subst (λ (x : Status). IsFound words so sn x a.text) (sym written.0) a.cause in
    let from : IsFoundFrom found.0 so sn exit.Ok a.text = from_source found.0 so sn exit.Ok a.text
    (subst (λ (x : Form). reads x ≡ true) (sym (one words found.0 f found.1 given.form)) given.may) found.2 in
    (done found.0 found.1 from.0 from.1 from.2, written.1)
  where
    done : (g : Form) → IsForm words g → (xs : List ℕ) → Gave xs so sn → IsFoundIn g xs exit.Ok a.text → IsDone t exit.Ok a.text
    done g form xs gave found =
        let here : task_of f bytes ≡ Ok found.0 =
        subst (λ (x : Form). task_of x bytes ≡ Ok found.0) (one words g f form given.form)
        (subst (λ (ys : List ℕ). task_of g ys ≡ Ok found.0) (gave_told xs bytes so sn gave given.left) found.1) in
        subst (λ (x : Task). IsDone x exit.Ok a.text) (same_task f bytes found.0 t here asked) found.2

-- turns of processors below a count within the bound are of processors below the bound
below_all : (cpus : ℕ) (list : List Turn) → cpus ≤ CPUS → AllByRecursion (λ t. (cpu_at t).0 < cpus) list → AreBelow CPUS list
below_all cpus list few h = all_then (λ t. (cpu_at t).0 < cpus) (λ t. (cpu_at t).0 < CPUS) (λ t k. omega (arith, k, few)) list h

-- replaying a script with the schedule part of its report behind it writes the same report
pub written_again : WordsHaveOneForm → ReplayWritesTheSame
written_again one words again f so sn ao an ko kn bo bn status w form_of given a memory write =
    let t = w.task in
    let h = w.history in
    let input = input_of t in
    let plain = task_plain f w.bytes t (form_within words (Ok f) form_of) w.read in
    let sound = sound_task t plain in
    let own = run_of_input t h plain w.actual.is in
    let sched = its_schedule_is_plain input h own in
    let cpus = few_cpus input sound in
    let below = below_all input.script.cpus (schedule_of h).list (omega (arith, cpus)) (its_turns_are_of_processors input h own) in
    let settled : is_settled input.script h.turns (reverse h.events) ≡ true =
    subst (λ (n : ℕ). is_settled input.script n (reverse h.events) ≡ true) (sym w.actual.turns) w.actual.settled in
    let replays = replayed_again input.script h own.run settled in
    let bytes : replayed_bytes t h ≡ text input ++ schedule_text input (schedule_of h) =
    ap (λ (xs : List ℕ). text input ++ xs) (schedule_of_report input h sound (a_run_has_a_report input h own) sched) in
    let few : length (replayed_bytes t h) ≤ INPUT_LIMIT =
    subst (λ (xs : List ℕ). length xs ≤ INPUT_LIMIT) (sym bytes) (texts_fit_the_input input h own).schedule in
    let asked : task_of form.Replay (replayed_bytes t h) ≡ Ok (task.Replay input (schedule_of h)) =
    ap (task_of form.Replay) bytes ∙ task_again input (schedule_of h) sound sched below in
    let comes = (causes one again ao an bo bn status a).ok form.Replay (replayed_bytes t h) (task.Replay input (schedule_of h))
    (record { given = given; few = few; task = asked }) in
    let ok : status ≡ exit.Ok = comes.always (ap refused_in replays) memory write in
    let answer = answered_well one again form.Replay (replayed_bytes t h) (task.Replay input (schedule_of h)) ao an bo bn status a given asked ok in
    let report : IsReport (task.Replay input (schedule_of h)) a.text = answer.0 in
    let same : report.history ≡ h = history_again input.script h report.history replays report.run in
    (ok, answer.1 ∙ ap (append_known bo.held) (report.is ∙ ap (report_text input) same))

-- what was written, behind its script, is called legal
pub called_legal : WordsHaveOneForm → CheckCallsItLegal
called_legal one words again f so sn ao an ko kn bo bn status w form_of given a memory write =
    let t = w.task in
    let h = w.history in
    let input = input_of t in
    let plain = task_plain f w.bytes t (form_within words (Ok f) form_of) w.read in
    let own = run_of_input t h plain w.actual.is in
    let settled : is_settled input.script h.turns (reverse h.events) ≡ true =
    subst (λ (n : ℕ). is_settled input.script n (reverse h.events) ≡ true) (sym w.actual.turns) w.actual.settled in
    let few : length (checked_bytes t h) ≤ INPUT_LIMIT = (texts_fit_the_input input h own).report in
    let asked : task_of form.Check (checked_bytes t h) ≡ Ok (task.Check input h) = check_again input h (sound_task t plain) (a_run_has_a_report input h own) in
    let comes = (causes one again ao an bo bn status a).ok form.Check (checked_bytes t h) (task.Check input h)
    (record { given = given; few = few; task = asked }) in
    let ok : status ≡ exit.Ok = comes.always (own.run, settled) memory write in
    let answer = answered_well one again form.Check (checked_bytes t h) (task.Check input h) ao an bo bn status a given asked ok in
    (ok, answer.1 ∙ ap (append_known bo.held) answer.0.1)
