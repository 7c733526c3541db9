-- The text of an input is read as the input: all parts together.
use Rattle.std.proofs.Common.{◌≡◌, ℕ, zero, suc, ◌+◌, ◌≤◌, Bool, cond, List, [], ◌∷◌, ◌++◌, length, map, Option, Some, None, Result, Ok, refl, sym, ◌∙◌, ap}
use Rattle.std.proofs.Common.{subst, arith, lit≤}
use Rattle.std.specs.Prelude.{IfSome}
use Rattle.std.specs.Str.{bytes_eq}
use Rattle.nt_line.specs.Keywords.{text_of}
use Rattle.std.specs.List.{join_with_byte}
use Rattle.std.proofs.lemmas.List.{append-nil}
use Rattle.nt_text.specs.declared.kind.ScriptKind.{ScriptKind}
use Rattle.nt_text.specs.Lines.{AllRows, line_of, lines, fields, first}
use Rattle.nt_text.proofs.Rows.{fields_again, row_again, lines_again}
use Rattle.nt_event.specs.declared.scripts.Script.{Script}
use Rattle.nt_line.specs.declared.keywords.Place.{Place}
use Rattle.nt_line.specs.declared.keywords.Place.TheVariants.{Start, HasVersion, HasCpus, HasDepth, HasThreaded, InIsrs, InDpcs, InTimers, InThreads, InApcs}
use Rattle.nt_line.specs.declared.keywords.Place.TheVariants.{InLocks, InRoutines, InRoutine}
use Rattle.nt_script.specs.declared.walk.Walk.{Walk}
use Rattle.nt_script.specs.declared.walk.Input.{Input}
use Rattle.nt_line.specs.NameLists.{NameLists, no_names}
use Rattle.nt_script.specs.Versions.{version_of}
use Rattle.nt_script.specs.Reading.{finish, with_version, step, walk, names_after, names_from, start, reading, reading_by}
use Rattle.nt_text.specs.Lines.{Row}
use Rattle.nt_line.specs.declared.keywords.Keyword.TheVariants as keyword
use Rattle.nt_line.specs.Rows.{number_row, depth_rows, threaded_rows, isr_row, dpc_row, timer_row, thread_row, apc_row, lock_row}
use Rattle.nt_script.specs.Text.{version_rows, header_rows, declared_rows, routine_rows, input_rows, text}
use Rattle.nt_line.specs.NameLists.{AreNew}
use Rattle.nt_line.proofs.UsedNames.{AreFew}
use Rattle.nt_script.proofs.Fit.{Fit}
use Rattle.nt_script.proofs.Steps.{Good, Between}
use Rattle.nt_script.proofs.Whole.{made, step_named, good_start, few_none}
use Rattle.nt_line.proofs.Found.{are_read}
use Rattle.nt_line.proofs.Words.{lock_since}
use Rattle.nt_script.proofs.Clean.{input_clean}
use Rattle.nt_script.proofs.Again.{Steps, steps_then, place_after, Ran, version_step, cpus_step, depth_step, threaded_step, after_isrs, isrs_run, after_dpcs}
use Rattle.nt_script.proofs.Again.{dpcs_run, after_timers, timers_run, after_threads, threads_run, after_apcs, apcs_run, after_locks, locks_run, routines_run}

abbrev done : Input → Result Input (ℕ × ScriptKind)
done input = Ok input

-- ---- steps along the lines

-- a text may end behind any line but in a routine
may_end : (p : Place) (w : Walk) (n : ℕ) → Between 2 11 p → finish p w n ≡ Ok (made w)
may_end Start w n h = absurd (omega (arith, h.0))
may_end HasVersion w n h = absurd (omega (arith, h.0))
may_end HasCpus w n h = refl
may_end HasDepth w n h = refl
may_end HasThreaded w n h = refl
may_end InIsrs w n h = refl
may_end InDpcs w n h = refl
may_end InTimers w n h = refl
may_end InThreads w n h = refl
may_end InApcs w n h = refl
may_end InLocks w n h = refl
may_end InRoutines w n h = refl
may_end InRoutine w n h = absurd (omega (arith, h.1))

-- a walk over the lines of rows that lead to a place where a text may end makes the script of that end
walk_again : (all : NameLists) (w last : Walk) (n : ℕ) (rows : List Row) → AllRows rows → Steps all w rows last → Between 2 11 last.place →
    walk all w n (map line_of rows) ≡ Ok (made last)
walk_again all w last n [] clean s opens = rw s (may_end last.place last n opens)
walk_again all w last n (row ∷ rows) clean s opens = rw (row_again row clean.0, s.1) (walk_again all s.0 last (n + 1) rows clean.1 s.2 opens)

-- the names collected from the lines of rows are those of the state that the rows lead to
names_again : (all : NameLists) (w last : Walk) (rows : List Row) → AllRows rows → Steps all w rows last → Good w → AreFew w.names →
    names_from w.version w.names (map line_of rows) ≡ last.names
names_again all w last [] clean s good few = ap (λ (w : Walk). w.names) s
names_again all w last (row ∷ rows) clean s good few =
    let n = step_named all w row s.0 s.1 good few in
    let one : names_after w.version w.names (fields (join_with_byte 32 row)) ≡ s.0.names = ap (names_after w.version w.names) (fields_again row clean.0)
    ∙ n.names in
    ap (λ (names : NameLists). names_from w.version names (map line_of rows)) one
    ∙ ap (λ (v : ℕ). names_from v s.0.names (map line_of rows)) (sym n.version) ∙ names_again all s.0 last rows clean.1 s.2 n.good n.few

-- ---- the parts

-- the place after a list of things is between the bounds that both choices are between
after : {A : Type 0} (xs : List A) (p q : Place) (low high : ℕ) → Between low high p → Between low high q → Between low high (place_after xs p q)
after [] p q low high h k = h
after (x ∷ xs) p q low high h k = k

-- a place between the start and a bound is also between the start and the next bound
wider : (p : Place) (high : ℕ) → Between 2 high p → Between 2 (high + 1) p
wider p high h = (h.0, omega (arith, h.1))

-- the head was read, of a text of this version
abbrev begun : ℕ → ℕ → Option ℕ → Option Bool → Place → Walk
begun version cpus depth threaded p = record {
  version = version;
  script = record {
    cpus = cpus;
    depth = depth;
    threaded = threaded;
    isrs = [];
    dpcs = [];
    timers = [];
    threads = [];
    apcs = [];
    routines = [];
    locks = 0;
  };
  names = no_names;
  body = [];
  commands = 0;
  place = p;
}

-- the rows behind the head, part by part
abbrev from_routines : NameLists → Script → List Row
from_routines names script = routine_rows names names.routines script.routines

abbrev from_locks : NameLists → Script → List Row
from_locks names script = map lock_row names.locks ++ from_routines names script

abbrev from_apcs : NameLists → Script → List Row
from_apcs names script = declared_rows (apc_row names) names.apcs script.apcs ++ from_locks names script

abbrev from_threads : NameLists → Script → List Row
from_threads names script = declared_rows (thread_row names) names.threads script.threads ++ from_apcs names script

abbrev from_timers : NameLists → Script → List Row
from_timers names script = declared_rows (timer_row names) names.timers script.timers ++ from_threads names script

abbrev from_dpcs : NameLists → Script → List Row
from_dpcs names script = declared_rows (dpc_row names) names.dpcs script.dpcs ++ from_timers names script

abbrev part_rows : NameLists → Script → List Row
part_rows names script = map (isr_row names) script.isrs ++ from_dpcs names script

abbrev with_locks : Script → ℕ → Script
with_locks script n = record script { locks = n }

-- the rows of all parts after the head are read as the parts of the input and its names
parts_run : (input : Input) → Fit input → (p : Place) → Between 2 4 p →
    Ran input.names (begun input.version input.script.cpus input.script.depth input.script.threaded p) (part_rows input.names input.script)
    (with_locks input.script (length input.names.locks)) input.names
parts_run input s p at =
    let names = input.names in
    let script = input.script in
    let has = s.words in
    let are = are_read names s.few s.names in
    let w0 = begun input.version script.cpus script.depth script.threaded p in
    let at5 = wider p 4 at in
    let p1 = place_after script.isrs p InIsrs in
    let w1 = after_isrs w0 script.isrs p1 in
    let r1 : Steps names w0 (map (isr_row names) script.isrs) w1 = isrs_run names are w0 has s.cpus.1 script.isrs [] p at5 s.isrs s.apart in
    let at6 = wider p1 5 (after script.isrs p InIsrs 2 5 at5 (omega arith, omega arith)) in
    let p2 = place_after script.dpcs p1 InDpcs in
    let w2 = after_dpcs w1 names.dpcs script.dpcs p2 in
    let r2 : Steps names w1
    (declared_rows
    (dpc_row names) names.dpcs script.dpcs) w2 = dpcs_run names are w1 has refl refl refl refl refl names.dpcs script.dpcs [] [] p1 at6 s.dpc_count s.names.dpcs
    s.dpcs (omega (arith, s.few.dpcs, s.dpc_count)) in
    let at7 = wider p2 6 (after script.dpcs p1 InDpcs 2 6 at6 (omega arith, omega arith)) in
    let p3 = place_after script.timers p2 InTimers in
    let w3 = after_timers w2 names.timers script.timers p3 in
    let new3 : AreNew (names.dpcs ++ []) names.timers = subst (λ (b : List (List ℕ)). AreNew b names.timers) (sym (append-nil names.dpcs)) s.names.timers in
    let r3 : Steps names w2
    (declared_rows
    (timer_row names) names.timers script.timers) w3 = timers_run names are w2 has refl refl refl refl names.timers script.timers [] [] p2 at7 s.timer_count
    new3
    s.timers (omega (arith, s.few.timers, s.timer_count)) in
    let at8 = wider p3 7 (after script.timers p2 InTimers 2 7 at7 (omega arith, omega arith)) in
    let p4 = place_after script.threads p3 InThreads in
    let w4 = after_threads w3 names.threads script.threads p4 in
    let new4 : AreNew ((names.dpcs ++ names.timers) ++ []) names.threads = subst (λ (b : List (List ℕ)). AreNew b names.threads)
    (sym (append-nil (names.dpcs ++ names.timers))) s.names.threads in
    let r4 : Steps names w3
    (declared_rows
    (thread_row names) names.threads script.threads) w4 = threads_run names are w3 has s.cpus.1 refl refl refl names.threads script.threads [] [] p3 at8
    s.thread_count new4 s.threads (omega (arith, s.few.threads, s.thread_count)) in
    let at9 = wider p4 8 (after script.threads p3 InThreads 2 8 at8 (omega arith, omega arith)) in
    let p5 = place_after script.apcs p4 InApcs in
    let w5 = after_apcs w4 names.apcs script.apcs p5 in
    let new5 : AreNew (((names.dpcs ++ names.timers) ++ names.threads) ++ []) names.apcs = subst (λ (b : List (List ℕ)). AreNew b names.apcs)
    (sym (append-nil ((names.dpcs ++ names.timers) ++ names.threads))) s.names.apcs in
    let r5 : Steps names w4
    (declared_rows (apc_row names) names.apcs script.apcs) w5 = apcs_run names are w4 has refl refl names.apcs script.apcs [] [] p4 at9 s.apc_count new5 s.apcs
    (omega (arith, s.few.apcs, s.apc_count)) in
    let at10 = wider p5 9 (after script.apcs p4 InApcs 2 9 at9 (omega arith, omega arith)) in
    let p6 = place_after names.locks p5 InLocks in
    let w6 = after_locks w5 names.locks p6 in
    let before6 = ((names.dpcs ++ names.timers) ++ names.threads) ++ names.apcs in
    let new6 : AreNew (before6 ++ []) names.locks = subst (λ (b : List (List ℕ)). AreNew b names.locks) (sym (append-nil before6)) s.names.locks in
    let r6 : Steps names w5 (map lock_row names.locks) w6 = locks_run names w5 refl names.locks [] p5
    (λ there. lock_since names input.version 0 has (omega (arith, there))) at10 new6 (omega (arith, s.few.locks)) in
    let at11 = wider p6 10 (after names.locks p5 InLocks 2 10 at10 (omega arith, omega arith)) in
    let before7 = before6 ++ names.locks in
    let new7 : AreNew (before7 ++ []) names.routines = subst
    (λ (b : List (List ℕ)). AreNew b names.routines) (sym (append-nil before7)) s.names.routines in
    let r = routines_run names are names.routines script.routines w6 has s.routine_count new7 refl s.cpus.1 s.routines (omega (arith, s.command_count))
    (omega (arith, s.few.routines, s.routine_count)) at11 in
    record {
      last = r.last;
      steps = steps_then names w0 (map (isr_row names) script.isrs) (from_dpcs names script) w1 r.last r1
          (steps_then names w1 (declared_rows (dpc_row names) names.dpcs script.dpcs) (from_timers names script) w2 r.last r2
          (steps_then names w2 (declared_rows (timer_row names) names.timers script.timers) (from_threads names script) w3 r.last r3
          (steps_then names w3 (declared_rows (thread_row names) names.threads script.threads) (from_apcs names script) w4 r.last r4
          (steps_then names w4 (declared_rows (apc_row names) names.apcs script.apcs) (from_locks names script) w5 r.last r5
          (steps_then names w5 (map lock_row names.locks) (from_routines names script) w6 r.last r6 r.steps)))));
      version_is = r.version_is;
      script_is = r.script_is;
      names_are = r.names_are;
      opens = r.opens;
    }

-- ---- the head

abbrev place_given : {A : Type 0} → Option A → Place → Place → Place
place_given None p q = p
place_given (Some x) p q = q

-- the version line is read as the version, for versions 1 and 2
version_run : (all : NameLists) (v : ℕ) → 1 ≤ v → v ≤ 2 → Steps all (start v) (version_rows v) (with_version (start v))
version_run all zero low high = absurd (omega (arith, low))
version_run all (suc zero) low high = refl
version_run all (suc (suc zero)) low high =
    (with_version (start 2), version_step all (start 2) (omega arith, omega arith) (lit≤ tt), refl)
version_run all (suc (suc (suc n))) low high = absurd (omega (arith, high))

-- the depth line, if there is one, is read as the depth
depth_run : (all : NameLists) (v n : ℕ) (depth : Option ℕ) → 1 ≤ v → IfSome depth (λ d. d ≤ 256) →
    Steps all (begun v n None None HasCpus) (depth_rows depth) (begun v n depth None (place_given depth HasCpus HasDepth))
depth_run all v n None old h = refl
depth_run all v n (Some d) old h =
    (begun v n (Some d) None HasDepth, depth_step all (begun v n None None HasCpus) d old (omega arith, omega arith) h, refl)

-- the line on threaded DPCs, if there is one, is read as its setting
threaded_run : (all : NameLists) (v n : ℕ) (depth : Option ℕ) (threaded : Option Bool) (p : Place) → 1 ≤ v → Between 2 3 p →
    Steps all (begun v n depth None p) (threaded_rows threaded) (begun v n depth threaded (place_given threaded p HasThreaded))
threaded_run all v n depth None p old at = refl
threaded_run all v n depth (Some on) p old at =
    (begun v n depth (Some on) HasThreaded, threaded_step all (begun v n depth None p) on old at, refl)

-- the place after an optional line is between the bounds that both choices are between
given : {A : Type 0} (o : Option A) (p q : Place) (low high : ℕ) → Between low high p → Between low high q → Between low high (place_given o p q)
given None p q low high h k = h
given (Some x) p q low high h k = k

-- the rows of the head behind the version
abbrev counted_rows : Script → List Row
counted_rows script = number_row keyword.Cpus script.cpus ∷ (depth_rows script.depth ++ threaded_rows script.threaded)

-- the rows of an input that fits are read as its script and its names
input_run : (input : Input) → Fit input → Ran input.names (start input.version) (input_rows input) input.script input.names
input_run input s =
    let all = input.names in
    let script = input.script in
    let v = input.version in
    let n = script.cpus in
    let old = s.version.0 in
    let p1 = place_given script.depth HasCpus HasDepth in
    let p2 = place_given script.threaded p1 HasThreaded in
    let at1 = given script.depth HasCpus HasDepth 2 3 (omega arith, omega arith) (omega arith, omega arith) in
    let at2 = given script.threaded p1 HasThreaded 2 4 (wider p1 3 at1) (omega arith, omega arith) in
    let before = with_version (start v) in
    let counted = begun v n None None HasCpus in
    let headed = begun v n script.depth script.threaded p2 in
    let options : Steps all counted (depth_rows script.depth ++ threaded_rows script.threaded) headed =
    steps_then all counted (depth_rows script.depth) (threaded_rows script.threaded) (begun v n script.depth None p1)
    headed (depth_run all v n script.depth old s.depth) (threaded_run all v n script.depth script.threaded p1 old at1) in
    let cpus : step all before (number_row keyword.Cpus n) ≡ Ok counted = cpus_step all before n old (omega arith, omega arith) s.cpus.0 s.most in
    let head : Steps all (start v) (header_rows v n script.depth script.threaded) headed =
    steps_then all (start v) (version_rows v) (counted_rows script) before headed (version_run all v old s.version.1) (counted, cpus, options) in
    let r = subst (λ (locks : ℕ). Ran all headed (part_rows all script) (with_locks script locks) all) s.lock_count (parts_run input s p2 at2) in
    record {
      last = r.last;
      steps = steps_then all (start v) (header_rows v n script.depth script.threaded) (part_rows all script) headed r.last head r.steps;
      version_is = r.version_is;
      script_is = r.script_is;
      names_are = r.names_are;
      opens = r.opens;
    }

-- the version of a text with this first row
abbrev version_by : Row → ℕ
version_by row = cond (bytes_eq (first row) (text_of keyword.Version)) 2 1

-- the version of a text with these rows
version_again : (v : ℕ) → 1 ≤ v → v ≤ 2 → (script : Script) (more : List Row) →
    AllRows (header_rows v script.cpus script.depth script.threaded ++ more) →
    version_of (map line_of (header_rows v script.cpus script.depth script.threaded ++ more)) ≡ v
version_again zero low high script more clean = absurd (omega (arith, low))
version_again (suc zero) low high script more clean = ap version_by (fields_again (number_row keyword.Cpus script.cpus) clean.0)
version_again (suc (suc zero)) low high script more clean = ap version_by (fields_again (number_row keyword.Version 2) clean.0)
version_again (suc (suc (suc n))) low high script more clean = absurd (omega (arith, high))

-- the text of an input is of its version
pub text_version : (input : Input) → Fit input → version_of (lines (text input)) ≡ input.version
text_version input s =
    let clean = input_clean input s in
    ap version_of (lines_again (input_rows input) clean)
    ∙ version_again input.version s.version.0 s.version.1 input.script (part_rows input.names input.script) clean

-- the text of an input is read as the input
pub reading_again : (input : Input) → Fit input → reading (text input) ≡ Ok input
reading_again input s =
    let rows = input_rows input in
    let v = input.version in
    let r = input_run input s in
    let clean = input_clean input s in
    let names : names_from v no_names (map line_of rows) ≡ input.names = names_again input.names (start v) r.last rows clean r.steps
    (good_start v s.version.1) few_none ∙ r.names_are in
    let whole : walk input.names (start v) 1 (map line_of rows) ≡ Ok (made r.last) = walk_again input.names (start v) r.last 1 rows clean r.steps r.opens in
    let is : made r.last ≡ input = ap (λ (u : ℕ). record { version = u; script = r.last.script; names = r.last.names }) r.version_is
    ∙ ap (λ (s : Script). record { version = v; script = s; names = r.last.names }) r.script_is
    ∙ ap (λ (names : NameLists). record { version = v; script = input.script; names = names }) r.names_are in
    ap (λ (u : ℕ). reading_by u (lines (text input))) (text_version input s)
    ∙ ap (reading_by v) (lines_again rows clean)
    ∙ ap (λ (names : NameLists). walk names (start v) 1 (map line_of rows)) names ∙ whole ∙ ap (λ (i : Input). done i) is
