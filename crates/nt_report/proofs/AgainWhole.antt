-- The report of a history is read as the history.
use Rattle.std.proofs.Common.{◌≡◌, ◌∙◌, ℕ, ◌+◌, ◌<◌, ◌≤◌, Bool, true, false, List, [], ◌∷◌, ◌++◌, length, map, reverse, Option, Some, None, Result, Ok, refl}
use Rattle.std.proofs.Common.{sym, ap, subst, append_assoc, arith}
use Rattle.std.specs.Prelude.{IfSome, codes, ◌==◌, if◌then◌else◌}
use Rattle.std.specs.List.{AllByRecursion}
use Rattle.std.specs.Str.{bytes_eq}
use Rattle.std.proofs.lemmas.Bool.{eqb-false, ltb-true}
use Rattle.std.proofs.lemmas.List.{length-reverse, map-append}
use Rattle.std.proofs.lemmas.Slice.Eq.{bytes_eq-Decides}
use Rattle.nt_text.specs.declared.kind.ScriptKind.{ScriptKind}
use Rattle.nt_text.specs.Lines.{IsRow, Row, line_of, lines}
use Rattle.nt_text.proofs.Decimals.{decimal_field}
use Rattle.nt_text.proofs.Rows.{lines_again}
use Rattle.nt_event.specs.declared.events.Event.{Event}
use Rattle.nt_event.specs.declared.events.History.{History}
use Rattle.nt_event.specs.declared.events.What.{What}
use Rattle.nt_event.specs.declared.events.What.TheVariants.{Look, Switch}
use Rattle.nt_event.specs.declared.numbers.CpuNo.{CpuNo}
use Rattle.nt_event.specs.Fate.{Inserted, Thing, fate_of, inserted_by, inserted_thing, inserts, still_waits, waiting_inserts}
use Rattle.nt_event.specs.Step.{cpu_at, turn_at, turn_of}
use Rattle.nt_script.specs.declared.reading.ScriptRefusal.{ScriptRefusal}
use Rattle.nt_script.specs.declared.walk.Input.{Input}
use Rattle.nt_script.specs.Gives.{GivesRead}
use Rattle.nt_log.specs.Schedules.{AreBelow, limit_row, schedule_of, schedule_rows}
use Rattle.nt_log.proofs.Both.{walk_again}
use Rattle.nt_log.proofs.OneSchedule.{most_turns}
use Rattle.nt_print.specs.Conditions.{EventIsPlain, IsReportOf, LookIsBare}
use Rattle.nt_print.specs.Report.{cut_rows, event_rows, report_rows, report_text, spin_rows, wait_rows}
use Rattle.nt_print.specs.Uses.{thing_fits}
use Rattle.nt_print.proofs.OneEvent.{Known, event_parts, event_same, is_look, known}
use Rattle.nt_print.proofs.OneReport.{all_filter, all_reverse, inserted_fits, report_clean, schedule_plain, wait_clean}
use Rattle.nt_report.specs.Reading.{events_of, history_of, look_event, reading, start, walk}
use Rattle.nt_report.proofs.AgainEvents.{line}
use Rattle.nt_report.proofs.AgainLines.{WaitFits, event_lines, lines_read, parts}
use Rattle.nt_report.proofs.PlainLines.{TextLine}

abbrev done : {A : Type 0} → A → Result A (ℕ × ScriptKind)
done x = Ok x

-- ---- the events

-- a number equals itself by the test of equality
same_number : (n : ℕ) → (n == n) ≡ true
same_number n = go (n == n) refl
  where
    go : (b : Bool) → (n == n) ≡ b → (n == n) ≡ true
    go true e = e
    go false e = absurd (eqb-false n n e refl)

-- a list with one element put at its end is one longer
one_longer : (xs : List Event) (x : Event) → length (xs ++ x ∷ []) ≡ length xs + 1
one_longer [] x = refl
one_longer (y ∷ xs) x = let more = one_longer xs x in omega (arith, more)

-- joining an empty list at the end leaves a list of events as it is
nothing_behind : (xs : List Event) → xs ++ [] ≡ xs
nothing_behind [] = refl
nothing_behind (x ∷ xs) = ap (λ (ys : List Event). x ∷ ys) (nothing_behind xs)

-- the turns and the lines of bare events give the events after those of before
events_again : (past es : List Event) (at : ℕ) → AllByRecursion (λ e. LookIsBare e e.what) es →
    events_of past (map turn_of es) (event_lines (length past) es) at ≡ Ok (past ++ es)
unfolding event_lines
events_again past [] at h = ap (λ (xs : List Event). done xs) (sym (nothing_behind past))
events_again past (e ∷ es) at h =
    go e.what refl h.0 (λ a. subst (λ (k : ℕ). events_of (past ++ e ∷ []) (map turn_of es) (event_lines k es) a ≡ Ok (past ++ e ∷ es)) (one_longer past e)
    (events_again (past ++ e ∷ []) es a h.1 ∙ ap (λ (xs : List Event). done xs) (append_assoc past (e ∷ []) es)))
  where
    go : (w : What) → e.what ≡ w → LookIsBare e w → ((a : ℕ) →
        events_of (past ++ e ∷ []) (map turn_of es) (event_lines (length past + 1) es) a ≡ Ok (past ++ e ∷ es)) →
        events_of past (turn_at e.cpu w ∷ map turn_of es) (if is_look w then event_lines (length past + 1) es else line (length past) e
        ∷ event_lines (length past + 1) es) at ≡ Ok (past ++ e ∷ es)
    go (Look r) is bare more =
        let same : e ≡ look_event e.cpu r = event_same e (look_event e.cpu r) refl bare.0 bare.1 is in
        subst (λ (x : Event). events_of (past ++ x ∷ []) (map turn_of es) (event_lines (length past + 1) es) at ≡ Ok (past ++ e ∷ es)) same (more at)
    go w is bare more = rw (same_number (length past)) (more (at + 1))

-- ---- the inserts that wait

-- each insert of a plain history of at most 160000 events fits and can be written as waiting
few_waits : (input : Input) → Known input → (past : List Event) → length past ≤ 160000 → AllByRecursion (EventIsPlain input) past →
    AllByRecursion (WaitFits input) (inserts past)
few_waits input k [] few h = tt
few_waits input k (e ∷ past) few h =
    append (inserts past) (inserted_by (length past) (inserted_thing e.what)) (few_waits input k past (omega (arith, few)) h.1)
    (go (inserted_thing e.what) (inserted_fits input.script e.what (event_parts input.script e h.0.0).what))
  where
    append : (a b : List Inserted) → AllByRecursion (WaitFits input) a → AllByRecursion (WaitFits input) b → AllByRecursion (WaitFits input) (a ++ b)
    append [] b p q = q
    append (x ∷ a) b p q = (p.0, append a b p.1 q)

    go : (o : Option Thing) → IfSome o (λ x. thing_fits input.script x ≡ true) → AllByRecursion (WaitFits input) (inserted_by (length past) o)
    go None f = tt
    go (Some thing) f = ((omega (arith, few), f, wait_clean input k (record { number = length past; thing = thing }) (omega (arith, few), f)), tt)

-- ---- the schedule

-- the processor of an action's turn is the processor that acts
cpu_of : (p : CpuNo) (w : What) → cpu_at (turn_at p w) ≡ p
cpu_of p (Look r) = refl
cpu_of p (Switch t s) = refl
cpu_of p w = refl

-- the turns of plain events are of processors of the script
are_below : (input : Input) (es : List Event) → AllByRecursion (EventIsPlain input) es → AreBelow input.script.cpus (map turn_of es)
are_below input [] h = tt
are_below input (e ∷ es) h =
    let lt : e.cpu.0 < input.script.cpus = ltb-true e.cpu.0 input.script.cpus (event_parts input.script e h.0.0).cpu in
    (subst (λ (p : CpuNo). p.0 < input.script.cpus) (sym (cpu_of e.cpu e.what)) lt, are_below input es h.1)

-- looks among plain events are bare
all_bare : (input : Input) (es : List Event) → AllByRecursion (EventIsPlain input) es → AllByRecursion (λ e. LookIsBare e e.what) es
all_bare input [] h = tt
all_bare input (e ∷ es) h = (h.0.1.2, all_bare input es h.1)

-- ---- the whole

-- the lines of five parts
five : (a b c d e : List Row) → map line_of (a ++ (b ++ (c ++ (d ++ e))))
    ≡ map line_of a ++ (map line_of b ++ (map line_of c ++ (map line_of d ++ map line_of e)))
five a b c d e =
    map-append line_of a (b ++ (c ++ (d ++ e))) ∙ ap (λ (x : List TextLine). map line_of a ++ x)
    (map-append line_of b (c ++ (d ++ e)) ∙ ap (λ (x : List TextLine). map line_of b ++ x)
    (map-append line_of c (d ++ e) ∙ ap (λ (x : List TextLine). map line_of c ++ x) (map-append line_of d e)))

-- the lines of a report are its first line and those of events, cuts, spins, waits and schedule
lines_of_report : (bytes : List ℕ) (input : Input) (h : History) → IsReportOf bytes input h → lines bytes ≡ line_of (codes "report" ∷ [])
    ∷ (map line_of (event_rows input 0 h.events) ++ (map line_of (cut_rows h 0 input.script.cpus)
    ++ (map line_of (spin_rows input.names h 0 input.script.cpus)
    ++ (map line_of (wait_rows input.names (reverse h.events)) ++ map line_of (schedule_rows input.names (schedule_of h))))))
lines_of_report bytes input h r =
    ap lines r.text ∙ lines_again (report_rows input h) (report_clean input r.sound h r.plain)
    ∙ ap (λ (x : List TextLine). line_of (codes "report" ∷ []) ∷ x)
    (five (event_rows input 0 h.events) (cut_rows h 0 input.script.cpus) (spin_rows input.names h 0 input.script.cpus)
    (wait_rows input.names (reverse h.events))
    (schedule_rows input.names (schedule_of h)))

-- walking over the lines of a report gives its event lines and its schedule
walk_is : (bytes : List ℕ) (input : Input) (h : History) (n : ℕ) → IsReportOf bytes input h → walk input start n (lines bytes)
    ≡ Ok (parts (event_lines 0 h.events) (schedule_of h))
walk_is bytes input h n r =
    let k = known input r.sound in
    let few = r.plain.few in
    let past : List Event = reverse h.events in
    let waits = all_filter (WaitFits input) (λ x. still_waits (fate_of x.thing x.number past)) (inserts past)
    (few_waits input k past (omega (arith, few, length-reverse h.events)) (all_reverse (EventIsPlain input) h.events r.plain.events)) in
    let limit = r.plain.limit in
    let most = most_turns input.script.cpus in
    let clean : IsRow (limit_row h.turns) = (refl, (decimal_field h.turns (omega (arith, limit, most)), tt)) in
    ap (walk input start n) (lines_of_report bytes input h r)
    ∙ lines_read input k h (waiting_inserts past) (schedule_of h) n (omega (arith, few)) r.plain.events waits clean
    (λ m. walk_again input.script.cpus m input (schedule_of h) r.sound (schedule_plain input k h r.plain) (are_below input h.events r.plain.events))

-- the report of a history is read as that history
pub report_is_read : (bytes : List ℕ) (input : Input) (h : History) (n : ℕ) → IsReportOf bytes input h → reading input n bytes ≡ Ok h
report_is_read bytes input h n r =
    let events : events_of [] (map turn_of h.events) (event_lines 0 h.events) (n + 1) ≡ Ok h.events =
    events_again [] h.events (n + 1) (all_bare input h.events r.plain.events) in
    let history : history_of (parts (event_lines 0 h.events) (schedule_of h)) n ≡ Ok h = rw events refl in
    let same : bytes_eq (report_text input h) bytes ≡ true = (bytes_eq-Decides (report_text input h) bytes).1 (sym r.text) in
    rw (walk_is bytes input h n r, history, same) refl

-- the reading of a history's report, if memory is found, gives that history
pub is_only : (bytes : List ℕ) (input : Input) (h : History) (n : ℕ) (r : Result History ScriptRefusal) → GivesRead r (reading input n bytes) →
    IsReportOf bytes input h → GivesRead r (Ok h)
is_only bytes input h n r e t = subst (GivesRead r) (report_is_read bytes input h n t) e
