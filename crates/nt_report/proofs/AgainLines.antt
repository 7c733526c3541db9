-- The lines of a report are read as its events and its schedule.
use Rattle.std.proofs.Common.{◌≡◌, ◌∙◌, ℕ, zero, suc, ◌+◌, ◌^◌, ◌<◌, ◌≤◌, Bool, true, false, List, [], ◌∷◌, ◌++◌, length, map, Option, Some, None, Result, Ok}
use Rattle.std.proofs.Common.{Err, refl, sym, ap, subst, append_assoc, arith, rules}
use Rattle.std.specs.Prelude.{codes, decimal, ◌==◌, if◌then◌else◌}
use Rattle.std.specs.Char.{is_ascii_digit}
use Rattle.std.specs.List.{AllByRecursion}
use Rattle.std.specs.Str.{all_ascii_digits}
use Rattle.std.proofs.lemmas.Bool.{and_parts}
use Rattle.std.proofs.lemmas.Fmt.{decimal_nonempty, digits_decimal}
use Rattle.std.proofs.lemmas.Str.Parse.{IsNumeralModel, numerals_by_fold}
use Rattle.nt_text.specs.declared.kind.ScriptKind.{ScriptKind}
use Rattle.nt_text.specs.Lines.{IsRow, Row, first, line_of}
use Rattle.nt_text.proofs.Decimals.{decimal_field, read_on}
use Rattle.nt_text.proofs.Rows.{row_again}
use Rattle.nt_event.specs.declared.events.Event.{Event}
use Rattle.nt_event.specs.declared.events.History.{History}
use Rattle.nt_event.specs.Fitting.{events_fit}
use Rattle.nt_event.specs.Script.{has_lock}
use Rattle.nt_event.specs.Fate.{ApcThing, DpcThing, Inserted, Thing}
use Rattle.nt_line.proofs.FieldTexts.{cpu_again}
use Rattle.nt_script.specs.declared.walk.Input.{Input}
use Rattle.nt_script.specs.Reading.{go_on}
use Rattle.nt_log.specs.declared.schedules.Schedule.{Schedule}
use Rattle.nt_log.specs.declared.walk.ScheduleWalk.{ScheduleWalk}
use Rattle.nt_log.specs.Reading.{start as schedule_start, line_step as schedule_line, walk as schedule_walk}
use Rattle.nt_log.specs.Schedules.{done_row, limit_row, schedule_rows, turn_row}
use Rattle.nt_print.specs.Conditions.{EventIsPlain, IsWord}
use Rattle.nt_print.specs.Report.{cut_row, cut_rows, event_row, event_rows, made, show_processor, spin_left, spin_of, spin_row, spin_rows, wait_row}
use Rattle.nt_print.specs.declared.spins.Spun.{Spun}
use Rattle.nt_print.specs.Uses.{thing_fits}
use Rattle.nt_print.proofs.OneEvent.{Known, apc_at, dpc_at, event_clean, is_look}
use Rattle.nt_print.proofs.OneReport.{SpinIsPlain, left_plain, line_split, plain_fits, spin_clean}
use Rattle.nt_report.specs.declared.events.EventLine.{EventLine}
use Rattle.nt_report.specs.declared.places.LineWord.{LineWord}
use Rattle.nt_report.specs.declared.places.LineWord.TheVariants as word
use Rattle.nt_report.specs.declared.places.ReportPlace.{ReportPlace}
use Rattle.nt_report.specs.declared.places.ReportPlace.TheVariants.{Start, InEvents, InCuts, InSpins, InWaits, InSchedule}
use Rattle.nt_report.specs.declared.walk.Parts.{Parts}
use Rattle.nt_report.specs.Fields.{read_processor}
use Rattle.nt_report.specs.Walked.{Walked}
use Rattle.nt_report.specs.Reading.{act, front_step, is_numbered, line_step, line_word, schedule_step, start, step_at, walk, with_schedule, word_at}
use Rattle.nt_report.proofs.AgainEvents.{event_again, event_line_again, line, lock_again}
use Rattle.nt_report.proofs.PlainLines.{TextLine, in_schedule, kept_room, more_length}
use Rattle.nt_report.proofs.Steps.{ok}

-- what was read before the schedule
abbrev pub before : ReportPlace → List EventLine → Walked
before place lines = record { place = place; lines = lines; schedule = schedule_start }

-- ---- one line

-- no line of the front of a report may stand inside the schedule
not_inside : (o : Option LineWord) (w : LineWord) → word_at InSchedule o ≡ Ok w → ⊥
not_inside None w e = absurd cc
not_inside (Some word.Report) w e = absurd cc
not_inside (Some word.Event) w e = absurd cc
not_inside (Some word.Cut) w e = absurd cc
not_inside (Some word.Spins) w e = absurd cc
not_inside (Some word.Waits) w e = absurd cc
not_inside (Some word.Schedule) w e = absurd cc

-- a line whose first word may stand at a place is read as one of the front of the report
front_is : (input : Input) (p : ReportPlace) (w : Walked) (l : TextLine) (o : Option LineWord) (wd : LineWord) → word_at p o ≡ Ok wd → step_at p input w l
    ≡ front_step input w l
front_is input Start w l o wd e = refl
front_is input InEvents w l o wd e = refl
front_is input InCuts w l o wd e = refl
front_is input InSpins w l o wd e = refl
front_is input InWaits w l o wd e = refl
front_is input InSchedule w l o wd e = absurd (not_inside o wd e)

-- a row before the schedule, or its first
step_again : (input : Input) (w : Walked) (row : Row) (wd : LineWord) (new : Walked) → IsRow row → word_at w.place (line_word (first row)) ≡ Ok wd →
    act input w wd row (line_of row) ≡ Ok new → line_step input w (line_of row) ≡ Ok new
step_again input w row wd new clean e f = front_is input w.place w (line_of row) (line_word (first row)) wd e ∙ rw (row_again row clean, e, f) refl

-- walking over a line and further lines is walking over these from where the line leads
on : (input : Input) (w new : Walked) (n : ℕ) (l : TextLine) (more : List TextLine) → line_step input w l ≡ Ok new → walk input w n (l ∷ more)
    ≡ walk input new (n + 1) more
on input w new n l more e = rw e refl

-- ---- lines of events

-- the event lines, of which the first event has this number
unfoldable pub event_lines : ℕ → List Event → List EventLine
event_lines n [] = []
event_lines n (e ∷ es) = if is_look e.what then event_lines (n + 1) es else line n e ∷ event_lines (n + 1) es

-- decimal digits, read on from zero, are a model of numerals
own : IsNumeralModel (λ ds. all_ascii_digits ds ≡ true) (read_on 0)
own = numerals_by_fold _ (search rules) read_on (search rules)

-- a nonempty list of decimal digits is taken as the number of an event's line
numbered : (ds : List ℕ) → all_ascii_digits ds ≡ true → 0 < length ds → is_numbered ds ≡ true
numbered [] h l = absurd (omega (arith, l))
numbered (c ∷ cs) h l = (and_parts (is_ascii_digit c) (all_ascii_digits cs) h).0

-- a line that begins with the decimals of a 64-bit number is the line of an event
number_word : (n : ℕ) → n < 2 ^ 64 → line_word (decimal n) ≡ Some word.Event
number_word n lt = rw (numbered (decimal n) (digits_decimal own n lt) (decimal_nonempty n lt)) refl

-- the line of a plain event that is no look is read as the event, after the event lines read so far
event_step_again : (input : Input) → Known input → (n : ℕ) (e : Event) (ls : List EventLine) → n ≤ 160000 → length ls < 160000 → EventIsPlain input e →
    is_look e.what ≡ false → line_step input (before InEvents ls) (line_of (event_row input n e)) ≡ Ok (before InEvents (ls ++ line n e ∷ []))
event_step_again input k n e ls few room h l =
    step_again input (before InEvents ls) (event_row input n e) word.Event (before InEvents (ls ++ line n e ∷ []))
    (event_clean input k n e (omega (arith, few)) h) (rw (number_word n (omega (arith, few))) refl)
    (rw (event_line_again input k n e (omega (arith, few)) h l) (ap (λ (xs : List EventLine). ok (before InEvents xs)) (kept_room ls (line n e) room)))

-- the reading stands behind some lines
abbrev Behind : Input → Walked → ℕ → List TextLine → Walked → List TextLine → Type 0
Behind input w n ls new more = (m : ℕ) × (walk input w n ls ≡ walk input new m more)

-- the lines of plain events are read as the events, after the event lines read so far
events_run : (input : Input) → Known input → (n : ℕ) (es : List Event) (ls : List EventLine) (m : ℕ) (tail : List TextLine) → n + length es ≤ 160000 →
    length ls ≤ n → AllByRecursion (EventIsPlain input) es →
    Behind input (before InEvents ls) m (map line_of (event_rows input n es) ++ tail) (before InEvents (ls ++ event_lines n es)) tail
unfolding event_lines
events_run input k n [] ls m tail few room h = (m, ap (λ (xs : List EventLine). walk input (before InEvents xs) m tail) (sym (append_nil ls)))
  where
    append_nil : (xs : List EventLine) → xs ++ [] ≡ xs
    append_nil [] = refl
    append_nil (x ∷ xs) = ap (λ (ys : List EventLine). x ∷ ys) (append_nil xs)
events_run input k n (e ∷ es) ls m tail few room h =
    subst (λ (rows : List Row). Behind input (before InEvents ls) m (map line_of (rows ++ event_rows input (n + 1) es) ++ tail)
    (before InEvents (ls ++ event_lines n (e ∷ es))) tail) (sym (line_split input n e e.what))
    (go (is_look e.what) refl (λ xs k2 more_room. events_run input k (n + 1) es xs k2 tail (omega (arith, few)) more_room h.1))
  where
    go : (b : Bool) → is_look e.what ≡ b → ((xs : List EventLine) (k2 : ℕ) → length xs ≤ n + 1 → Behind input (before InEvents xs) k2
        (map line_of (event_rows input (n + 1) es) ++ tail) (before InEvents (xs ++ event_lines (n + 1) es)) tail) →
        Behind input (before InEvents ls) m (map line_of ((if b then [] else event_row input n e ∷ []) ++ event_rows input (n + 1) es) ++ tail)
        (before InEvents (ls ++ (if b then event_lines (n + 1) es else line n e ∷ event_lines (n + 1) es))) tail
    go true is more = more ls m (omega (arith, room))
    go false is more =
        let long = more_length ls (line n e) in
        let r = more (ls ++ line n e ∷ []) (m + 1) (omega (arith, room, long)) in
        let step = event_step_again input k n e ls (omega (arith, few)) (omega (arith, few, room)) h.0 is in (
          r.0,
          on input (before InEvents ls) (before InEvents (ls ++ line n e ∷ [])) m (line_of (event_row input n e)) _ step ∙ r.1
              ∙ ap (λ (xs : List EventLine). walk input (before InEvents xs) r.0 tail) (append_assoc ls (line n e ∷ []) (event_lines (n + 1) es)),
        )

-- ---- lines of processors that were cut, of those that spin, and of inserts that wait

abbrev MayBe : LineWord → ReportPlace → Type 0
MayBe w p = word_at p (Some w) ≡ Ok w

-- where a line of a cut processor may stand, a line of a spinning one may
cut_then_spin : (p : ReportPlace) → MayBe word.Cut p → MayBe word.Spins p
cut_then_spin Start e = absurd cc
cut_then_spin InEvents e = refl
cut_then_spin InCuts e = refl
cut_then_spin InSpins e = absurd cc
cut_then_spin InWaits e = absurd cc
cut_then_spin InSchedule e = absurd cc

-- where a line of a spinning processor may stand, a line of a waiting insert may
spin_then_wait : (p : ReportPlace) → MayBe word.Spins p → MayBe word.Waits p
spin_then_wait Start e = absurd cc
spin_then_wait InEvents e = refl
spin_then_wait InCuts e = refl
spin_then_wait InSpins e = refl
spin_then_wait InWaits e = absurd cc
spin_then_wait InSchedule e = absurd cc

-- where a line of a waiting insert may stand, the first line of the schedule may
wait_then_schedule : (p : ReportPlace) → MayBe word.Waits p → MayBe word.Schedule p
wait_then_schedule Start e = absurd cc
wait_then_schedule InEvents e = refl
wait_then_schedule InCuts e = refl
wait_then_schedule InSpins e = refl
wait_then_schedule InWaits e = refl
wait_then_schedule InSchedule e = absurd cc

-- the reading stands behind some lines, at a place where such a line may stand
abbrev BehindAt : Input → LineWord → ReportPlace → List EventLine → ℕ → List TextLine → List TextLine → Type 0
BehindAt input wd p ls n lines more = (q : ReportPlace) × MayBe wd q × Behind input (before p ls) n lines (before q ls) more

-- the line of a cut processor is read where it may stand and leaves the event lines
cut_step_again : (input : Input) → Known input → (p : ReportPlace) (ls : List EventLine) (c : ℕ) → MayBe word.Cut p → c < input.script.cpus →
    line_step input (before p ls) (line_of (cut_row c)) ≡ Ok (before InCuts ls)
cut_step_again input k p ls c may lt =
    let few = k.fit.cpus.1 in
    let processor : read_processor input.script.cpus (112 ∷ decimal c) ≡ Ok (record { 0 = c }) =
    cpu_again input.script.cpus (record { 0 = c }) few lt in
    step_again input (before p ls) (cut_row c) word.Cut (before InCuts ls) (refl, (decimal_field c (omega (arith, lt, few)), tt)) may (rw processor refl)

-- the lines of the cut processors are read where they may stand and leave the event lines
cuts_run : (input : Input) → Known input → (h : History) (c count : ℕ) (p : ReportPlace) (ls : List EventLine) (n : ℕ) (tail : List TextLine) →
    c + count ≤ input.script.cpus → MayBe word.Cut p → BehindAt input word.Cut p ls n (map line_of (cut_rows h c count) ++ tail) tail
cuts_run input k h c zero p ls n tail few may = (p, may, (n, refl))
cuts_run input k h c (suc count) p ls n tail few may =
    go (made c h.events == h.turns) (λ q m2 may2. cuts_run input k h (c + 1) count q ls m2 tail (omega (arith, few)) may2)
  where
    go : (b : Bool) → ((q : ReportPlace) (m2 : ℕ) → MayBe word.Cut q →
        BehindAt input word.Cut q ls m2 (map line_of (cut_rows h (c + 1) count) ++ tail) tail) →
        BehindAt input word.Cut p ls n (map line_of ((if b then cut_row c ∷ [] else []) ++ cut_rows h (c + 1) count) ++ tail) tail
    go false more = more p n may
    go true more =
        let r = more InCuts (n + 1) refl in
        let step = cut_step_again input k p ls c may (omega (arith, few)) in
        (r.0, r.1, (r.2.0, on input (before p ls) (before InCuts ls) n (line_of (cut_row c)) _ step ∙ r.2.1))

-- the line of a spinning processor is read where it may stand and leaves the event lines
spin_step_again : (input : Input) → Known input → (p : ReportPlace) (ls : List EventLine) (c : ℕ) (x : Spun) → MayBe word.Spins p → c < input.script.cpus →
    IsWord x.number → has_lock input.script x.lock ≡ true →
    line_step input (before p ls) (line_of (spin_row input.names c x)) ≡ Ok (before InSpins ls)
spin_step_again input k p ls c x may lt n h =
    let few = k.fit.cpus.1 in
    let processor : read_processor input.script.cpus (show_processor c) ≡ Ok (record { 0 = c }) =
    cpu_again input.script.cpus (record { 0 = c }) few lt in
    step_again input (before p ls) (spin_row input.names c x) word.Spins (before InSpins ls)
    (spin_clean input k c x (omega (arith, lt, few)) (omega (arith, n)) h) may
    (rw (processor, lock_again input k x.lock h, event_again x.number n) refl)

-- the lines of the spinning processors are read where they may stand and leave the event lines
spins_run : (input : Input) → Known input → (h : History) → length h.events ≤ 160000 → events_fit input.script h.events ≡ true →
    (c count : ℕ) (p : ReportPlace) (ls : List EventLine) (n : ℕ) (tail : List TextLine) → c + count ≤ input.script.cpus → MayBe word.Spins p →
    BehindAt input word.Spins p ls n (map line_of (spin_rows input.names h c count) ++ tail) tail
spins_run input k h short fit c zero p ls n tail few may = (p, may, (n, refl))
spins_run input k h short fit c (suc count) p ls n tail few may =
    go (spin_left h c) (left_plain input.script h c fit)
    (λ q m2 may2. spins_run input k h short fit (c + 1) count q ls m2 tail (omega (arith, few)) may2)
  where
    go : (o : Option Spun) → SpinIsPlain input.script (length h.events) o → ((q : ReportPlace) (m2 : ℕ) → MayBe word.Spins q →
        BehindAt input word.Spins q ls m2 (map line_of (spin_rows input.names h (c + 1) count) ++ tail) tail) →
        BehindAt input word.Spins p ls n (map line_of (spin_of input.names c o ++ spin_rows input.names h (c + 1) count) ++ tail) tail
    go None q more = more p n may
    go (Some x) q more =
        let r = more InSpins (n + 1) refl in
        let lt = q.0 in
        let step = spin_step_again input k p ls c x may (omega (arith, few)) (omega (arith, lt, short)) q.1 in
        (r.0, r.1, (r.2.0, on input (before p ls) (before InSpins ls) n (line_of (spin_row input.names c x)) _ step ∙ r.2.1))

-- an insert whose line can be read
abbrev pub WaitFits : Input → Inserted → Type 0
WaitFits input i = (i.number ≤ 4294967295) × (thing_fits input.script i.thing ≡ true) × IsRow (wait_row input.names i)

-- the line of a waiting insert is read where it may stand and leaves the event lines
wait_step_again : (input : Input) → Known input → (p : ReportPlace) (ls : List EventLine) (i : Inserted) → MayBe word.Waits p → WaitFits input i →
    line_step input (before p ls) (line_of (wait_row input.names i)) ≡ Ok (before InWaits ls)
wait_step_again input k p ls i may h =
    step_again input (before p ls) (wait_row input.names i) word.Waits (before InWaits ls) h.2 may (go i.thing h.1)
  where
    go : (t : Thing) → thing_fits input.script t ≡ true →
        act input (before p ls) word.Waits (wait_row input.names (record { number = i.number; thing = t }))
        (line_of (wait_row input.names i)) ≡ Ok (before InWaits ls)
    go (DpcThing d) f = rw (event_again i.number h.0, k.are.dpcs d (dpc_at input k d f)) refl
    go (ApcThing a) f = rw (event_again i.number h.0, k.are.apcs a (apc_at input k a f)) refl

-- the lines of the waiting inserts are read where they may stand and leave the event lines
waits_run : (input : Input) → Known input → (xs : List Inserted) (p : ReportPlace) (ls : List EventLine) (n : ℕ) (tail : List TextLine) →
    AllByRecursion (WaitFits input) xs → MayBe word.Waits p → BehindAt input word.Waits p ls n (map line_of (map (wait_row input.names) xs) ++ tail) tail
waits_run input k [] p ls n tail h may = (p, may, (n, refl))
waits_run input k (i ∷ xs) p ls n tail h may =
    let r = waits_run input k xs InWaits ls (n + 1) tail h.1 refl in
    let step = wait_step_again input k p ls i may h.0 in
    (r.0, r.1, (r.2.0, on input (before p ls) (before InWaits ls) n (line_of (wait_row input.names i)) _ step ∙ r.2.1))

-- ---- the schedule

abbrev pub parts : List EventLine → Schedule → Parts
parts lines schedule = record { lines = lines; schedule = schedule }

-- inside the schedule a line is read as one of the schedule
at_inside : (input : Input) (p : ReportPlace) (w : Walked) (l : TextLine) → in_schedule p ≡ true → step_at p input w l ≡ schedule_step input w l
at_inside input InSchedule w l e = refl
at_inside input Start w l e = absurd cc
at_inside input InEvents w l e = absurd cc
at_inside input InCuts w l e = absurd cc
at_inside input InSpins w l e = absurd cc
at_inside input InWaits w l e = absurd cc

-- inside the schedule the lines are read as the schedule that they give, with the event lines of before
inside_again : (input : Input) (w : Walked) (n : ℕ) (ls : List TextLine) (s : Schedule) → in_schedule w.place ≡ true →
    schedule_walk input.script.cpus input w.schedule n ls ≡ Ok s → walk input w n ls ≡ Ok (parts w.lines s)
inside_again input w n [] s h e = rw e refl
inside_again input w n (l ∷ more) s h e =
    go (schedule_line input.script.cpus input w.schedule l) refl e
    (λ sw e2. inside_again input (with_schedule w sw) (n + 1) more s refl e2)
  where
    go : (r : Result ScheduleWalk ScriptKind) → schedule_line input.script.cpus input w.schedule l ≡ r →
        go_on n r (λ new. schedule_walk input.script.cpus input new (n + 1) more) ≡ Ok s →
        ((sw : ScheduleWalk) → schedule_walk input.script.cpus input sw (n + 1) more ≡ Ok s →
        walk input (with_schedule w sw) (n + 1) more ≡ Ok (parts w.lines s)) → walk input w n (l ∷ more) ≡ Ok (parts w.lines s)
    go (Err kind) is e more2 = absurd cc
    go (Ok sw) is e more2 =
        let step : line_step input w l ≡ Ok (with_schedule w sw) = at_inside input w.place w l h ∙ rw is refl in
        on input w (with_schedule w sw) n l more step ∙ more2 sw e

-- from its first line on, a schedule after the event lines is read as that schedule
schedule_again : (input : Input) (p : ReportPlace) (ls : List EventLine) (n : ℕ) (turns : ℕ) (more : List TextLine) (s : Schedule) → MayBe word.Schedule p →
    IsRow (limit_row turns) → schedule_walk input.script.cpus input schedule_start n (line_of (limit_row turns) ∷ more) ≡ Ok s →
    walk input (before p ls) n (line_of (limit_row turns) ∷ more) ≡ Ok (parts ls s)
schedule_again input p ls n turns more s may clean e =
    go (schedule_line input.script.cpus input schedule_start (line_of (limit_row turns))) refl e
  where
    go : (r : Result ScheduleWalk ScriptKind) → schedule_line input.script.cpus input schedule_start (line_of (limit_row turns)) ≡ r →
        go_on n r (λ new. schedule_walk input.script.cpus input new (n + 1) more) ≡ Ok s →
        walk input (before p ls) n (line_of (limit_row turns) ∷ more) ≡ Ok (parts ls s)
    go (Err kind) is e = absurd cc
    go (Ok sw) is e =
        let step = step_again input (before p ls) (limit_row turns) word.Schedule (with_schedule (before p ls) sw) clean may (rw is refl) in
        on input (before p ls) (with_schedule (before p ls) sw) n (line_of (limit_row turns)) more step
        ∙ inside_again input (with_schedule (before p ls) sw) (n + 1) more s refl e

-- ---- all lines

-- the first line of a report leads to the place of the event lines
first_again : (input : Input) (n : ℕ) (more : List TextLine) → walk input start n (line_of (codes "report" ∷ []) ∷ more)
    ≡ walk input (before InEvents []) (n + 1) more
first_again input n more =
    on input start (before InEvents []) n (line_of (codes "report" ∷ [])) more
    (step_again input start (codes "report" ∷ []) word.Report (before InEvents []) (refl, tt) refl refl)

-- the lines of a report are read as the lines of its events and its schedule
pub lines_read : (input : Input) → Known input → (h : History) (xs : List Inserted) (s : Schedule) (n : ℕ) → length h.events ≤ 160000 →
    AllByRecursion (EventIsPlain input) h.events → AllByRecursion (WaitFits input) xs → IsRow (limit_row s.turns) →
    ((m : ℕ) → schedule_walk input.script.cpus input schedule_start m (map line_of (schedule_rows input.names s)) ≡ Ok s) →
    walk input start n (line_of (codes "report" ∷ []) ∷ (map line_of (event_rows input 0 h.events) ++ (map line_of (cut_rows h 0 input.script.cpus)
    ++ (map line_of (spin_rows input.names h 0 input.script.cpus)
    ++ (map line_of (map (wait_row input.names) xs) ++ map line_of (schedule_rows input.names s)))))) ≡ Ok (parts (event_lines 0 h.events) s)
lines_read input k h xs s n few plain waits clean schedule =
    let ends : List TextLine = map line_of (schedule_rows input.names s) in
    let late : List TextLine = map line_of (map (wait_row input.names) xs) ++ ends in
    let spinning : List TextLine = map line_of (spin_rows input.names h 0 input.script.cpus) ++ late in
    let middle : List TextLine = map line_of (cut_rows h 0 input.script.cpus) ++ spinning in
    let lines : List EventLine = event_lines 0 h.events in
    let events = events_run input k 0 h.events [] (n + 1) middle (omega (arith, few)) (omega arith) plain in
    let cuts = cuts_run input k h 0 input.script.cpus InEvents lines events.0 spinning (omega arith) refl in
    let spins = spins_run input k h few (plain_fits input h.events plain) 0 input.script.cpus cuts.0 lines cuts.2.0 late (omega arith)
    (cut_then_spin cuts.0 cuts.1) in
    let still = waits_run input k xs spins.0 lines spins.2.0 ends waits (spin_then_wait spins.0 spins.1) in
    first_again input n (map line_of (event_rows input 0 h.events) ++ middle) ∙ (events.1 ∙ (cuts.2.1 ∙ (spins.2.1 ∙ (still.2.1
    ∙ schedule_again input still.0 lines still.2.0 s.turns (map line_of (map (turn_row input.names) s.list ++ done_row ∷ [])) s
    (wait_then_schedule still.0 still.1) clean (schedule still.2.0)))))
