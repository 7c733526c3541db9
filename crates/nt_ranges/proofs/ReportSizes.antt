-- How long the parts of a report are, and the whole.
use Rattle.std.proofs.Common.{arith}
use Rattle.std.proofs.lemmas.List.{length-append, length-reverse}
use Rattle.std.specs.List.{AllByRecursion}
use Rattle.std.specs.Prelude.{Bool, List, None, Option, Some, [], codes, decimal, false, filter, if◌then◌else◌, length, map, nat_le, reverse, suc, true}
use Rattle.std.specs.Prelude.{zero, ℕ, ◌&&◌, ◌*◌, ◌++◌, ◌+◌, ◌==◌, ◌∷◌, ◌≡◌, ◌≤◌}
use Rattle.nt_event.specs.declared.events.Event.{Event}
use Rattle.nt_event.specs.declared.events.History.{History}
use Rattle.nt_event.specs.declared.events.What.{What}
use Rattle.nt_event.specs.declared.events.What.TheVariants.{Call}
use Rattle.nt_event.specs.declared.limits.TheConstants.{TURNS}
use Rattle.nt_event.specs.declared.scripts.Script.{Script}
use Rattle.nt_event.specs.Fate.{ApcThing, DpcThing, Inserted, Thing, fate_of, inserted_by, inserted_thing, inserts, still_waits, waiting_inserts}
use Rattle.nt_event.specs.Fitting.{events_fit, what_fits}
use Rattle.nt_event.specs.Script.{has_cpu, has_thread, where_given}
use Rattle.nt_event.specs.Step.{turn_of}
use Rattle.nt_event.proofs.Options.{both}
use Rattle.nt_line.specs.NameLists.{NameLists}
use Rattle.nt_log.specs.Schedules.{done_row, limit_row, schedule_of, schedule_rows, schedule_text, turn_bound, turn_row}
use Rattle.nt_print.specs.declared.spins.Spun.{Spun}
use Rattle.nt_print.specs.Conditions.{EventIsPlain, WhatInRange, IsPlain as HistoryIsPlain}
use Rattle.nt_print.specs.Report.{cut_of, cut_row, cut_rows, event_rows, line_rows, made, report_text, show_processor, spin_left, spin_of, spin_row}
use Rattle.nt_print.specs.Report.{spin_rows, thing_row, used, wait_fields, wait_row, wait_rows}
use Rattle.nt_print.proofs.OneReport.{SpinIsPlain, all_filter, left_plain, plain_fits}
use Rattle.nt_script.specs.declared.walk.Input.{Input}
use Rattle.nt_script.specs.Sound.{IsSound}
use Rattle.nt_script.proofs.Soundness.{command_from}
use Rattle.nt_text.specs.Lines.{Row, row_text, rows_text}
use Rattle.nt_line.specs.NameLists.{show_lock}
use Rattle.nt_ranges.proofs.EventWidths.{CallFits, LookIsLow, both_lines, line_width, processor_width}
use Rattle.nt_ranges.proofs.FieldWidths.{NamesAreShort, event_width, names_short, shown}
use Rattle.nt_ranges.proofs.Reports.{few_cpus, of_processor}
use Rattle.nt_ranges.proofs.Widths.{mapped_most, one_size, row_most, size_both, size_cons, width}

-- ---- the lines of events and of their turns

-- a call that fits the script and is in range has a command that fits and a reply in range
call_fits : (input : Input) (w : What) → IsSound input → what_fits input.script w ≡ true → WhatInRange input.version w → CallFits input w
call_fits input (Call frame c r) sound k h =
    command_from input.script input.names (record {
      dpcs = sound.dpcs;
      timers = sound.timers;
      threads = sound.threads;
      apcs = sound.apcs;
      routines = sound.routines;
      locks = sound.locks;
    }) c k h.1
call_fits input w sound k h = tt

-- the line of an event and that of its turn have at most 168 bytes together
event_lines : (input : Input) (n : ℕ) (e : Event) → IsSound input → n ≤ 160000 → EventIsPlain input e → LookIsLow e.what →
    length (rows_text (line_rows input n e e.what)) + length (row_text (turn_row input.names (turn_of e))) ≤ 168
event_lines input n e sound early h low =
    let s = input.script in
    let names = names_short input sound in
    let few = few_cpus input sound in
    let below = of_processor input e h in
    let p : e.cpu.0 ≤ 63 = omega (arith, few, below) in
    let fits = both (has_cpu s e.cpu && where_given (has_thread s) e.thread) (what_fits s e.what) h.0 in
    let line = line_width input n e early names few p h.1.0 (call_fits input e.what sound fits.1 h.1.1) h.1.1 in
    both_lines input n e e.what names p line low h.1.1

abbrev turn_lines : NameLists → List Event → List Row
turn_lines names es = map (turn_row names) (map turn_of es)

-- a look has a line in the schedule alone, and any other event one in the report too
events_size : (input : Input) (n : ℕ) (es : List Event) → IsSound input → n + length es ≤ 160000 → AllByRecursion (EventIsPlain input) es →
    AllByRecursion (λ e. LookIsLow e.what) es → length (rows_text (event_rows input n es)) + length (rows_text (turn_lines input.names es)) ≤ 168 * length es
events_size input n [] sound early h low = omega arith
events_size input n (e ∷ es) sound early h low =
    let names = input.names in
    let lines = size_both (line_rows input n e e.what) (event_rows input (n + 1) es) in
    let turns = size_cons (turn_row names (turn_of e)) (turn_lines names es) in
    let one = event_lines input n e sound (omega (arith, early)) h.0 low.0 in
    let more = events_size input (n + 1) es sound (omega (arith, early)) h.1 low.1 in
    omega (arith, lines, turns, one, more)

-- ---- those of processors

-- the line of one processor that is cut, where there is one, has at most 8 bytes
cut_one : (b : Bool) (p : ℕ) → p ≤ 63 → length (rows_text (if b then cut_row p ∷ [] else [])) ≤ 8
cut_one false p h = omega arith
cut_one true p h =
    let a = processor_width p h in
    let line = row_most 8 (codes "cut") (show_processor p ∷ []) (omega (arith, a)) in
    let one = one_size (cut_row p) in
    omega (arith, line, one)

-- the lines of the cut processors have at most 8 bytes for each processor
cut_size : (h : History) (p n : ℕ) → p + n ≤ 64 → length (rows_text (cut_rows h p n)) ≤ 8 * n
cut_size h p zero few = omega arith
cut_size h p (suc n) few =
    let parts = size_both (cut_of h p) (cut_rows h (p + 1) n) in
    let one = cut_one (made p h.events == h.turns) p (omega (arith, few)) in
    let more = cut_size h (p + 1) n (omega (arith, few)) in
    omega (arith, parts, one, more)

-- the line of one processor's spin, where there is one, has at most 37 bytes
spin_one : (names : NameLists) (s : Script) (many p : ℕ) (o : Option Spun) → NamesAreShort names → many ≤ 160000 → SpinIsPlain s many o → p ≤ 63 →
    length (rows_text (spin_of names p o)) ≤ 37
spin_one names s many p None short few plain h = omega arith
spin_one names s many p (Some x) short few plain h =
    let a = processor_width p h in
    let b = shown names.locks x.lock.0 short.locks in
    let before = plain.0 in
    let c = event_width x.number (omega (arith, few, before)) in
    let line = row_most 37 (codes "spins") (show_processor p ∷ show_lock names x.lock ∷ used x.number) (omega (arith, a, b, c)) in
    let one = one_size (spin_row names p x) in
    omega (arith, line, one)

-- the lines of the spinning processors have at most 37 bytes for each processor
spin_size : (names : NameLists) (s : Script) (h : History) (p n : ℕ) → NamesAreShort names → length h.events ≤ 160000 → events_fit s h.events ≡ true →
    p + n ≤ 64 → length (rows_text (spin_rows names h p n)) ≤ 37 * n
spin_size names s h p zero short few fit low = omega arith
spin_size names s h p (suc n) short few fit low =
    let parts = size_both (spin_of names p (spin_left h p)) (spin_rows names h (p + 1) n) in
    let one = spin_one names s (length h.events) p (spin_left h p) short few (left_plain s h p fit) (omega (arith, low)) in
    let more = spin_size names s h (p + 1) n short few fit (omega (arith, low)) in
    omega (arith, parts, one, more)

-- ---- those of inserts that wait

abbrev IsEarly : Inserted → Type 0
IsEarly i = i.number ≤ 160000

-- the inserts of two lists put together have numbers of at most 160000, if those of both have
early_more : (a b : List Inserted) → AllByRecursion IsEarly a → AllByRecursion IsEarly b → AllByRecursion IsEarly (a ++ b)
early_more [] b h k = k
early_more (x ∷ a) b h k = (h.0, early_more a b h.1 k)

-- the inserts of at most 160000 events have numbers of at most 160000
inserts_early : (past : List Event) → length past ≤ 160000 → AllByRecursion IsEarly (inserts past)
inserts_early [] few = tt
inserts_early (e ∷ past) few =
    early_more (inserts past) (inserted_by (length past) (inserted_thing e.what)) (inserts_early past (omega (arith, few))) (go (inserted_thing e.what))
  where
    go : (o : Option Thing) → AllByRecursion IsEarly (inserted_by (length past) o)
    go None = tt
    go (Some thing) = (omega (arith, few), tt)

-- a history has at most as many inserts as events
inserts_few : (past : List Event) → length (inserts past) ≤ length past
inserts_few [] = omega arith
inserts_few (e ∷ past) =
    let parts = length-append (inserts past) (inserted_by (length past) (inserted_thing e.what)) in
    let one = go (inserted_thing e.what) in
    let more = inserts_few past in
    omega (arith, parts, one, more)
  where
    go : (o : Option Thing) → length (inserted_by (length past) o) ≤ 1
    go None = omega arith
    go (Some thing) = omega arith

-- filtering a list makes it no longer
filter_few : {X : Type 0} (p : X → Bool) (xs : List X) → length (filter p xs) ≤ length xs
filter_few p [] = omega arith
filter_few p (x ∷ xs) = go (p x) (filter_few p xs)
  where
    go : (b : Bool) → length (filter p xs) ≤ length xs → length (if b then x ∷ filter p xs else filter p xs) ≤ length (x ∷ xs)
    go true h = omega (arith, h)
    go false h = omega (arith, h)

-- the line of one waiting insert has at most 34 bytes
wait_line : (names : NameLists) (i : Inserted) → NamesAreShort names → i.number ≤ 160000 → length (row_text (wait_row names i)) ≤ 34
wait_line names i short h =
    let a = event_width i.number h in
    let b = thing_width i.thing in
    row_most 34 (codes "waits") (wait_fields names i) (omega (arith, a, b))
  where
    thing_width : (t : Thing) → width (thing_row names t) ≤ 21
    thing_width (DpcThing d) = let n = shown names.dpcs d.0 short.dpcs in omega (arith, n)
    thing_width (ApcThing a) = let n = shown names.apcs a.0 short.apcs in omega (arith, n)

-- the lines of the waiting inserts have at most 34 bytes for each event
waits_size : (names : NameLists) (past : List Event) → NamesAreShort names → length past ≤ 160000 → length (rows_text (wait_rows names past)) ≤ 34 * length past
waits_size names past short few =
    let waits = λ (x : Inserted). still_waits (fate_of x.thing x.number past) in
    let lines = mapped_most IsEarly (wait_row names) 34 (λ i h. wait_line names i short h) (waiting_inserts past)
    (all_filter IsEarly waits (inserts past) (inserts_early past few)) in
    let kept = filter_few waits (inserts past) in
    let all = inserts_few past in
    omega (arith, lines, kept, all)

-- ---- the schedule

-- a turn limit that is at most the bound for its processors is at most 160000
limit_low : (cpus turns : ℕ) → turns ≤ turn_bound cpus → turns ≤ 160000
limit_low cpus turns h = go (nat_le cpus 8) h
  where
    go : (b : Bool) → turns ≤ (if b then TURNS else 2500) → turns ≤ 160000
    go true h = omega (arith, h)
    go false h = omega (arith, h)

-- the schedule of a history has at most 21 bytes more than the lines of its turns
turns_size : (input : Input) (h : History) → h.turns ≤ turn_bound input.script.cpus →
    length (schedule_text input (schedule_of h)) ≤ 21 + length (rows_text (turn_lines input.names h.events))
turns_size input h low =
    let names = input.names in
    let a = event_width h.turns (limit_low input.script.cpus h.turns low) in
    let first = row_most 16 (codes "schedule") (decimal h.turns ∷ []) (omega (arith, a)) in
    let last = row_most 5 (codes "done") [] (omega arith) in
    let end = one_size done_row in
    let more = size_both (turn_lines names h.events) (done_row ∷ []) in
    let whole = size_cons (limit_row h.turns) (turn_lines names h.events ++ done_row ∷ []) in
    omega (arith, first, last, end, more, whole)

-- ---- the whole

-- the report of a plain history with low looks has at most 32500000 bytes, its schedule part no more
pub report_size : (input : Input) (h : History) → IsSound input → HistoryIsPlain input h → AllByRecursion (λ e. LookIsLow e.what) h.events →
    (length (report_text input h) ≤ 32500000) × (length (schedule_text input (schedule_of h)) ≤ length (report_text input h))
report_size input h sound plain low =
    let names = input.names in
    let cpus = input.script.cpus in
    let events = event_rows input 0 h.events in
    let cuts = cut_rows h 0 cpus in
    let spins = spin_rows names h 0 cpus in
    let waits = wait_rows names (reverse h.events) in
    let schedule = schedule_rows names (schedule_of h) in
    let short = names_short input sound in
    let few = few_cpus input sound in
    let many = plain.few in
    let same = length-reverse h.events in
    let a = events_size input 0 h.events sound (omega (arith, many)) plain.events low in
    let b = cut_size h 0 cpus (omega (arith, few)) in
    let c = spin_size names input.script h 0 cpus short (omega (arith, many)) (plain_fits input h.events plain.events) (omega (arith, few)) in
    let d = waits_size names (reverse h.events) short (omega (arith, many, same)) in
    let t = turns_size input h plain.limit.1 in
    let head = row_most 7 (codes "report") [] (omega arith) in
    let whole = size_cons (codes "report" ∷ []) (events ++ (cuts ++ (spins ++ (waits ++ schedule)))) in
    let p1 = size_both events (cuts ++ (spins ++ (waits ++ schedule))) in
    let p2 = size_both cuts (spins ++ (waits ++ schedule)) in
    let p3 = size_both spins (waits ++ schedule) in
    let p4 = size_both waits schedule in
    (omega (arith, few, many, same, a, b, c, d, t, head, whole, p1, p2, p3, p4), omega (arith, whole, p1, p2, p3, p4))
