-- A text is the report of one history.
use Rattle.std.proofs.Common.{◌≡◌, ◌∙◌, ℕ, zero, suc, ◌+◌, ◌^◌, ◌<◌, ◌≤◌, Bool, true, false, List, [], ◌∷◌, ◌++◌, length, get_or, map, reverse, Option, Some}
use Rattle.std.proofs.Common.{None, refl, sym, ap, subst, append_assoc, append-nil, arith, rules}
use Rattle.std.specs.Prelude.{IfSome, codes, decimal, filter, nat_le, ◌==◌, ◌||◌, if◌then◌else◌}
use Rattle.std.specs.Char.{is_ascii_digit}
use Rattle.std.specs.List.{AllByRecursion, list_all}
use Rattle.std.specs.Str.{all_ascii_digits, bytes_eq}
use Rattle.std.proofs.lemmas.Bool.{and_from, and_parts, leb-true, ltb-true}
use Rattle.std.proofs.lemmas.Fmt.{decimal_nonempty, digits_decimal}
use Rattle.std.proofs.lemmas.List.{length-map, length-reverse, reverse-append}
use Rattle.std.proofs.lemmas.List.Elements.{filter-append}
use Rattle.std.proofs.lemmas.Slice.Eq.{bytes_eq-Decides}
use Rattle.std.proofs.lemmas.Str.Parse.{IsNumeralModel, numerals_by_fold}
use Rattle.nt_text.specs.Lines.{AllRows, IsRow, first, is_field}
use Rattle.nt_text.proofs.Decimals.{decimal_field, read_on}
use Rattle.nt_event.specs.declared.commands.Command.TheVariants.{Acquire, InsertApc, Queue, Unlock}
use Rattle.nt_event.specs.declared.commands.Reply.TheVariants.{Done, Spin as Spinning, Yes}
use Rattle.nt_event.specs.declared.events.Event.{Event}
use Rattle.nt_event.specs.declared.events.History.{History}
use Rattle.nt_event.specs.declared.events.Turn.{Turn}
use Rattle.nt_event.specs.declared.events.Turn.TheVariants.{Look as LookTurn}
use Rattle.nt_event.specs.declared.events.What.{What}
use Rattle.nt_event.specs.declared.events.What.TheVariants.{Call, Fire, Look, Switch}
use Rattle.nt_event.specs.declared.numbers.CpuNo.{CpuNo}
use Rattle.nt_event.specs.declared.scripts.Script.{Script}
use Rattle.nt_event.specs.Fate.{ApcThing, DpcThing, Inserted, Thing, fate_of, inserted_by, inserted_thing, inserts, still_waits, waiting_inserts}
use Rattle.nt_event.specs.Locks.{lock_move}
use Rattle.nt_event.specs.Numbers.{cpu, is_of}
use Rattle.nt_event.specs.Own.{rested}
use Rattle.nt_event.specs.Script.{has_lock}
use Rattle.nt_event.specs.Step.{turn_at, turn_of}
use Rattle.nt_script.specs.declared.walk.Input.{Input}
use Rattle.nt_line.specs.NameLists.{NameLists, show_lock}
use Rattle.nt_script.specs.Sound.{IsSound}
use Rattle.nt_script.proofs.Clean.{rows_both}
use Rattle.nt_text.specs.Lines.{Row}
use Rattle.nt_log.specs.declared.schedules.Schedule.{Schedule}
use Rattle.nt_log.specs.Schedules.{IsPlain as OfTurns, TurnIsPlain, limit_row, schedule_of, schedule_rows}
use Rattle.nt_log.proofs.OneRow.{all_map, map_rows, row_from, rows_one, split_one}
use Rattle.nt_log.proofs.OneSchedule.{schedule_clean, turns_one}
use Rattle.nt_print.specs.Conditions.{EventIsPlain, IsPlain, IsReportOf, LookIsBare, WhatInRange}
use Rattle.nt_print.specs.declared.spins.Spun.{Spun}
use Rattle.nt_print.specs.Spins.{last_spin, spin_after}
use Rattle.nt_event.specs.Fitting.{event_fits, events_fit, what_fits}
use Rattle.nt_print.specs.Report.{cut_of, cut_row, cut_rows, event_row, event_rows, line_rows, made, report_rows, show_processor, spin_left, spin_of, spin_row}
use Rattle.nt_print.specs.Report.{spin_rows, thing_row, used, wait_fields, wait_row, wait_rows}
use Rattle.nt_print.specs.Uses.{thing_fits}
use Rattle.nt_print.proofs.OneEvent.{Fits, Known, apc_clean, dpc_clean, event_clean, event_one, event_parts, event_same, is_look, known, lock_clean}

-- ---- lines of events

-- an event has the one row with its number, and a look has none
pub line_split : (input : Input) (n : ℕ) (e : Event) (w : What) → line_rows input n e w ≡ (if is_look w then [] else event_row input n e ∷ [])
line_split input n e (Look rises) = refl
line_split input n e w = refl

-- whether a turn is a look
turn_look : Turn → Bool
turn_look (LookTurn p r) = true
turn_look _ = false

-- the turn of an action is a look exactly if the action is a look
look_turn : (p : CpuNo) (w : What) → turn_look (turn_at p w) ≡ is_look w
unfolding turn_look
look_turn p (Look rises) = refl
look_turn p w = refl

-- of two events with the same turn either both are looks or none is
look_same : (e f : Event) → turn_of e ≡ turn_of f → is_look e.what ≡ is_look f.what
look_same e f t = sym (look_turn e.cpu e.what) ∙ ap turn_look t ∙ look_turn f.cpu f.what

-- two bare looks with the same turn are the same event
bare_one : (e f : Event) (w v : What) → e.what ≡ w → f.what ≡ v → is_look w ≡ true → is_look v ≡ true → LookIsBare e w → LookIsBare f v → turn_at e.cpu w
    ≡ turn_at f.cpu v → e ≡ f
bare_one e f (Look r) (Look q) i j l m h k t =
    let cpu : e.cpu ≡ f.cpu = cc in
    let rises : r ≡ q = cc in
    let what : e.what ≡ f.what = cc in
    let thread : e.thread ≡ f.thread = h.0 ∙ sym k.0 in
    event_same e f cpu thread (h.1 ∙ sym k.1) what
bare_one e f (Look r) v i j l m h k t = absurd cc
bare_one e f w v i j l m h k t = absurd cc

-- two lists of plain events with the same turns and the same rows are the same list
events_one : (input : Input) → Known input → (n : ℕ) (es fs : List Event) → AllByRecursion (EventIsPlain input) es →
    AllByRecursion (EventIsPlain input) fs → map turn_of es ≡ map turn_of fs → event_rows input n es ≡ event_rows input n fs → es ≡ fs
events_one input k n [] [] h g t r = refl
events_one input k n [] (f ∷ fs) h g t r = absurd cc
events_one input k n (e ∷ es) [] h g t r = absurd cc
events_one input k n (e ∷ es) (f ∷ fs) h g t r =
    let turn : turn_of e ≡ turn_of f = cc in
    let turns : map turn_of es ≡ map turn_of fs = cc in
    let split : (if is_look e.what then [] else event_row input n e ∷ []) ++ event_rows input (n + 1) es
    ≡ (if is_look f.what then [] else event_row input n f ∷ []) ++ event_rows input (n + 1) fs =
    ap (λ (a : List Row). a ++ event_rows input (n + 1) es) (sym (line_split input n e e.what)) ∙ r
    ∙ ap (λ (a : List Row). a ++ event_rows input (n + 1) fs) (line_split input n f f.what) in
    go (is_look e.what) (is_look f.what) refl refl turn split (λ rest. events_one input k (n + 1) es fs h.1 g.1 turns rest)
  where
    go : (a b : Bool) → is_look e.what ≡ a → is_look f.what ≡ b → turn_of e ≡ turn_of f → (if a then [] else event_row input n e ∷ [])
        ++ event_rows input (n + 1) es ≡ (if b then [] else event_row input n f ∷ []) ++ event_rows input (n + 1) fs →
        (event_rows input (n + 1) es ≡ event_rows input (n + 1) fs → es ≡ fs) → e ∷ es ≡ f ∷ fs
    go true true i j t r more =
        let head : e ≡ f = bare_one e f e.what f.what refl refl i j h.0.1.2 g.0.1.2 t in
        let rest : es ≡ fs = more r in
        cc
    go false false i j t r more =
        let row : event_row input n e ≡ event_row input n f = cc in
        let others : event_rows input (n + 1) es ≡ event_rows input (n + 1) fs = cc in
        let head : e ≡ f = event_one input k n e f h.0 g.0 i j row in
        let rest : es ≡ fs = more others in
        cc
    go true false i j t r more = let same = look_same e f t in absurd cc
    go false true i j t r more = let same = look_same e f t in absurd cc

-- the rows of plain events are rows of a text, if their numbers fit in 64 bits
events_clean : (input : Input) → Known input → (n : ℕ) (es : List Event) → n + length es < 2 ^ 64 → AllByRecursion (EventIsPlain input) es →
    AllRows (event_rows input n es)
events_clean input k n [] few h = tt
events_clean input k n (e ∷ es) few h =
    rows_both (line_rows input n e e.what) (event_rows input (n + 1) es) (subst AllRows (sym (line_split input n e e.what)) (go (is_look e.what)))
    (events_clean input k (n + 1) es (omega (arith, few)) h.1)
  where
    go : (b : Bool) → AllRows (if b then [] else event_row input n e ∷ [])
    go true = tt
    go false = (event_clean input k n e (omega (arith, few)) h.0, tt)

-- ---- which line a row is

-- the first byte of a row
initial : Row → ℕ
initial row = get_or (get_or row 0 []) 0 0

-- whether a row begins with a decimal digit
is_numbered : Row → Bool
is_numbered row = is_ascii_digit (initial row)

-- reading decimal digits from zero is a model of numerals
own : IsNumeralModel (λ ds. all_ascii_digits ds ≡ true) (read_on 0)
own = numerals_by_fold _ (search rules) read_on (search rules)

-- the first byte of a nonempty list of decimal digits is a digit
first_digit : (ds : List ℕ) → all_ascii_digits ds ≡ true → 0 < length ds → is_ascii_digit (get_or ds 0 0) ≡ true
first_digit [] h l = absurd (omega (arith, l))
first_digit (c ∷ cs) h l = (and_parts (is_ascii_digit c) (all_ascii_digits cs) h).0

-- whether the first field of a row is the word schedule
is_schedule : Row → Bool
is_schedule row = bytes_eq (first row) (codes "schedule")

abbrev IsOther : Row → Type 0
IsOther row = (is_numbered row ≡ false) × (is_schedule row ≡ false)

-- the row of an event begins with a digit, if its number fits in 64 bits
number_is_numbered : (input : Input) (n : ℕ) (e : Event) → n < 2 ^ 64 → is_numbered (event_row input n e) ≡ true
unfolding is_numbered initial
number_is_numbered input n e lt = first_digit (decimal n) (digits_decimal own n lt) (decimal_nonempty n lt)

-- all rows of a list of events begin with a digit, if their numbers fit in 64 bits
events_numbered : (input : Input) (n : ℕ) (es : List Event) → n + length es < 2 ^ 64 → AllByRecursion (λ z. is_numbered z ≡ true) (event_rows input n es)
events_numbered input n [] few = tt
events_numbered input n (e ∷ es) few =
    subst (λ (a : List Row). AllByRecursion (λ z. is_numbered z ≡ true) (a ++ event_rows input (n + 1) es)) (sym (line_split input n e e.what))
    (go (is_look e.what) (events_numbered input (n + 1) es (omega (arith, few))))
  where
    go : (b : Bool) → AllByRecursion (λ z. is_numbered z ≡ true) (event_rows input (n + 1) es) →
        AllByRecursion (λ z. is_numbered z ≡ true) ((if b then [] else event_row input n e ∷ []) ++ event_rows input (n + 1) es)
    go true h = h
    go false h = (number_is_numbered input n e (omega (arith, few)), h)

-- a row that begins with a digit is no schedule row
no_schedule : (row : Row) → is_numbered row ≡ true → is_schedule row ≡ false
unfolding is_numbered is_schedule initial
no_schedule row h = go (bytes_eq (first row) (codes "schedule")) refl
  where
    go : (b : Bool) → bytes_eq (first row) (codes "schedule") ≡ b → b ≡ false
    go false e = refl
    go true e =
        let same : first row ≡ codes "schedule" = (bytes_eq-Decides (first row) (codes "schedule")).0 e in
        let p = and_parts (nat_le 48 (get_or (first row) 0 0)) (nat_le (get_or (first row) 0 0) 57) h in
        let most = leb-true (get_or (first row) 0 0) 57 p.1 in
        let head : get_or (first row) 0 0 ≡ 115 = ap (λ (f : List ℕ). get_or f 0 0) same in
        absurd (omega (arith, most, head))

-- ---- lists

-- what holds of all elements of two lists holds of all of the joined list
all_append : {X : Type 0} (P : X → Type 0) (a b : List X) → AllByRecursion P a → AllByRecursion P b → AllByRecursion P (a ++ b)
all_append P [] b h k = k
all_append P (x ∷ a) b h k = (h.0, all_append P a b h.1 k)

-- what holds of all elements of a list may be weakened to what follows from it
all_to : {X : Type 0} (P Q : X → Type 0) → ((x : X) → P x → Q x) → (xs : List X) → AllByRecursion P xs → AllByRecursion Q xs
all_to P Q f [] h = tt
all_to P Q f (x ∷ xs) h = (f x h.0, all_to P Q f xs h.1)

-- what holds of all elements of a list holds of all elements of the reversed list
pub all_reverse : {X : Type 0} (P : X → Type 0) (xs : List X) → AllByRecursion P xs → AllByRecursion P (reverse xs)
all_reverse P [] h = tt
all_reverse P (x ∷ xs) h = subst (AllByRecursion P) (sym (reverse-append (x ∷ []) xs)) (all_append P (reverse xs) (x ∷ []) (all_reverse P xs h.1) (h.0, tt))

-- what holds of all elements of a list holds of those that pass a test
pub all_filter : {X : Type 0} (P : X → Type 0) (p : X → Bool) (xs : List X) → AllByRecursion P xs → AllByRecursion P (filter p xs)
all_filter P p [] h = tt
all_filter P p (x ∷ xs) h = go (p x) (all_filter P p xs h.1)
  where
    go : (b : Bool) → AllByRecursion P (filter p xs) → AllByRecursion P (if b then x ∷ filter p xs else filter p xs)
    go true more = (h.0, more)
    go false more = more

-- filtering by a test that all elements pass leaves the list as it is
filter_all : {X : Type 0} (p : X → Bool) (xs : List X) → AllByRecursion (λ z. p z ≡ true) xs → filter p xs ≡ xs
filter_all p [] h = refl
filter_all p (x ∷ xs) h = rw h.0 (ap (λ ys. x ∷ ys) (filter_all p xs h.1))

-- filtering by a test that no element passes leaves nothing
filter_none : {X : Type 0} (p : X → Bool) (xs : List X) → AllByRecursion (λ z. p z ≡ false) xs → filter p xs ≡ []
filter_none p [] h = refl
filter_none p (x ∷ xs) h = rw h.0 (filter_none p xs h.1)

-- ---- lines of processors that were cut

-- the row of a cut processor is neither an event's row nor a schedule row
cut_other : (p : ℕ) → IsOther (cut_row p)
unfolding is_numbered is_schedule initial
cut_other p = (refl, refl)

-- none of the rows of cut processors is an event's row or a schedule row
cuts_other : (h : History) (p n : ℕ) → AllByRecursion IsOther (cut_rows h p n)
cuts_other h p zero = tt
cuts_other h p (suc n) = all_append IsOther (cut_of h p) (cut_rows h (p + 1) n) (go (made p h.events == h.turns)) (cuts_other h (p + 1) n)
  where
    go : (b : Bool) → AllByRecursion IsOther (if b then cut_row p ∷ [] else [])
    go true = (cut_other p, tt)
    go false = tt

-- the rows of the processors that are cut are rows of a text
pub cuts_clean : (h : History) (p n : ℕ) → p + n < 2 ^ 64 → AllRows (cut_rows h p n)
cuts_clean h p zero few = tt
cuts_clean h p (suc n) few = rows_both (cut_of h p) (cut_rows h (p + 1) n) (go (made p h.events == h.turns)) (cuts_clean h (p + 1) n (omega (arith, few)))
  where
    go : (b : Bool) → AllRows (if b then cut_row p ∷ [] else [])
    go true = ((refl, (decimal_field p (omega (arith, few)), tt)), tt)
    go false = tt

-- ---- lines of processors that spin

-- the row of a spinning processor is neither an event's row nor a schedule row
spin_other : (names : NameLists) (p : ℕ) (x : Spun) → IsOther (spin_row names p x)
unfolding is_numbered is_schedule initial
spin_other names p x = (refl, refl)

-- none of the rows of spinning processors is an event's row or a schedule row
spins_other : (names : NameLists) (h : History) (p n : ℕ) → AllByRecursion IsOther (spin_rows names h p n)
spins_other names h p zero = tt
spins_other names h p (suc n) =
    all_append IsOther (spin_of names p (spin_left h p)) (spin_rows names h (p + 1) n) (go (spin_left h p)) (spins_other names h (p + 1) n)
  where
    go : (o : Option Spun) → AllByRecursion IsOther (spin_of names p o)
    go None = tt
    go (Some x) = (spin_other names p x, tt)

-- a spin of a history of so many events, for a lock of the script
abbrev pub SpinIsPlain : Script → ℕ → Option Spun → Type 0
SpinIsPlain s many o = IfSome o (λ x. (x.number < many) × (has_lock s x.lock ≡ true))

-- a spin that is plain for a number of events is plain for one event more
spin_on : (s : Script) (n : ℕ) (o : Option Spun) → SpinIsPlain s n o → SpinIsPlain s (n + 1) o
spin_on s n None k = tt
spin_on s n (Some x) k = let lt = k.0 in (omega (arith, lt), k.1)

-- after an action that fits the script the spin left is plain for one event more
spin_later : (s : Script) (n : ℕ) (w : What) (o : Option Spun) → what_fits s w ≡ true → SpinIsPlain s n o → SpinIsPlain s (n + 1) (spin_after n (lock_move w) o)
spin_later s n (Call f (Acquire l) Spinning) o h k = (omega arith, h)
spin_later s n (Call f (Acquire l) Done) o h k = spin_on s n o k
spin_later s n (Call f (Unlock l) Done) o h k = spin_on s n o k
spin_later s n w o h k = spin_on s n o k

-- the last spin of a processor is plain, if all events of the history fit the script
last_plain : (s : Script) (p : CpuNo) (past : List Event) → AllByRecursion (λ e. event_fits s e ≡ true) past → SpinIsPlain s (length past) (last_spin p past)
last_plain s p [] h = tt
last_plain s p (e ∷ past) h = go (is_of e p) (last_plain s p past h.1)
  where
    on : (o : Option Spun) → SpinIsPlain s (length past) o → SpinIsPlain s (suc (length past)) o
    on None k = tt
    on (Some x) k = let lt = k.0 in (omega (arith, lt), k.1)

    go : (b : Bool) → SpinIsPlain s (length past) (last_spin p past) →
        SpinIsPlain s (suc (length past)) (if b then spin_after (length past) (lock_move e.what) (last_spin p past) else last_spin p past)
    go true k =
        let next : length past + 1 ≡ suc (length past) = omega arith in
        subst (λ (m : ℕ). SpinIsPlain s m (spin_after (length past) (lock_move e.what) (last_spin p past))) next
        (spin_later s (length past) e.what (last_spin p past) (event_parts s e h.0).what k)
    go false k = on (last_spin p past) k

-- if a list of events fits a script, each of its events does
each_fits : (s : Script) (events : List Event) → events_fit s events ≡ true → AllByRecursion (λ e. event_fits s e ≡ true) events
each_fits s [] h = tt
each_fits s (e ∷ es) h =
    let parts = and_parts (event_fits s e) (events_fit s es) h in
    (parts.0, each_fits s es parts.1)

-- the last spin of each processor is one of the history's events, for a lock of the script
pub spin_plain : (s : Script) (p : CpuNo) (events : List Event) → events_fit s events ≡ true →
    SpinIsPlain s (length events) (last_spin p (reverse events))
spin_plain s p events h =
    let long = length-reverse events in
    subst (λ (m : ℕ). SpinIsPlain s m (last_spin p (reverse events))) long
    (last_plain s p (reverse events) (all_reverse (λ e. event_fits s e ≡ true) events (each_fits s events h)))

-- the spin that is left at a processor has the number of an event and a lock of the script
pub left_plain : (s : Script) (h : History) (p : ℕ) → events_fit s h.events ≡ true → SpinIsPlain s (length h.events) (spin_left h p)
left_plain s h p k = go (made p h.events == h.turns || rested (cpu p) (reverse h.events))
  where
    go : (b : Bool) → SpinIsPlain s (length h.events) (if b then None else last_spin (cpu p) (reverse h.events))
    go true = tt
    go false = spin_plain s (cpu p) h.events k

-- the row of a spin is a row of a text, if its lock is of the script and its numbers fit in 64 bits
pub spin_clean : (input : Input) → Known input → (p : ℕ) (x : Spun) → p < 2 ^ 64 → x.number < 2 ^ 64 → has_lock input.script x.lock ≡ true →
    IsRow (spin_row input.names p x)
spin_clean input k p x few n h = row_from (codes "spins") (show_processor p ∷ show_lock input.names x.lock ∷ used x.number) refl
    (rw (decimal_field p few, lock_clean input k x.lock h, decimal_field x.number n) refl)

-- the rows of the spins of a history that fits the script are rows of a text
pub spins_clean : (input : Input) → Known input → (h : History) (p n : ℕ) → p + n < 2 ^ 64 → length h.events < 2 ^ 64 →
    events_fit input.script h.events ≡ true → AllRows (spin_rows input.names h p n)
spins_clean input k h p zero few many fit = tt
spins_clean input k h p (suc n) few many fit =
    rows_both (spin_of input.names p (spin_left h p)) (spin_rows input.names h (p + 1) n) (go (spin_left h p) (left_plain input.script h p fit))
    (spins_clean input k h (p + 1) n (omega (arith, few)) many fit)
  where
    go : (o : Option Spun) → SpinIsPlain input.script (length h.events) o → AllRows (spin_of input.names p o)
    go None q = tt
    go (Some x) q = let lt = q.0 in (spin_clean input k p x (omega (arith, few)) (omega (arith, lt, many)) q.1, tt)

-- ---- lines of inserts that wait

-- the row of a waiting insert is neither an event's row nor a schedule row
wait_other : (names : NameLists) (i : Inserted) → IsOther (wait_row names i)
unfolding is_numbered is_schedule initial
wait_other names i = (refl, refl)

-- none of the rows of waiting inserts is an event's row or a schedule row
waits_other : (names : NameLists) (xs : List Inserted) → AllByRecursion IsOther (map (wait_row names) xs)
waits_other names [] = tt
waits_other names (x ∷ xs) = (wait_other names x, waits_other names xs)

abbrev pub WaitIsPlain : Script → Inserted → Type 0
WaitIsPlain s i = (i.number < 2 ^ 64) × (thing_fits s i.thing ≡ true)

-- the thing that an event inserts is in the script if the event fits it
pub inserted_fits : (s : Script) (w : What) → what_fits s w ≡ true → IfSome (inserted_thing w) (λ x. thing_fits s x ≡ true)
inserted_fits s (Call f (Queue d) Yes) h = h
inserted_fits s (Call f (InsertApc a) Yes) h = h
inserted_fits s (Fire d Yes) h = h
inserted_fits s w h = tt

-- the inserts of plain events name things of the script and have numbers that fit in 64 bits
pub inserts_plain : (input : Input) (past : List Event) → length past < 2 ^ 64 → AllByRecursion (EventIsPlain input) past →
    AllByRecursion (WaitIsPlain input.script) (inserts past)
inserts_plain input [] few h = tt
inserts_plain input (e ∷ past) few h =
    all_append (WaitIsPlain s) (inserts past) (inserted_by (length past) (inserted_thing e.what)) (inserts_plain input past (omega (arith, few)) h.1)
    (go (inserted_thing e.what) (inserted_fits s e.what (event_parts s e h.0.0).what))
  where
    s : Script
    s = input.script

    go : (o : Option Thing) → IfSome o (λ x. thing_fits s x ≡ true) → AllByRecursion (WaitIsPlain s) (inserted_by (length past) o)
    go None h = tt
    go (Some thing) h = ((omega (arith, few), h), tt)

-- the row of an insert that waits is a row of a text, if the insert is plain
pub wait_clean : (input : Input) → Known input → (i : Inserted) → WaitIsPlain input.script i → IsRow (wait_row input.names i)
wait_clean input k i h = row_from (codes "waits") (wait_fields input.names i) refl (rw (decimal_field i.number h.0, go i.thing h.1) refl)
  where
    go : (x : Thing) → thing_fits input.script x ≡ true → list_all is_field (thing_row input.names x) ≡ true
    go (DpcThing d) h = rw (dpc_clean input k d h) refl
    go (ApcThing a) h = rw (apc_clean input k a h) refl

-- the rows of the inserts that wait are rows of a text, if the events are plain
pub waits_clean : (input : Input) → Known input → (past : List Event) → length past < 2 ^ 64 → AllByRecursion (EventIsPlain input) past →
    AllRows (wait_rows input.names past)
waits_clean input k past few h =
    map_rows (WaitIsPlain input.script) (wait_row input.names) (wait_clean input k) (waiting_inserts past)
    (all_filter (WaitIsPlain input.script) (λ x. still_waits (fate_of x.thing x.number past)) (inserts past) (inserts_plain input past few h))

-- ---- the schedule

-- a plain history names things of the script
pub plain_fits : (input : Input) (events : List Event) → AllByRecursion (EventIsPlain input) events → events_fit input.script events ≡ true
plain_fits input [] h = refl
plain_fits input (e ∷ es) h = and_from (event_fits input.script e) (events_fit input.script es) h.0.0 (plain_fits input es h.1)

-- the turn of a plain event is plain
turn_plain : (input : Input) → Known input → (e : Event) → EventIsPlain input e → TurnIsPlain input (turn_of e)
turn_plain input k e h = go e.what p.what h.1.1
  where
    p : Fits input.script e
    p = event_parts input.script e h.0

    few : e.cpu.0 ≤ 63
    few = let lt = ltb-true e.cpu.0 input.script.cpus p.cpu in let most = k.fit.cpus.1 in omega (arith, lt, most)

    go : (w : What) → what_fits input.script w ≡ true → WhatInRange input.version w → TurnIsPlain input (turn_at e.cpu w)
    go (Look rises) f r = (few, r)
    go (Switch t status) f r = (few, ltb-true t.0 (length input.script.threads) f)
    go w f r = few

-- the schedule of a plain history is one that a text may have
pub schedule_plain : (input : Input) → Known input → (h : History) → IsPlain input h → OfTurns input (schedule_of h)
schedule_plain input k h p = record {
  turns = all_map (EventIsPlain input) (TurnIsPlain input) turn_of (turn_plain input k) h.events p.events;
  few = let few = p.few in omega (arith, few, length-map h.events turn_of);
  limit = p.limit;
}

-- ---- the whole

-- moving all brackets of five joined lists so that the last list is split off
regroup : {X : Type 0} (a b c d e : List X) → a ++ (b ++ (c ++ (d ++ e))) ≡ (a ++ (b ++ (c ++ d))) ++ e
regroup a b c d e =
    ap (λ xs. a ++ (b ++ xs)) (sym (append_assoc c d e)) ∙ ap (λ xs. a ++ xs) (sym (append_assoc b (c ++ d) e))
    ∙ sym (append_assoc a (b ++ (c ++ d)) e)

-- the rows of a report of a plain history of a sound input are rows of a text
pub report_clean : (input : Input) → IsSound input → (h : History) → IsPlain input h → AllRows (report_rows input h)
report_clean input sound h p =
    let k = known input sound in
    let few = p.few in
    let cpus = k.fit.cpus.1 in (
      (refl, tt),
      rows_both (event_rows input 0 h.events) (cut_rows h 0 input.script.cpus ++ (spin_rows input.names h 0 input.script.cpus
          ++ (wait_rows input.names (reverse h.events) ++ schedule_rows input.names (schedule_of h))))
          (events_clean input k 0 h.events (omega (arith, few)) p.events)
          (rows_both (cut_rows h 0 input.script.cpus)
          (spin_rows input.names h 0 input.script.cpus ++ (wait_rows input.names (reverse h.events) ++ schedule_rows input.names (schedule_of h)))
          (cuts_clean h 0 input.script.cpus (omega (arith, cpus)))
          (rows_both (spin_rows input.names h 0 input.script.cpus) (wait_rows input.names (reverse h.events) ++ schedule_rows input.names (schedule_of h))
          (spins_clean input k h 0 input.script.cpus (omega (arith, cpus)) (omega (arith, few)) (plain_fits input h.events p.events))
          (rows_both (wait_rows input.names (reverse h.events)) (schedule_rows input.names (schedule_of h))
          (waits_clean input k (reverse h.events) (omega (arith, few, length-reverse h.events)) (all_reverse (EventIsPlain input) h.events p.events))
          (schedule_clean input sound (schedule_of h) (schedule_plain input k h p))))),
    )

-- those behind the lines of events
abbrev others : Input → History → List Row
others input h = cut_rows h 0 input.script.cpus ++ (spin_rows input.names h 0 input.script.cpus ++ wait_rows input.names (reverse h.events))

-- the lines before the schedule
front : Input → History → List Row
front input h = event_rows input 0 h.events ++ others input h

-- none of the rows after those of the events and before the schedule is an event's row or a schedule row
others_other : (input : Input) (h : History) → AllByRecursion IsOther (others input h)
others_other input h =
    all_append IsOther (cut_rows h 0 input.script.cpus) (spin_rows input.names h 0 input.script.cpus ++ wait_rows input.names (reverse h.events))
    (cuts_other h 0 input.script.cpus)
    (all_append IsOther (spin_rows input.names h 0 input.script.cpus) (wait_rows input.names (reverse h.events))
    (spins_other input.names h 0 input.script.cpus) (waits_other input.names (waiting_inserts (reverse h.events))))

-- no row before the schedule of a report is a schedule row, for at most 160000 events
front_before : (input : Input) (h : History) → length h.events ≤ 160000 → AllByRecursion (λ z. is_schedule z ≡ false) (front input h)
unfolding front
front_before input h few =
    all_append (λ z. is_schedule z ≡ false) (event_rows input 0 h.events) _
    (all_to (λ z. is_numbered z ≡ true) (λ z. is_schedule z ≡ false) no_schedule (event_rows input 0 h.events)
    (events_numbered input 0 h.events (omega (arith, few))))
    (all_to IsOther (λ z. is_schedule z ≡ false) (λ z o. o.1) _ (others_other input h))

-- the rows before the schedule that begin with a digit are the rows of the events
front_events : (input : Input) (h : History) → length h.events ≤ 160000 → filter is_numbered (front input h) ≡ event_rows input 0 h.events
unfolding front
front_events input h few =
    filter-append is_numbered (event_rows input 0 h.events) (others input h)
    ∙ ap (λ (a : List Row). a ++ filter is_numbered (others input h))
    (filter_all is_numbered (event_rows input 0 h.events) (events_numbered input 0 h.events (omega (arith, few))))
    ∙ ap (λ (a : List Row). event_rows input 0 h.events ++ a)
    (filter_none is_numbered _ (all_to IsOther (λ z. is_numbered z ≡ false) (λ z o. o.0) _ (others_other input h)))
    ∙ append-nil (event_rows input 0 h.events)

-- a report is its first row, the rows before the schedule, and those of the schedule
report_front : (input : Input) (h : History) → report_rows input h ≡ (codes "report" ∷ []) ∷ (front input h ++ schedule_rows input.names (schedule_of h))
unfolding front
report_front input h = ap (λ (rows : List Row). (codes "report" ∷ []) ∷ rows)
    (regroup (event_rows input 0 h.events) (cut_rows h 0 input.script.cpus) (spin_rows input.names h 0 input.script.cpus)
    (wait_rows input.names (reverse h.events)) (schedule_rows input.names (schedule_of h)))

-- the lines of a report before its schedule, none of which begins with the word of a schedule
pub before_schedule : (input : Input) (h : History) → length h.events ≤ 160000 → (rows : List Row) ×
    (report_rows input h ≡ rows ++ schedule_rows input.names (schedule_of h)) × AllByRecursion (λ z. bytes_eq (first z) (codes "schedule") ≡ false) rows
unfolding is_schedule
before_schedule input h few = (
  (codes "report" ∷ []) ∷ front input h,
  report_front input h,
  (refl, front_before input h few),
)

-- the row of the turn limit is a schedule row
limit_is_schedule : (n : ℕ) → is_schedule (limit_row n) ≡ true
unfolding is_schedule initial
limit_is_schedule n = refl

abbrev history : ℕ → List Event → History
history n es = record { turns = n; events = es }

-- two histories with the same turns and the same events are the same
history_same : (h g : History) → h.turns ≡ g.turns → h.events ≡ g.events → h ≡ g
history_same h g turns events = ap (λ (n : ℕ). history n h.events) turns ∙ ap (λ (es : List Event). history g.turns es) events

-- two plain histories of a sound input with the same report rows are the same
rows_same : (input : Input) → IsSound input → (h g : History) → IsPlain input h → IsPlain input g → report_rows input h ≡ report_rows input g → h
    ≡ g
rows_same input sound h g p q e =
    let k = known input sound in
    let cut : (codes "report" ∷ []) ∷ (front input h ++ schedule_rows input.names (schedule_of h))
    ≡ (codes "report" ∷ []) ∷ (front input g ++ schedule_rows input.names (schedule_of g)) = sym (report_front input h) ∙ e ∙ report_front input g in
    let both = tails _ _ cut in
    let parts = split_one is_schedule (front input h) (front input g) (limit_row h.turns) (limit_row g.turns) _ _ (front_before input h p.few)
    (front_before input g q.few) (limit_is_schedule h.turns) (limit_is_schedule g.turns) both in
    let schedules : schedule_of h ≡ schedule_of g = turns_one input sound (schedule_of h) (schedule_of g) (schedule_plain input k h p)
    (schedule_plain input k g q) parts.1 in
    let rows : event_rows input 0 h.events ≡ event_rows input 0 g.events = sym (front_events input h p.few) ∙ ap (filter is_numbered) parts.0
    ∙ front_events input g q.few in
    let turns : h.turns ≡ g.turns = ap (λ (s : Schedule). s.turns) schedules in
    let list : map turn_of h.events ≡ map turn_of g.events = ap (λ (s : Schedule). s.list) schedules in
    history_same h g turns (events_one input k 0 h.events g.events p.events q.events list rows)
  where
    tails : {x : Row} (a b : List Row) → x ∷ a ≡ x ∷ b → a ≡ b
    tails a b e = cc

-- a text is the report of at most one history
pub one_history : (bytes : List ℕ) (input : Input) (h g : History) → IsReportOf bytes input h → IsReportOf bytes input g → h ≡ g
one_history bytes input h g p q =
    rows_same input p.sound h g p.plain q.plain
    (rows_one (report_rows input h) (report_rows input g) (report_clean input p.sound h p.plain) (report_clean input p.sound g q.plain) (sym p.text ∙ q.text))
