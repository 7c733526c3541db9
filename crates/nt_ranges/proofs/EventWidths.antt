-- How long the lines of events and of turns are.
use Rattle.std.proofs.Common.{arith}
use Rattle.std.specs.List.{AllByRecursion, slice_get}
use Rattle.std.specs.Prelude.{Bool, List, None, Option, Some, [], decimal, false, if◌then◌else◌, length, suc, true, ℕ, ◌*◌, ◌+◌, ◌==◌, ◌∷◌, ◌≡◌, ◌≤◌}
use Rattle.std.proofs.lemmas.List.{length-append}
use Rattle.nt_event.specs.declared.commands.ApcKind.{ApcKind}
use Rattle.nt_event.specs.declared.commands.ApcKind.TheVariants as kind
use Rattle.nt_event.specs.declared.commands.Reply.{Reply}
use Rattle.nt_event.specs.declared.commands.Reply.TheVariants.{Blocked, Done, No, Refused, Spin, Status, Yes}
use Rattle.nt_event.specs.declared.commands.TimerKey.{TimerKey}
use Rattle.nt_event.specs.declared.commands.TimerKey.TheVariants as key
use Rattle.nt_event.specs.declared.events.Begun.{Begun}
use Rattle.nt_event.specs.declared.events.Begun.TheVariants as begun
use Rattle.nt_event.specs.declared.events.Event.{Event}
use Rattle.nt_event.specs.declared.events.What.{What}
use Rattle.nt_event.specs.declared.events.What.TheVariants.{Begin, Call, Clean, End, Expire, Fire, Flush, Free, Gone, Look, Normal, Rest, Rewait, Switch}
use Rattle.nt_event.specs.declared.events.Turn.TheVariants.{Look as LookTurn, Next, Switch as SwitchTurn}
use Rattle.nt_event.specs.declared.numbers.CpuNo.{CpuNo}
use Rattle.nt_event.specs.declared.numbers.ThreadNo.{ThreadNo}
use Rattle.nt_event.specs.declared.scripts.ApcDecl.{ApcDecl}
use Rattle.nt_event.specs.Families.{in_look}
use Rattle.nt_event.specs.Numbered.{refusal_number}
use Rattle.nt_event.specs.Step.{turn_at}
use Rattle.nt_line.specs.Fits.{CommandFits}
use Rattle.nt_line.specs.NameLists.{NameLists}
use Rattle.nt_line.specs.Rows.{command_row}
use Rattle.nt_log.specs.Schedules.{rise_field, rises_row, turn_fields, turn_row, turn_word}
use Rattle.nt_print.specs.Conditions.{BegunInRange, ReplyInRange, StatusInRange, WhatInRange}
use Rattle.nt_print.specs.Report.{begun_row, event_fields, event_row, key_row, kind_of, kind_word, line_rows, replied, show_processor, show_running}
use Rattle.nt_print.specs.Report.{status_row, used, what_row}
use Rattle.nt_script.specs.declared.walk.Input.{Input}
use Rattle.nt_text.specs.Lines.{row_text, rows_text}
use Rattle.nt_ranges.proofs.CommandWidths.{command_width}
use Rattle.nt_ranges.proofs.FieldWidths.{NamesAreShort, event_width, hexadecimal_width, low_width, refusal_widths, shown, word_width}
use Rattle.nt_ranges.proofs.Widths.{one_size, row_most, width, width_both}

-- ---- what an event does

-- the fields of a reply in range have a width of at most 26
replied_width : (r : Reply) → ReplyInRange r → width (replied r) ≤ 26
replied_width Done h = omega arith
replied_width Yes h = omega arith
replied_width No h = omega arith
replied_width (Status x) h = let a = hexadecimal_width x h in omega (arith, a)
replied_width Blocked h = omega arith
replied_width Spin h = omega arith
replied_width (Refused r) h =
    let both = refusal_widths r in let a = low_width (refusal_number r) both.0 in let b = both.1 in omega (arith, a, b)

-- the fields that tell which event is used have a width of at most 14
used_width : (from : ℕ) → from ≤ 4294967295 → width (used from) ≤ 14
used_width from h = let a = word_width from h in omega (arith, a)

-- the word of an APC kind has at most 7 bytes
kind_word_width : (k : ApcKind) → length (kind_word k) ≤ 7
kind_word_width kind.Special = omega arith
kind_word_width kind.Normal = omega arith
kind_word_width kind.User = omega arith

-- the word of the kind of an APC declaration has at most 7 bytes, also where there is none
kind_width : (a : Option ApcDecl) → length (kind_of a) ≤ 7
kind_width None = omega arith
kind_width (Some a) = kind_word_width a.kind

-- the row of an activity that begins has a width of at most 26, if the names are short
begun_width : (input : Input) (b : Begun) → NamesAreShort input.names → BegunInRange b → width (begun_row input b) ≤ 26
begun_width input (begun.Int level) s h = let a = low_width level (omega (arith, h)) in omega (arith, a)
begun_width input (begun.Dpc d) s h = let a = shown input.names.dpcs d.0 s.dpcs in omega (arith, a)
begun_width input (begun.Threaded d) s h = let a = shown input.names.dpcs d.0 s.dpcs in omega (arith, a)
begun_width input (begun.Apc x) s h =
    let a = shown input.names.apcs x.0 s.apcs in let k = kind_width (slice_get input.script.apcs x.0) in omega (arith, a, k)

-- the row of a timer key has a width of at most 23, if the names are short
key_width : (names : NameLists) (k : TimerKey) → NamesAreShort names → width (key_row names k) ≤ 23
key_width names (key.Timer t) s = let a = shown names.timers t.0 s.timers in omega (arith, a)
key_width names (key.Delay t) s = let a = shown names.threads t.0 s.threads in omega (arith, a)

-- the row of an optional wait status in range has a width of at most 16
status_width : (o : Option ℕ) → StatusInRange o → width (status_row o) ≤ 16
status_width None h = omega arith
status_width (Some x) h = let a = hexadecimal_width x h in omega (arith, a)

-- a call's command fits
abbrev pub CallFits : Input → What → Type 0
CallFits input (Call frame c r) = CommandFits input.names input.script.cpus c
CallFits input w = Unit {0}

-- a call is the longest one
what_width : (input : Input) (w : What) → NamesAreShort input.names → input.script.cpus ≤ 64 → CallFits input w → WhatInRange input.version w →
    width (what_row input w) ≤ 90
what_width input (Call frame c r) s few f h =
    let a = word_width frame h.0 in
    let b = command_width input.names input.script.cpus c s few f in
    let d = replied_width r h.2 in
    let both = width_both (command_row input.names c) (replied r) in
    omega (arith, a, b, d, both)
what_width input (Look rises) s few f h = omega arith
what_width input (Begin b from) s few f h =
    let x = begun_width input b s h.0 in
    let y = used_width from h.1 in
    let both = width_both (begun_row input b) (used from) in
    omega (arith, x, y, both)
what_width input (Normal frame) s few f h = let a = word_width frame h in omega (arith, a)
what_width input (End frame) s few f h = let a = word_width frame h in omega (arith, a)
what_width input (Expire key from) s few f h =
    let x = key_width input.names key s in
    let y = used_width from h in
    let both = width_both (key_row input.names key) (used from) in
    omega (arith, x, y, both)
what_width input (Fire d r) s few f h = let a = shown input.names.dpcs d.0 s.dpcs in let b = replied_width r h in omega (arith, a, b)
what_width input (Clean class) s few f h = let a = low_width class (omega (arith, h)) in omega (arith, a)
what_width input (Switch t status) s few f h = let a = shown input.names.threads t.0 s.threads in let b = status_width status h in omega (arith, a, b)
what_width input (Rewait frame r) s few f h = let a = word_width frame h.0 in let b = replied_width r h.1 in omega (arith, a, b)
what_width input (Flush x from) s few f h = let a = shown input.names.apcs x.0 s.apcs in let b = used_width from h in omega (arith, a, b)
what_width input (Gone t) s few f h = let a = shown input.names.threads t.0 s.threads in omega (arith, a)
what_width input (Free frame k) s few f h = let a = word_width frame h in let b = shown input.names.locks k.0 s.locks in omega (arith, a, b)
what_width input Rest s few f h = omega arith

-- ---- its line

-- a processor's field has at most 3 bytes if its number is at most 63
pub processor_width : (p : ℕ) → p ≤ 63 → length (show_processor p) ≤ 3
processor_width p h = let a = low_width p (omega (arith, h)) in omega (arith, a)

-- the running thread, or its absence, is shown with at most 16 bytes, if the names are short
running_width : (names : NameLists) (t : Option ThreadNo) → NamesAreShort names → length (show_running names t) ≤ 16
running_width names None s = omega arith
running_width names (Some t) s = shown names.threads t.0 s.threads

-- the row of an event has at most 121 bytes if the names are short and the numbers are in range
pub line_width : (input : Input) (n : ℕ) (e : Event) → n ≤ 160000 → NamesAreShort input.names → input.script.cpus ≤ 64 → e.cpu.0 ≤ 63 → e.level ≤ 15 →
    CallFits input e.what → WhatInRange input.version e.what → width (event_row input n e) ≤ 121
line_width input n e early s few p level f h =
    let a = event_width n early in
    let b = processor_width e.cpu.0 p in
    let c = running_width input.names e.thread s in
    let d = low_width e.level (omega (arith, level)) in
    let w = what_width input e.what s few f h in
    omega (arith, a, b, c, d, w)

-- ---- a look's values

abbrev pub LookIsLow : What → Type 0
LookIsLow w = in_look (λ rises. AllByRecursion (λ v. v ≤ 160000) rises.value) (Unit {0}) w

-- a look's field for one class has at most 9 bytes
rise_width : (class v : ℕ) → class ≤ 15 → v ≤ 160000 → length (rise_field class v) ≤ 9
rise_width class v h k =
    let a = low_width class (omega (arith, h)) in
    let b = event_width v k in
    let both : length (rise_field class v) ≡ length (decimal class) + suc (length (decimal v)) = length-append (decimal class) (61 ∷ decimal v) in
    omega (arith, a, b, both)

-- the fields of a look have a width of at most 10 for each value
rises_width : (class : ℕ) (vs : List ℕ) → class + length vs ≤ 16 → AllByRecursion (λ v. v ≤ 160000) vs → width (rises_row class vs) ≤ 10 * length vs
rises_width class [] few h = omega arith
rises_width class (v ∷ vs) few h =
    go (v == 0) (rise_width class v (omega (arith, few)) h.0) (rises_width (class + 1) vs (omega (arith, few)) h.1)
  where
    go : (b : Bool) → length (rise_field class v) ≤ 9 → width (rises_row (class + 1) vs) ≤ 10 * length vs →
        width (if b then rises_row (class + 1) vs else rise_field class v ∷ rises_row (class + 1) vs) ≤ 10 * length (v ∷ vs)
    go true x y = omega (arith, y)
    go false x y = omega (arith, x, y)

-- ---- its line and that of its turn

-- the line of an event is at most 121 bytes long, if its row has that width
one_line : (input : Input) (n : ℕ) (e : Event) → width (event_row input n e) ≤ 121 → length (rows_text (event_row input n e ∷ [])) ≤ 121
one_line input n e h =
    let line = row_most 121 (decimal n) (event_fields input e) h in
    let one = one_size (event_row input n e) in
    omega (arith, line, one)

-- the line of a next turn is at most 8 bytes long
next_line : (names : NameLists) (p : CpuNo) → p.0 ≤ 63 → length (row_text (turn_row names (Next p))) ≤ 8
next_line names p h =
    let a = low_width p.0 (omega (arith, h)) in row_most 8 (turn_word (Next p)) (turn_fields names (Next p)) (omega (arith, a))

-- a look with a value in each class is the longest one
pub both_lines : (input : Input) (n : ℕ) (e : Event) (w : What) → NamesAreShort input.names → e.cpu.0 ≤ 63 → width (event_row input n e) ≤ 121 →
    LookIsLow w → WhatInRange input.version w → length (rows_text (line_rows input n e w)) + length (row_text (turn_row input.names (turn_at e.cpu w))) ≤ 168
both_lines input n e (Look rises) s p line low h =
    let names = input.names in
    let classes = h.classes in
    let a = low_width e.cpu.0 (omega (arith, p)) in
    let b = rises_width 0 rises.value (omega (arith, classes)) low in
    let turn = row_most 168 (turn_word (LookTurn e.cpu rises)) (turn_fields names (LookTurn e.cpu rises)) (omega (arith, a, b, classes)) in
    omega (arith, turn)
both_lines input n e (Switch t status) s p line low h =
    let names = input.names in
    let a = low_width e.cpu.0 (omega (arith, p)) in
    let b = shown names.threads t.0 s.threads in
    let turn = row_most 27 (turn_word (SwitchTurn e.cpu t)) (turn_fields names (SwitchTurn e.cpu t)) (omega (arith, a, b)) in
    let one = one_line input n e line in
    omega (arith, turn, one)
both_lines input n e w s p line low h = let turn = next_line input.names e.cpu p in let one = one_line input n e line in omega (arith, turn, one)
