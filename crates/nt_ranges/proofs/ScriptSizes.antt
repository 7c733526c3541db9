-- How long the parts of a script's text are, and the whole.
use Rattle.std.proofs.Common.{arith, eqb, inl, inr}
use Rattle.std.proofs.lemmas.Bool.{and_parts, eqb-false, eqb-true, false≢true, ne_eqb, or_cases, or_parts}
use Rattle.std.proofs.lemmas.List.Sums.{sum_by-cons}
use Rattle.std.proofs.lemmas.Map.Steps.{length-le_from_distinct_below}
use Rattle.std.specs.List.{AllByRecursion, IsDistinct, list_any}
use Rattle.std.specs.Prelude.{Bool, IfSome, List, None, Option, Some, [], decimal, false, if◌then◌else◌, length, map, nat_le, not, refl, true, ℕ, ◌&&◌, ◌*◌}
use Rattle.std.specs.Prelude.{◌++◌, ◌+◌, ◌<◌, ◌==◌, ◌∷◌, ◌≡◌, ◌≤◌}
use Rattle.nt_event.specs.declared.commands.ApcKind.{ApcKind}
use Rattle.nt_event.specs.declared.commands.ApcKind.TheVariants.{Normal, Special, User}
use Rattle.nt_event.specs.declared.commands.Command.{Command}
use Rattle.nt_event.specs.declared.numbers.DpcNo.{DpcNo}
use Rattle.nt_event.specs.declared.numbers.RoutineNo.{RoutineNo}
use Rattle.nt_event.specs.declared.scripts.ApcDecl.{ApcDecl}
use Rattle.nt_event.specs.declared.scripts.DpcDecl.{DpcDecl}
use Rattle.nt_event.specs.declared.scripts.Isr.{Isr}
use Rattle.nt_event.specs.declared.scripts.Routine.{Routine}
use Rattle.nt_event.specs.declared.scripts.ThreadDecl.{ThreadDecl}
use Rattle.nt_event.specs.declared.scripts.TimerDecl.{TimerDecl}
use Rattle.nt_event.specs.Script.{command_count, is_isr_of, isrs_differ, stands_in}
use Rattle.nt_line.specs.declared.keywords.Keyword.TheVariants as keyword
use Rattle.nt_line.specs.Fields.{dash, on_off_text}
use Rattle.nt_line.specs.Fits.{ApcFits, CommandFits, DpcFits, IsrFits, ThreadFits, TimerFits}
use Rattle.nt_line.specs.Keywords.{text_of}
use Rattle.nt_line.specs.NameLists.{NameLists, show_dpc, show_routine}
use Rattle.nt_line.specs.Rows.{apc_args, apc_row, command_args, command_row, command_verb, depth_rows, dpc_args, dpc_row, isr_args, isr_row, lock_row}
use Rattle.nt_line.specs.Rows.{normal_args}
use Rattle.nt_line.specs.Rows.{number_row, rundown_args, show_unless, thread_args, thread_row, threaded_rows, timer_args, timer_row}
use Rattle.nt_script.specs.declared.walk.Input.{Input}
use Rattle.nt_script.specs.Sound.{IsSound}
use Rattle.nt_script.specs.Text.{begun_rows, declared_rows, exit_row, header_rows, routine_rows, text, version_rows}
use Rattle.nt_script.proofs.Fit.{Fit}
use Rattle.nt_script.proofs.Soundness.{sound_fits}
use Rattle.nt_text.specs.Lines.{row_text, rows_text}
use Rattle.nt_ranges.proofs.CommandWidths.{command_width}
use Rattle.nt_ranges.proofs.FieldWidths.{IsShort, NamesAreShort, low_width, names_short, on_off_width, shown, word_width}
use Rattle.nt_ranges.proofs.Widths.{declared_most, mapped_most, one_size, row_most, size_both, size_cons, width, width_both}

-- ---- the header

-- the line of the version, where there is one, has at most 11 bytes
version_size : (version : ℕ) → version ≤ 2 → length (rows_text (version_rows version)) ≤ 11
version_size version h = go (nat_le 2 version)
  where
    go : (b : Bool) → length (rows_text (if b then number_row keyword.Version version ∷ [] else [])) ≤ 11
    go false = omega arith
    go true =
        let a = low_width version (omega (arith, h)) in
        let line = row_most 11 (text_of keyword.Version) (decimal version ∷ []) (omega (arith, a)) in
        let one = one_size (number_row keyword.Version version) in
        omega (arith, line, one)

-- the line of the queue depth, where there is one, has at most 17 bytes
depth_size : (depth : Option ℕ) → IfSome depth (λ n. n ≤ 256) → length (rows_text (depth_rows depth)) ≤ 17
depth_size None h = omega arith
depth_size (Some n) h =
    let a = word_width n (omega (arith, h)) in
    let line = row_most 17 (text_of keyword.Depth) (decimal n ∷ []) (omega (arith, a)) in
    let one = one_size (number_row keyword.Depth n) in
    omega (arith, line, one)

-- the line that tells whether DPCs are threaded, where there is one, has at most 13 bytes
threaded_size : (threaded : Option Bool) → length (rows_text (threaded_rows threaded)) ≤ 13
threaded_size None = omega arith
threaded_size (Some on) =
    let a = on_off_width on in
    let line = row_most 13 (text_of keyword.Threaded) (on_off_text on ∷ []) (omega (arith, a)) in
    let one = one_size (text_of keyword.Threaded ∷ on_off_text on ∷ []) in
    omega (arith, line, one)

-- the lines before the first declaration of a script have at most 49 bytes
header_size : (input : Input) → Fit input → length (rows_text (header_rows input.version input.script.cpus input.script.depth input.script.threaded)) ≤ 49
header_size input f =
    let s = input.script in
    let cpus = number_row keyword.Cpus s.cpus in
    let few = f.cpus.1 in
    let a = version_size input.version f.version.1 in
    let b = low_width s.cpus (omega (arith, few)) in
    let c = row_most 8 (text_of keyword.Cpus) (decimal s.cpus ∷ []) (omega (arith, b)) in
    let d = depth_size s.depth f.depth in
    let e = threaded_size s.threaded in
    let p = size_both (version_rows input.version) (cpus ∷ (depth_rows s.depth ++ threaded_rows s.threaded)) in
    let q = size_cons cpus (depth_rows s.depth ++ threaded_rows s.threaded) in
    let r = size_both (depth_rows s.depth) (threaded_rows s.threaded) in
    omega (arith, a, c, d, e, p, q, r)

-- ---- interrupt routines: no two are for one processor and level, so there are at most 64 * 16

abbrev place_of : Isr → ℕ
place_of isr = 16 * isr.cpu.0 + isr.level

abbrev places : List Isr → List ℕ
places [] = []
places (isr ∷ more) = place_of isr ∷ places more

-- interrupt routines have as many places as there are of them
length-places : (isrs : List Isr) → length (places isrs) ≡ length isrs
length-places [] = refl
length-places (isr ∷ more) = let rest = length-places more in omega (arith, rest)

-- an interrupt routine whose processor and level no later one has stands at another place than each of them
apart : (names : NameLists) (cpus : ℕ) (isr : Isr) (more : List Isr) → isr.level ≤ 15 → AllByRecursion (IsrFits names cpus) more →
    stands_in more isr.cpu isr.level ≡ false → AllByRecursion (λ y. eqb (place_of isr) y ≡ false) (places more)
apart names cpus isr [] low h k = tt
apart names cpus isr (x ∷ more) low h k =
    let parts = or_parts (is_isr_of isr.cpu isr.level x) (stands_in more isr.cpu isr.level) k in
    (ne_eqb (place_of isr) (place_of x) (go (x.cpu.0 == isr.cpu.0) (x.level == isr.level) refl refl parts.0), apart names cpus isr more low h.1 parts.1)
  where
    go : (a b : Bool) → (x.cpu.0 == isr.cpu.0) ≡ a → (x.level == isr.level) ≡ b → (a && b) ≡ false → place_of isr ≡ place_of x → ⊥
    go true true p q e same = cc
    go true false p q e same = let other = eqb-false x.level isr.level q in let cpu = eqb-true x.cpu.0 isr.cpu.0 p in other (omega (arith, cpu, same))
    go false b p q e same =
        let other = eqb-false x.cpu.0 isr.cpu.0 p in let level = h.0.1 in other (omega (arith, level, low, same))

-- the places of interrupt routines that differ are distinct
distinct : (names : NameLists) (cpus : ℕ) (isrs : List Isr) → AllByRecursion (IsrFits names cpus) isrs → isrs_differ isrs ≡ true → IsDistinct eqb (places isrs)
unfolding IsDistinct
distinct names cpus [] h k = tt
distinct names cpus (isr ∷ more) h k =
    let parts = and_parts (not (stands_in more isr.cpu isr.level)) (isrs_differ more) k in
    (apart names cpus isr more h.0.1 h.1 (none (stands_in more isr.cpu isr.level) parts.0), distinct names cpus more h.1 parts.1)
  where
    none : (b : Bool) → not b ≡ true → b ≡ false
    none true e = cc
    none false e = refl

-- each place of an interrupt routine is below 1024, if there are at most 64 processors
below : (names : NameLists) (cpus : ℕ) (isrs : List Isr) → cpus ≤ 64 → AllByRecursion (IsrFits names cpus) isrs → (q : ℕ) →
    list_any (eqb q) (places isrs) ≡ true → q < 1024
below names cpus [] few h q e = absurd (false≢true e)
below names cpus (isr ∷ more) few h q e =
    elim (or_cases (eqb q (place_of isr)) (list_any (eqb q) (places more)) e) [
      | inl here ↦ (let same = eqb-true q (place_of isr) here in let cpu = h.0.0 in let level = h.0.1 in omega (arith, same, cpu, level, few))
      | inr later ↦ below names cpus more few h.1 q later
    ]

-- a script that fits has at most 1024 interrupt routines
isrs_few : (input : Input) → Fit input → length input.script.isrs ≤ 1024
isrs_few input f =
    let isrs = input.script.isrs in
    let most = length-le_from_distinct_below (places isrs) 1024 (distinct input.names input.script.cpus isrs f.isrs f.apart)
    (below input.names input.script.cpus isrs f.cpus.1 f.isrs) in
    let same = length-places isrs in
    omega (arith, most, same)

-- the line of an interrupt routine has at most 27 bytes
isr_line : (names : NameLists) (cpus : ℕ) (isr : Isr) → NamesAreShort names → cpus ≤ 64 → IsrFits names cpus isr → length (row_text (isr_row names isr)) ≤ 27
isr_line names cpus isr s few h =
    let p = h.0 in
    let level = h.1 in
    let a = low_width isr.cpu.0 (omega (arith, p, few)) in
    let b = low_width isr.level (omega (arith, level)) in
    let c = shown names.routines isr.routine.0 s.routines in
    row_most 27 (text_of keyword.Isr) (isr_args names isr) (omega (arith, a, b, c))

-- ---- things with their names

-- the keyword of a DPC, threaded or not, has at most 4 bytes
dpc_word : (threaded : Bool) → length (text_of (keyword.Dpc threaded)) ≤ 4
dpc_word true = omega arith
dpc_word false = omega arith

-- the line of a DPC has at most 39 bytes
dpc_line : (names : NameLists) (n : List ℕ) (d : DpcDecl) → NamesAreShort names → IsShort n → length (row_text (dpc_row names n d)) ≤ 39
dpc_line names n d s h =
    let a = dpc_word d.threaded in
    let b = shown names.routines d.routine.0 s.routines in
    row_most 39 (text_of (keyword.Dpc d.threaded)) (n ∷ dpc_args names d) (omega (arith, a, b, h))

-- the line of a timer has at most 40 bytes
timer_line : (names : NameLists) (n : List ℕ) (t : TimerDecl) → NamesAreShort names → IsShort n → length (row_text (timer_row names n t)) ≤ 40
timer_line names n t s h =
    let a = go t.dpc in row_most 40 (text_of keyword.Timer) (n ∷ timer_args names t) (omega (arith, a, h))
  where
    go : (o : Option DpcNo) → length (show_unless dash (show_dpc names) o) ≤ 16
    go None = omega arith
    go (Some d) = shown names.dpcs d.0 s.dpcs

-- the line of a thread has at most 44 bytes
thread_line : (names : NameLists) (cpus : ℕ) (n : List ℕ) (t : ThreadDecl) → NamesAreShort names → cpus ≤ 64 → IsShort n → ThreadFits names cpus t →
    length (row_text (thread_row names n t)) ≤ 44
thread_line names cpus n t s few h f =
    let p = f.0 in
    let a = low_width t.cpu.0 (omega (arith, p, few)) in
    let b = shown names.routines t.routine.0 s.routines in
    row_most 44 (text_of keyword.Thread) (n ∷ thread_args names t) (omega (arith, a, b, h))

-- the keyword of an APC has at most 7 bytes
apc_word : (k : ApcKind) → length (text_of (keyword.Apc k)) ≤ 7
apc_word Special = omega arith
apc_word Normal = omega arith
apc_word User = omega arith

-- the line of an APC has at most 93 bytes
apc_line : (names : NameLists) (n : List ℕ) (a : ApcDecl) → NamesAreShort names → IsShort n → length (row_text (apc_row names n a)) ≤ 93
apc_line names n a s h =
    let w = apc_word a.kind in
    let t = shown names.threads a.thread.0 s.threads in
    let k = shown names.routines a.kernel.0 s.routines in
    let x = normal a.normal in
    let y = rundown a.kind a.rundown in
    let both = width_both (normal_args names a.normal) (rundown_args names a.kind a.rundown) in
    row_most 93 (text_of (keyword.Apc a.kind)) (n ∷ apc_args names a) (omega (arith, w, t, k, x, y, both, h))
  where
    normal : (o : Option RoutineNo) → width (normal_args names o) ≤ 17
    normal None = omega arith
    normal (Some r) = let n = shown names.routines r.0 s.routines in omega (arith, n)

    shown_or_dash : (o : Option RoutineNo) → length (show_unless dash (show_routine names) o) ≤ 16
    shown_or_dash None = omega arith
    shown_or_dash (Some r) = shown names.routines r.0 s.routines

    rundown : (k : ApcKind) (o : Option RoutineNo) → width (rundown_args names k o) ≤ 17
    rundown Special o = omega arith
    rundown Normal o = omega arith
    rundown User o = let n = shown_or_dash o in omega (arith, n)

-- the line of a spin lock has at most 26 bytes
lock_line : (n : List ℕ) → IsShort n → length (row_text (lock_row n)) ≤ 26
lock_line n h = row_most 26 (text_of keyword.Spinlock) (n ∷ []) (omega (arith, h))

-- ---- routines

-- the lines of commands have at most 48 bytes for each command
commands_size : (names : NameLists) (cpus : ℕ) (cs : List Command) → NamesAreShort names → cpus ≤ 64 → AllByRecursion (CommandFits names cpus) cs →
    length (rows_text (map (command_row names) cs)) ≤ 48 * length cs
commands_size names cpus cs s few h =
    mapped_most (CommandFits names cpus) (command_row names) 48
    (λ c f. row_most 48 (text_of (keyword.Call (command_verb c))) (command_args names c) (command_width names cpus c s few f)) cs h

-- the lines of a routine have at most 30 bytes and 48 for each command
routine_size : (names : NameLists) (cpus : ℕ) (n : List ℕ) (r : Routine) → NamesAreShort names → cpus ≤ 64 → IsShort n →
    AllByRecursion (CommandFits names cpus) r.commands → length (rows_text (begun_rows names n r.commands ++ exit_row ∷ [])) ≤ 30 + 48 * length r.commands
routine_size names cpus n r s few h f =
    let begun = text_of keyword.Routine ∷ n ∷ [] in
    let first = row_most 25 (text_of keyword.Routine) (n ∷ []) (omega (arith, h)) in
    let last = row_most 5 (text_of keyword.Exit) [] (omega arith) in
    let end = one_size exit_row in
    let commands = commands_size names cpus r.commands s few f in
    let parts = size_both (begun_rows names n r.commands) (exit_row ∷ []) in
    let head = size_cons begun (map (command_row names) r.commands) in
    omega (arith, first, last, end, commands, parts, head)

-- the lines of all routines have at most 30 bytes for each routine and 48 for each command
routines_size : (names : NameLists) (cpus : ℕ) (ns : List (List ℕ)) (rs : List Routine) → NamesAreShort names → cpus ≤ 64 → AllByRecursion IsShort ns →
    AllByRecursion (λ r. AllByRecursion (CommandFits names cpus) r.commands) rs →
    length (rows_text (routine_rows names ns rs)) ≤ 30 * length rs + 48 * command_count rs
routines_size names cpus [] rs s few h f = omega arith
routines_size names cpus (n ∷ ns) [] s few h f = omega arith
routines_size names cpus (n ∷ ns) (r ∷ rs) s few h f =
    let one = routine_size names cpus n r s few h.0 f.0 in
    let more = routines_size names cpus ns rs s few h.1 f.1 in
    let parts = size_both (begun_rows names n r.commands ++ exit_row ∷ []) (routine_rows names ns rs) in
    let count : command_count (r ∷ rs) ≡ length r.commands + command_count rs = sum_by-cons (λ (r : Routine). length r.commands) r rs in
    omega (arith, one, more, parts, count)

-- ---- the whole

-- the text of a sound input has at most 500000 bytes
pub script_size : (input : Input) → IsSound input → length (text input) ≤ 500000
script_size input sound =
    let names = input.names in
    let script = input.script in
    let f = sound_fits input sound in
    let s = names_short input sound in
    let few = f.cpus.1 in
    let h = header_rows input.version script.cpus script.depth script.threaded in
    let i = map (isr_row names) script.isrs in
    let d = declared_rows (dpc_row names) names.dpcs script.dpcs in
    let t = declared_rows (timer_row names) names.timers script.timers in
    let y = declared_rows (thread_row names) names.threads script.threads in
    let a = declared_rows (apc_row names) names.apcs script.apcs in
    let k = map lock_row names.locks in
    let r = routine_rows names names.routines script.routines in
    let h0 = header_size input f in
    let i0 = mapped_most (IsrFits names script.cpus) (isr_row names) 27 (λ x g. isr_line names script.cpus x s few g) script.isrs f.isrs in
    let i1 = isrs_few input f in
    let d0 = declared_most IsShort (DpcFits names) (dpc_row names) 39 (λ n x g l. dpc_line names n x s g) names.dpcs script.dpcs s.dpcs f.dpcs in
    let t0 = declared_most IsShort (TimerFits names) (timer_row names) 40 (λ n x g l. timer_line names n x s g) names.timers script.timers s.timers f.timers in
    let y0 = declared_most IsShort (ThreadFits names script.cpus) (thread_row names) 44 (λ n x g l. thread_line names script.cpus n x s few g l)
    names.threads script.threads s.threads f.threads in
    let a0 = declared_most IsShort (ApcFits names) (apc_row names) 93 (λ n x g l. apc_line names n x s g) names.apcs script.apcs s.apcs f.apcs in
    let k0 = mapped_most IsShort lock_row 26 lock_line names.locks s.locks in
    let r0 = routines_size names script.cpus names.routines script.routines s few s.routines f.routines in
    let many = f.few in
    let p1 = size_both h (i ++ (d ++ (t ++ (y ++ (a ++ (k ++ r)))))) in
    let p2 = size_both i (d ++ (t ++ (y ++ (a ++ (k ++ r))))) in
    let p3 = size_both d (t ++ (y ++ (a ++ (k ++ r)))) in
    let p4 = size_both t (y ++ (a ++ (k ++ r))) in
    let p5 = size_both y (a ++ (k ++ r)) in
    let p6 = size_both a (k ++ r) in
    let p7 = size_both k r in
    let d1 : length script.dpcs ≤ 256 = omega (arith, many.dpcs, f.dpc_count) in
    let t1 : length script.timers ≤ 64 = omega (arith, many.timers, f.timer_count) in
    let y1 : length script.threads ≤ 64 = omega (arith, many.threads, f.thread_count) in
    let a1 : length script.apcs ≤ 256 = omega (arith, many.apcs, f.apc_count) in
    let r1 : length script.routines ≤ 256 = omega (arith, many.routines, f.routine_count) in
    omega (arith, h0, i0, i1, d0, t0, y0, a0, k0, r0, d1, t1, y1, a1, many.locks, r1, f.command_count, p1, p2, p3, p4, p5, p6, p7)
