-- A text is the text of one schedule.
use Rattle.std.proofs.Common.{◌≡◌, ◌∙◌, ℕ, zero, suc, ◌+◌, ◌^◌, ◌<◌, ◌≤◌, Bool, true, false, List, [], ◌∷◌, ◌++◌, length, get_or, map, refl, sym, ap, arith}
use Rattle.std.proofs.Common.{rules}
use Rattle.std.specs.Prelude.{All, decimal, ◌&&◌, ◌==◌, nat_le, if◌then◌else◌}
use Rattle.std.specs.Char.{is_ascii_digit}
use Rattle.std.specs.List.{AllByRecursion, list_all}
use Rattle.std.specs.Str.{all_ascii_digits}
use Rattle.std.proofs.lemmas.Bool.{and_from, and_parts, eqb-true, leb-true, ne_eqb}
use Rattle.std.proofs.lemmas.Fmt.{digits_decimal}
use Rattle.std.proofs.lemmas.List.Folds.{list_all-append}
use Rattle.std.proofs.lemmas.List.Splits.{slice_split_at, slice_split_none}
use Rattle.std.proofs.lemmas.Str.Parse.{IsNumeralModel, numerals_by_fold}
use Rattle.nt_text.specs.Lines.{AllRows, IsRow, is_byte, is_field, parts}
use Rattle.nt_text.proofs.Decimals.{decimal_field, read_on}
use Rattle.nt_event.specs.declared.events.Rises.{Rises}
use Rattle.nt_event.specs.declared.events.Turn.{Turn}
use Rattle.nt_event.specs.declared.events.Turn.TheVariants.{Next, Look, Switch}
use Rattle.nt_event.specs.declared.numbers.CpuNo.{CpuNo}
use Rattle.nt_event.specs.declared.numbers.ThreadNo.{ThreadNo}
use Rattle.nt_event.specs.Numbers.{cpu}
use Rattle.nt_script.specs.declared.walk.Input.{Input}
use Rattle.nt_line.specs.NameLists.{show_thread}
use Rattle.nt_line.specs.Fields.{read_thread}
use Rattle.nt_script.specs.Sound.{IsSound}
use Rattle.nt_text.specs.Lines.{Row}
use Rattle.nt_line.specs.Rows.{show_cpu}
use Rattle.nt_script.proofs.Clean.{rows_both, thread_field}
use Rattle.nt_line.proofs.Found.{are_read}
use Rattle.nt_script.proofs.Soundness.{sound_fits}
use Rattle.nt_log.specs.declared.schedules.Schedule.{Schedule}
use Rattle.nt_event.specs.declared.limits.TheConstants.{TURNS}
use Rattle.nt_log.specs.Schedules.{IsPlain, IsTextOf, TurnIsPlain, done_row, limit_row, rise_field, rises_row, schedule_rows, turn_bound, turn_row}
use Rattle.nt_log.proofs.OneRow.{decimal_one, map_one, map_rows, all_map, read_one, row_from, rows_one, split_one}

-- ---- things

-- processors that are written the same are the same
pub cpu_one : (p q : CpuNo) → p.0 < 2 ^ 64 → q.0 < 2 ^ 64 → show_cpu p ≡ show_cpu q → p ≡ q
cpu_one p q lp lq e = ap cpu (decimal_one p.0 q.0 lp lq e)

-- threads of a sound input that are written with the same name are the same
pub thread_one : (input : Input) → IsSound input → (t u : ThreadNo) → t.0 < length input.script.threads → u.0 < length input.script.threads →
    show_thread input.names t ≡ show_thread input.names u → t ≡ u
thread_one input s t u lt lu e =
    let fit = sound_fits input s in
    let are = are_read input.names fit.few fit.names in
    let len = s.threads in
    read_one (read_thread input.names) (show_thread input.names t) (show_thread input.names u) t u (are.threads t (omega (arith, lt, len)))
    (are.threads u (omega (arith, lu, len))) e

-- ---- values that rise

-- decimal digits, read from the left, are numerals with the value read
own : IsNumeralModel (λ ds. all_ascii_digits ds ≡ true) (read_on 0)
own = numerals_by_fold _ (search rules) read_on (search rules)

-- decimal digits have no equals sign among them
no_equals : (ds : List ℕ) → all_ascii_digits ds ≡ true → All (λ b. is_byte 61 b ≡ false) ds
no_equals [] e k d h = absurd (omega arith)
no_equals (c ∷ cs) e zero d h =
    let p = and_parts (is_ascii_digit c) (all_ascii_digits cs) e in
    let q = and_parts (nat_le 48 c) (nat_le c 57) p.0 in
    let most = leb-true c 57 q.1 in
    ne_eqb c 61 (λ z. omega (arith, most))
no_equals (c ∷ cs) e (suc k) d h = let p = and_parts (is_ascii_digit c) (all_ascii_digits cs) e in no_equals cs p.1 k d (omega arith)

-- a class and a value are the parts of their field
pub rise_parts : (c v : ℕ) → c < 2 ^ 64 → v < 2 ^ 64 → parts 61 (rise_field c v) ≡ decimal c ∷ decimal v ∷ []
rise_parts c v lc lv =
    slice_split_at (is_byte 61) (decimal c) 61 (decimal v) (no_equals (decimal c) (digits_decimal own c lc)) refl
    ∙ ap (λ (r : List (List ℕ)). decimal c ∷ r) (slice_split_none (is_byte 61) (decimal v) (no_equals (decimal v) (digits_decimal own v lv)))

-- the field of a class and its value, both of 64 bits, is that of no other class or value
rise_one : (c v d w : ℕ) → c < 2 ^ 64 → v < 2 ^ 64 → d < 2 ^ 64 → w < 2 ^ 64 → rise_field c v ≡ rise_field d w → (c ≡ d) × (v ≡ w)
rise_one c v d w lc lv ld lw e =
    let both : decimal c ∷ decimal v ∷ [] ≡ decimal d ∷ decimal w ∷ [] = sym (rise_parts c v lc lv) ∙ ap (parts 61) e ∙ rise_parts d w ld lw in
    let first : decimal c ≡ decimal d = cc in
    let second : decimal v ≡ decimal w = cc in
    (decimal_one c d lc ld first, decimal_one v w lv lw second)

abbrev pub AreWords : List ℕ → Type 0
AreWords vs = AllByRecursion (λ v. v ≤ 18446744073709551615) vs

-- a row of values of greater classes does not begin with this one
none_below : (c w k : ℕ) (vs : List ℕ) (fs : Row) → c < k → k + length vs < 2 ^ 64 → w < 2 ^ 64 → AreWords vs → rises_row k vs ≡ rise_field c w ∷ fs → c ≡ k
none_below c w k [] fs lt few lw h e = absurd cc
none_below c w k (v ∷ vs) fs lt few lw h e = go (v == 0) e (none_below c w (k + 1) vs fs (omega (arith, lt)) (omega (arith, few)) lw h.1)
  where
    go : (b : Bool) → (if b then rises_row (k + 1) vs else rise_field k v ∷ rises_row (k + 1) vs) ≡ rise_field c w ∷ fs →
        (rises_row (k + 1) vs ≡ rise_field c w ∷ fs → c ≡ k + 1) → c ≡ k
    go true e more = let no = more e in absurd (omega (arith, no, lt))
    go false e more =
        let head : rise_field k v ≡ rise_field c w = cc in
        let r = rise_one k v c w (omega (arith, few)) (omega (arith, h.0)) (omega (arith, lt, few)) lw head in
        sym r.0

-- equally many values of 64 bits that are written as the same fields are the same values
rises_one : (k : ℕ) (vs ws : List ℕ) → length vs ≡ length ws → k + length vs < 2 ^ 64 → AreWords vs → AreWords ws → rises_row k vs ≡ rises_row k ws → vs ≡ ws
rises_one k [] [] l few h g e = refl
rises_one k [] (w ∷ ws) l few h g e = absurd (omega (arith, l))
rises_one k (v ∷ vs) [] l few h g e = absurd (omega (arith, l))
rises_one k (v ∷ vs) (w ∷ ws) l few h g e = go (v == 0) (w == 0) refl refl e (λ r. rises_one (k + 1) vs ws (omega (arith, l)) (omega (arith, few)) h.1 g.1 r)
  where
    lw : w < 2 ^ 64
    lw = omega (arith, g.0)

    lv : v < 2 ^ 64
    lv = omega (arith, h.0)

    go : (a b : Bool) → (v == 0) ≡ a → (w == 0) ≡ b → (if a then rises_row (k + 1) vs else rise_field k v ∷ rises_row (k + 1) vs)
        ≡ (if b then rises_row (k + 1) ws else rise_field k w ∷ rises_row (k + 1) ws) → (rises_row (k + 1) vs ≡ rises_row (k + 1) ws → vs ≡ ws) → v ∷ vs
        ≡ w ∷ ws
    go true true i j r others =
        let head : v ≡ w = eqb-true v 0 i ∙ sym (eqb-true w 0 j) in
        let more : vs ≡ ws = others r in
        cc
    go true false i j r others = let no = none_below k w (k + 1) vs (rises_row (k + 1) ws) (omega arith) (omega (arith, few)) lw h.1 r in
        absurd (omega (arith, no))
    go false true i j r others = let no = none_below k v (k + 1) ws (rises_row (k + 1) vs) (omega arith) (omega (arith, few, l)) lv g.1 (sym r) in
        absurd (omega (arith, no))
    go false false i j r others =
        let first : rise_field k v ≡ rise_field k w = cc in
        let more : rises_row (k + 1) vs ≡ rises_row (k + 1) ws = cc in
        let head : v ≡ w = (rise_one k v k w (omega (arith, few)) lv (omega (arith, few)) lw first).1 in
        let rest : vs ≡ ws = others more in
        cc

-- looks with the same list of values are the same
rises_same : (r s : Rises) → r.value ≡ s.value → r ≡ s
rises_same r s e = ap (λ (v : List ℕ). record { value = v }) e

-- ---- turns

-- the first byte of a row's first field, and 0 if there is none
first_byte : Row → ℕ
first_byte row = get_or (get_or row 0 []) 0 0

-- turns that are written as the same row are the same
pub turn_one : (input : Input) → IsSound input → (t u : Turn) → TurnIsPlain input t → TurnIsPlain input u → turn_row input.names t
    ≡ turn_row input.names u → t ≡ u
unfolding first_byte
turn_one input s (Next p) (Next q) h k e =
    let field : show_cpu p ≡ show_cpu q = cc in
    ap (λ (p : CpuNo). Next p) (cpu_one p q (omega (arith, h)) (omega (arith, k)) field)
turn_one input s (Look p r) (Look q v) h k e =
    let field : show_cpu p ≡ show_cpu q = cc in
    let values : rises_row 0 r.value ≡ rises_row 0 v.value = cc in
    let few = h.1.classes in
    let few2 = k.1.classes in
    let same : r ≡ v = rises_same r v (rises_one 0 r.value v.value (few ∙ sym few2) (omega (arith, few)) h.1.range k.1.range values) in
    let by : p ≡ q = cpu_one p q (omega (arith, h.0)) (omega (arith, k.0)) field in
    cc
turn_one input s (Switch p t) (Switch q u) h k e =
    let field : show_cpu p ≡ show_cpu q = cc in
    let name : show_thread input.names t ≡ show_thread input.names u = cc in
    let by : p ≡ q = cpu_one p q (omega (arith, h.0)) (omega (arith, k.0)) field in
    let taken : t ≡ u = thread_one input s t u h.1 k.1 name in
    cc
turn_one input s t u h k e = absurd (omega (arith, ap first_byte e))

-- a class and its value, both of 64 bits, are written as a field
rise_clean : (c v : ℕ) → c < 2 ^ 64 → v < 2 ^ 64 → is_field (rise_field c v) ≡ true
rise_clean c v lc lv =
    list_all-append (λ b. nat_le 33 b && nat_le b 126) (decimal c) (61 ∷ decimal v)
    ∙ and_from (is_field (decimal c)) (is_field (61 ∷ decimal v)) (decimal_field c lc) (decimal_field v lv)

-- values of 64 bits are written as a list of fields
rises_clean : (k : ℕ) (vs : List ℕ) → k + length vs < 2 ^ 64 → AreWords vs → list_all is_field (rises_row k vs) ≡ true
rises_clean k [] few h = refl
rises_clean k (v ∷ vs) few h = go (v == 0) (rises_clean (k + 1) vs (omega (arith, few)) h.1)
  where
    go : (b : Bool) → list_all is_field (rises_row (k + 1) vs) ≡ true →
        list_all is_field (if b then rises_row (k + 1) vs else rise_field k v ∷ rises_row (k + 1) vs) ≡ true
    go true more = more
    go false more = and_from (is_field (rise_field k v)) (list_all is_field (rises_row (k + 1) vs))
        (rise_clean k v (omega (arith, few)) (omega (arith, h.0))) more

-- the row of a turn that a text may have is a row of fields
pub turn_clean : (input : Input) → IsSound input → (t : Turn) → TurnIsPlain input t → IsRow (turn_row input.names t)
turn_clean input s (Next p) h = (refl, (decimal_field p.0 (omega (arith, h)), tt))
turn_clean input s (Look p r) h =
    let few = h.1.classes in
    (refl, row_from (show_cpu p) (rises_row 0 r.value) (decimal_field p.0 (omega (arith, h.0))) (rises_clean 0 r.value (omega (arith, few)) h.1.range))
turn_clean input s (Switch p t) h =
    let fit = sound_fits input s in
    let len = s.threads in
    (refl, (decimal_field p.0 (omega (arith, h.0)), (thread_field input.names fit.names t.0 (omega (arith, h.1, len)), tt)))

-- ---- the whole

-- a bound of the turn limit is at most the greatest limit
pub most_turns : (cpus : ℕ) → turn_bound cpus ≤ TURNS
most_turns cpus = go (nat_le cpus 8)
  where
    go : (b : Bool) → (if b then TURNS else 2500) ≤ TURNS
    go true = omega arith
    go false = omega arith

-- the rows of a schedule that a text may have are rows of fields
pub schedule_clean : (input : Input) → IsSound input → (s : Schedule) → IsPlain input s → AllRows (schedule_rows input.names s)
schedule_clean input sound s plain =
    let most = plain.limit.1 in
    let bound = most_turns input.script.cpus in (
      (refl, (decimal_field s.turns (omega (arith, most, bound)), tt)),
      rows_both (map (turn_row input.names) s.list) (done_row ∷ [])
          (map_rows (TurnIsPlain input) (turn_row input.names) (turn_clean input sound) s.list plain.turns) ((refl, tt), tt),
    )

-- whether a row begins with the letter of the word that ends the schedule
is_done : Row → Bool
is_done row = first_byte row == 100

-- the row of a turn does not begin with the letter of the word that ends the schedule
no_turn_is_done : (input : Input) (t : Turn) → TurnIsPlain input t → is_done (turn_row input.names t) ≡ false
unfolding is_done first_byte
no_turn_is_done input (Next p) h = refl
no_turn_is_done input (Look p r) h = refl
no_turn_is_done input (Switch p t) h = refl

abbrev schedule : ℕ → List Turn → Schedule
schedule n xs = record { turns = n; list = xs }

-- schedules with the same turn limit and the same turns are the same
schedule_same : (s r : Schedule) → s.turns ≡ r.turns → s.list ≡ r.list → s ≡ r
schedule_same s r turns list = ap (λ (n : ℕ). schedule n s.list) turns ∙ ap (λ (xs : List Turn). schedule r.turns xs) list

-- schedules that are written as the same rows are the same
pub turns_one : (input : Input) → IsSound input → (s r : Schedule) → IsPlain input s → IsPlain input r → schedule_rows input.names s
    ≡ schedule_rows input.names r → s ≡ r
unfolding is_done first_byte
turns_one input sound s r h k e =
    let head : limit_row s.turns ≡ limit_row r.turns = cc in
    let limit : decimal s.turns ≡ decimal r.turns = cc in
    let more : map (turn_row input.names) s.list ++ done_row ∷ [] ≡ map (turn_row input.names) r.list ++ done_row ∷ [] = cc in
    let P = TurnIsPlain input in
    let row = turn_row input.names in
    let clean : (xs : List Turn) → AllByRecursion P xs →
    AllByRecursion (λ z. is_done z ≡ false) (map row xs) = all_map P (λ z. is_done z ≡ false) row (no_turn_is_done input) in
    let lists : map row s.list ≡ map row r.list = (split_one is_done (map row s.list) (map row r.list) done_row done_row [] [] (clean s.list h.turns)
    (clean r.list k.turns) refl refl more).0 in
    let same : s.list ≡ r.list = map_one P row (turn_one input sound) s.list r.list h.turns k.turns lists in
    let most = h.limit.1 in
    let most2 = k.limit.1 in
    let bound = most_turns input.script.cpus in
    schedule_same s r (decimal_one s.turns r.turns (omega (arith, most, bound)) (omega (arith, most2, bound)) limit) same

-- bytes are the text of one schedule at most, for one input
pub one_schedule : (bytes : List ℕ) (input : Input) (s r : Schedule) → IsTextOf bytes input s → IsTextOf bytes input r → s ≡ r
one_schedule bytes input s r h k =
    turns_one input h.sound s r h.plain k.plain
    (rows_one (schedule_rows input.names s) (schedule_rows input.names r) (schedule_clean input h.sound s h.plain) (schedule_clean input h.sound r k.plain)
    (sym h.text ∙ k.text))
