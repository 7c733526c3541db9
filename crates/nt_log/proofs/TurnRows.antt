-- The line of a turn: what is read is written so, and what is written so is read.
use Rattle.std.proofs.Common.{◌≡◌, ◌∙◌, ℕ, zero, suc, ◌+◌, ◌<◌, ◌≤◌, Bool, true, false, List, [], ◌∷◌, length, get_or, map, replicate, Result, Ok, Err, refl}
use Rattle.std.proofs.Common.{sym, ap, subst, arith, lit<}
use Rattle.std.specs.Prelude.{codes, decimal, not, ◌||◌, ◌==◌, nat_lt, if◌then◌else◌}
use Rattle.std.specs.List.{list_any}
use Rattle.std.specs.Str.{bytes_eq}
use Rattle.std.proofs.lemmas.Bool.{and_parts, le-ltb, lt-ltb, ltb-false}
use Rattle.nt_text.specs.declared.kind.ScriptKind.{ScriptKind}
use Rattle.nt_text.specs.declared.kind.ScriptKind.TheVariants.{MissingField, TooMany, UnknownWord}
use Rattle.nt_text.specs.Lines.{Row, first, number_line, rest, row_of}
use Rattle.nt_text.specs.declared.kind.What10.TheVariants as what
use Rattle.nt_text.proofs.Decimals.{decimal_field, number_up_to_again}
use Rattle.nt_text.proofs.Rows.{row_again}
use Rattle.nt_event.specs.declared.events.Rises.{Rises}
use Rattle.nt_event.specs.declared.events.Turn.{Turn}
use Rattle.nt_event.specs.declared.events.Turn.TheVariants.{Next, Look, Switch}
use Rattle.nt_event.specs.declared.limits.TheConstants.{CPUS, EVENTS}
use Rattle.nt_event.specs.declared.numbers.CpuNo.{CpuNo}
use Rattle.nt_event.specs.declared.numbers.ThreadNo.{ThreadNo}
use Rattle.nt_event.specs.declared.scripts.Script.{Script}
use Rattle.nt_event.specs.Step.{cpu_at, turn_of}
use Rattle.nt_history.specs.declared.brief.Brief.{Brief}
use Rattle.nt_history.specs.Briefs.{event_in, events_in}
use Rattle.nt_line.specs.Commands.{read1, read2}
use Rattle.nt_line.specs.Fields.{read_cpu, read_thread}
use Rattle.nt_line.specs.NameLists.{show_thread}
use Rattle.nt_line.specs.Results.{ok_if, ◌>>=◌}
use Rattle.nt_line.specs.Rows.{show_cpu}
use Rattle.nt_line.proofs.FieldTexts.{cpu_takes, same_text}
use Rattle.nt_line.proofs.Found.{are_read}
use Rattle.nt_line.proofs.Results.{bind_ok}
use Rattle.nt_line.proofs.Spelled.{takes1, takes2}
use Rattle.nt_line.proofs.UsedNames.{thread_takes}
use Rattle.nt_script.specs.declared.walk.Input.{Input}
use Rattle.nt_script.specs.Reading.{counted}
use Rattle.nt_script.specs.Sound.{IsSound}
use Rattle.nt_script.proofs.Soundness.{sound_fits}
use Rattle.nt_script.proofs.Taken.{counted_ok}
use Rattle.nt_log.specs.Schedules.{AreRises, TurnIsPlain, rise_field, rises_row, turn_fields, turn_fits, turn_row, turn_word, turns_fit}
use Rattle.nt_log.specs.declared.walk.SchedulePlace.{SchedulePlace}
use Rattle.nt_log.specs.declared.walk.SchedulePlace.TheVariants.{InTurns}
use Rattle.nt_log.specs.declared.walk.ScheduleWalk.{ScheduleWalk}
use Rattle.nt_log.specs.Reading.{line_step, step, step_at, with_turn, read_look, read_next, read_rises, read_switch, read_turn, rises_from}
use Rattle.nt_log.proofs.Looks.{rises_again, rises_take}

abbrev pub ok : {A : Type 0} → A → Result A ScriptKind
ok x = Ok x

-- a reader of a turn that succeeds with one gives that turn
ok_is : {A : Type 0} (x y : A) → ok x ≡ Ok y → x ≡ y
ok_is x y e = cc

-- ---- what is read

-- the word and the fields of a line are those of a turn that a text may have
record Says (cpus : ℕ) (input : Input) (word : List ℕ) (args : Row) (t : Turn) : Type 0 where
  word_is : word ≡ turn_word t
  fields_are : args ≡ turn_fields input.names t
  plain : TurnIsPlain input t
  below : (cpu_at t).0 < cpus

-- fields that are read as a turn in which a processor does its next step are those of that turn
next_takes : (cpus : ℕ) (input : Input) → cpus ≤ CPUS → IsSound input → (args : Row) (t : Turn) → read_next cpus args ≡ Ok t →
    Says cpus input (codes "next") args t
next_takes cpus input most sound args t e =
    let k = bind_ok (counted (length args) 1) (λ (b : Bool). read1 (read_cpu cpus) Next args) t e in
    takes1 (cpu_takes cpus) (Says cpus input (codes "next")) Next
    (λ p h. record { word_is = refl; fields_are = refl; plain = omega (arith, h, most); below = h }) args t k.then (counted_ok (length args) 1 k.value k.is)

-- fields that are read as a switch to a thread are those of that switch, and the script has the thread
switch_takes : (cpus : ℕ) (input : Input) → cpus ≤ CPUS → IsSound input → (args : Row) (t : Turn) → read_switch cpus input.names args ≡ Ok t →
    Says cpus input (codes "switch") args t
switch_takes cpus input most sound args t e =
    let fit = sound_fits input sound in
    let len = fit.thread_count in
    let k = bind_ok (counted (length args) 2) (λ (b : Bool). read2 (read_cpu cpus) (read_thread input.names) Switch args) t e in
    takes2 (cpu_takes cpus) (thread_takes input.names fit.few) (Says cpus input (codes "switch")) Switch
    (λ p u h g. record { word_is = refl; fields_are = refl; plain = (omega (arith, h, most), omega (arith, g, len)); below = h }) args t k.then
    (counted_ok (length args) 2 k.value k.is)

-- a row of two or more fields is its first field and at least one other
two_there : (args : Row) → 2 ≤ length args → (args ≡ first args ∷ rest args) × (1 ≤ length (rest args))
two_there [] h = absurd (omega (arith, h))
two_there (a ∷ []) h = absurd (omega (arith, h))
two_there (a ∷ b ∷ args) h = (refl, omega arith)

-- fields that are read as a look are those of that look, with values in classes only
look_takes : (cpus : ℕ) (input : Input) → cpus ≤ CPUS → IsSound input → (args : Row) (t : Turn) → read_look cpus input.version args ≡ Ok t →
    Says cpus input (codes "look") args t
look_takes cpus input most sound args t e = go (nat_lt (length args) 2) refl e
  where
    go : (b : Bool) → nat_lt (length args) 2 ≡ b →
        (if b then Err MissingField else (read_cpu cpus (first args) >>= λ p. read_rises input.version (rest args) >>= λ r. ok (Look p r))) ≡ Ok t →
        Says cpus input (codes "look") args t
    go true few e = absurd cc
    go false few e =
        let there = two_there args (ltb-false (length args) 2 few) in
        let p = bind_ok (read_cpu cpus (first args)) (λ p. read_rises input.version (rest args) >>= λ r. ok (Look p r)) t e in
        let r = bind_ok (read_rises input.version (rest args)) (λ r. ok (Look p.value r)) t p.then in
        let v = bind_ok (rises_from input.version (replicate 16 0) 0 (rest args)) (λ (vs : List ℕ). ok {A = Rises} (record { value = vs })) r.value r.is in
        let risen = rises_take input.version (rest args) [] 16 0 v.value refl refl v.is in
        let values : v.value ≡ risen.tail = risen.is in
        let all : AreRises input.version (record { value = v.value }) = record {
          classes = ap length values ∙ risen.size;
          some = ap (list_any (λ n. not (n == 0))) values ∙ risen.some there.1;
          used = rw values risen.used;
          range = rw values risen.range;
        } in
        let below = (cpu_takes cpus).fits (first args) p.value p.is in
        let fields : args ≡ show_cpu p.value ∷ rises_row 0 v.value =
        there.0 ∙ ap (λ (f : List ℕ). f ∷ rest args) ((cpu_takes cpus).shown (first args) p.value p.is)
        ∙ ap (λ (fs : Row). show_cpu p.value ∷ fs) (risen.row_is ∙ ap (rises_row 0) (sym values)) in
        let look : Says cpus input (codes "look") args (Look p.value (record { value = v.value })) =
        record { word_is = refl; fields_are = fields; plain = (omega (arith, below, most), all); below = below } in
        subst (λ (t : Turn). Says cpus input (codes "look") args t)
        (ap (λ (r : Rises). Look p.value r) (ok_is {A = Rises} (record { value = v.value }) r.value v.then) ∙ ok_is (Look p.value r.value) t r.then) look

-- a row that was read is that of a turn that a text may have
pub record TurnTaken (cpus : ℕ) (input : Input) (row : Row) (t : Turn) : Type 0 where
  pub row_is : row ≡ turn_row input.names t
  pub plain : TurnIsPlain input t
  pub below : (cpu_at t).0 < cpus

-- fields that are read as a turn are the row of that turn, and the turn is one that a text may have
pub turn_takes : (cpus : ℕ) (input : Input) → cpus ≤ CPUS → IsSound input → (f : List ℕ) (args : Row) (t : Turn) →
    read_turn cpus input (f ∷ args) ≡ Ok t → TurnTaken cpus input (f ∷ args) t
turn_takes cpus input most sound f args t e =
    go (bytes_eq f (codes "next")) (bytes_eq f (codes "switch")) (bytes_eq f (codes "look")) refl refl refl e
  where
    said : (word : List ℕ) → f ≡ word → Says cpus input word args t → TurnTaken cpus input (f ∷ args) t
    said word is s = record {
      row_is = ap (λ (g : List ℕ). g ∷ args) (is ∙ s.word_is) ∙ ap (λ (fs : Row). turn_word t ∷ fs) s.fields_are;
      plain = s.plain;
      below = s.below;
    }

    go : (x y z : Bool) → bytes_eq f (codes "next") ≡ x → bytes_eq f (codes "switch") ≡ y → bytes_eq f (codes "look") ≡ z →
        (if x then read_next cpus args
        else (if y then read_switch cpus input.names args else (if z then read_look cpus input.version args else Err UnknownWord)))
        ≡ Ok t →
        TurnTaken cpus input (f ∷ args) t
    go true y z p q r e = said (codes "next") (same_text f (codes "next") p) (next_takes cpus input most sound args t e)
    go false true z p q r e = said (codes "switch") (same_text f (codes "switch") q) (switch_takes cpus input most sound args t e)
    go false false true p q r e = said (codes "look") (same_text f (codes "look") r) (look_takes cpus input most sound args t e)
    go false false false p q r e = absurd cc

-- ---- what is written

-- a processor below the count is read from how it is shown
any_cpu_read : (cpus : ℕ) (p : CpuNo) → p.0 ≤ 255 → p.0 < cpus → read_cpu cpus (show_cpu p) ≡ Ok p
any_cpu_read cpus p le lt = rw (number_up_to_again 255 p.0 (lit< tt) le, lt-ltb p.0 cpus lt) refl

-- the text of a processor up to 63 that is there is read as that processor
pub cpu_read : (cpus : ℕ) (p : CpuNo) → p.0 ≤ 63 → p.0 < cpus → read_cpu cpus (show_cpu p) ≡ Ok p
cpu_read cpus p le lt = any_cpu_read cpus p (omega (arith, le)) lt

-- a thread of the script is read from its name
thread_read : (input : Input) → IsSound input → (t : ThreadNo) → t.0 < length input.script.threads → read_thread input.names (show_thread input.names t) ≡ Ok t
thread_read input sound t lt =
    let fit = sound_fits input sound in
    let len = fit.thread_count in
    (are_read input.names fit.few fit.names).threads t (omega (arith, lt, len))

-- a step after one that gave a value goes on with that value
pub bind_is : {A B : Type 0} (r : Result A ScriptKind) (f : A → Result B ScriptKind) (x : A) → r ≡ Ok x → (r >>= f) ≡ f x
bind_is r f x e = ap (λ r. r >>= f) e

-- values that are not all zero are written as one field or more
some_rises : (class : ℕ) (vs : List ℕ) → list_any (λ v. not (v == 0)) vs ≡ true → 1 ≤ length (rises_row class vs)
some_rises class [] e = absurd cc
some_rises class (v ∷ vs) e = go (v == 0) e (λ h. some_rises (class + 1) vs h)
  where
    go : (b : Bool) → (not b || list_any (λ v. not (v == 0)) vs) ≡ true →
        (list_any (λ v. not (v == 0)) vs ≡ true → 1 ≤ length (rises_row (class + 1) vs)) →
        1 ≤ length (if b then rises_row (class + 1) vs else rise_field class v ∷ rises_row (class + 1) vs)
    go true e more = more e
    go false e more = omega arith

-- the fields of a look by a processor below the count are read as that look
look_again : (cpus ver : ℕ) (p : CpuNo) (r : Rises) → p.0 ≤ 63 → AreRises ver r → p.0 < cpus →
    read_look cpus ver (show_cpu p ∷ rises_row 0 r.value) ≡ Ok (Look p r)
look_again cpus ver p r le all lt =
    let there = some_rises 0 r.value all.some in
    let many : nat_lt (length (show_cpu p ∷ rises_row 0 r.value)) 2 ≡ false = le-ltb (length (show_cpu p ∷ rises_row 0 r.value)) 2 (omega (arith, there)) in
    let size = all.classes in
    let same : ◌≡◌ {A = List ℕ} (replicate 16 0) (replicate (length r.value) 0) = ap (λ (n : ℕ). replicate n 0) (sym size) in
    let values : rises_from ver (replicate 16 0) 0 (rises_row 0 r.value) ≡ Ok r.value =
    ap (λ (vs : List ℕ). rises_from ver vs 0 (rises_row 0 r.value)) same
    ∙ rises_again ver r.value [] 0 0 refl (omega arith) (omega (arith, size)) all.used all.range in
    rw many
    (bind_is (read_cpu cpus (show_cpu p)) (λ p. read_rises ver (rises_row 0 r.value) >>= λ r. ok (Look p r)) p (cpu_read cpus p le lt)
    ∙ bind_is (read_rises ver (rises_row 0 r.value)) (λ r. ok (Look p r)) r
    (bind_is (rises_from ver (replicate 16 0) 0 (rises_row 0 r.value)) (λ (vs : List ℕ). ok {A = Rises} (record { value = vs })) r.value values))

-- the row of a turn that a text may have, of a processor that is there, is read as that turn
pub turn_again : (cpus : ℕ) (input : Input) → IsSound input → (t : Turn) → TurnIsPlain input t → (cpu_at t).0 < cpus →
    read_turn cpus input (turn_row input.names t) ≡ Ok t
turn_again cpus input sound (Next p) h lt = bind_is (read_cpu cpus (show_cpu p)) (λ p. ok (Next p)) p (cpu_read cpus p h lt)
turn_again cpus input sound (Look p r) h lt = look_again cpus input.version p r h.0 h.1 lt
turn_again cpus input sound (Switch p t) h lt =
    bind_is (read_cpu cpus (show_cpu p)) (λ p. read_thread input.names (show_thread input.names t) >>= λ t. ok (Switch p t)) p (cpu_read cpus p h.0 lt)
    ∙ bind_is (read_thread input.names (show_thread input.names t)) (λ t. ok (Switch p t)) t (thread_read input sound t h.1)

-- the line of a turn that is neither a look nor a switch, among turns, where there is room for one more
pub next_line_read : (cpus : ℕ) (input : Input) (w : ScheduleWalk) (n : ℕ) → n < 100 → n < cpus → w.place ≡ InTurns → length w.schedule.list < EVENTS →
    line_step cpus input w (number_line (codes "next ") n) ≡ ok (with_turn w (Next (record { 0 = n })))
next_line_read cpus input w n few lt place room =
    let p : CpuNo = record { 0 = n } in
    let row : Row = codes "next" ∷ decimal n ∷ [] in
    let read : row_of (number_line (codes "next ") n) ≡ Ok row = row_again row (refl, (decimal_field n (omega (arith, few)), tt)) in
    let turn : read_turn cpus input row ≡ ok (Next p) =
    bind_is (read_cpu cpus (show_cpu p)) (λ p. ok (Next p)) p (any_cpu_read cpus p (omega (arith, few)) lt) in
    bind_is (row_of (number_line (codes "next ") n)) (step cpus input w) row read
    ∙ ap (λ (q : SchedulePlace). step_at q cpus input w row) place
    ∙ bind_is (read_turn cpus input row) (λ turn. ok_if (nat_lt (length w.schedule.list) EVENTS) (with_turn w turn) (TooMany what.Turns)) (Next p) turn
    ∙ ap (λ (b : Bool). ok_if b (with_turn w (Next p)) (TooMany what.Turns)) (lt-ltb (length w.schedule.list) EVENTS room)

-- ---- the turns of events

-- the turn of an event, where the turns of the events of these briefs fit
pub each_fits : (s : Script) (bs : List Brief) (rises : List Rises) (i : ℕ) (b : Brief) → i < length bs →
    turns_fit s (map turn_of (events_in bs rises)) ≡ true → turn_fits s (turn_of (event_in rises (get_or bs i b))) ≡ true
each_fits s [] rises i b lt h = absurd (omega (arith, lt))
each_fits s (x ∷ bs) rises zero b lt h = (and_parts (turn_fits s (turn_of (event_in rises x))) (turns_fit s (map turn_of (events_in bs rises))) h).0
each_fits s (x ∷ bs) rises (suc i) b lt h =
    let rest = and_parts (turn_fits s (turn_of (event_in rises x))) (turns_fit s (map turn_of (events_in bs rises))) h in
    each_fits s bs rises i b (omega (arith, lt)) rest.1
