-- The lines of a schedule are read as it, and what is read is a schedule with these lines.
use Rattle.std.proofs.Common.{◌≡◌, ◌∙◌, ℕ, ◌+◌, ◌≤◌, Bool, true, false, List, [], ◌∷◌, ◌++◌, length, map, Result, Ok, Err, refl, sym, ap, subst, append_assoc}
use Rattle.std.proofs.Common.{append-nil, arith, lit<}
use Rattle.std.specs.Prelude.{codes, decimal, not, ◌==◌, nat_lt, if◌then◌else◌}
use Rattle.std.specs.List.{AllByRecursion}
use Rattle.std.specs.Str.{bytes_eq}
use Rattle.std.proofs.lemmas.Bool.{lt-ltb, ltb-true, ne_eqb}
use Rattle.std.proofs.lemmas.List.{length-append}
use Rattle.nt_text.specs.declared.kind.ScriptKind.{ScriptKind}
use Rattle.nt_text.specs.declared.kind.ScriptKind.TheVariants.{BadNumber, TooMany, UnknownWord}
use Rattle.nt_text.specs.declared.kind.What10.TheVariants as what
use Rattle.nt_text.specs.Lines.{Row, first, line_of, rest, row_of}
use Rattle.nt_text.proofs.Decimals.{decimal_field}
use Rattle.nt_text.proofs.Rows.{row_again, row_takes}
use Rattle.nt_event.specs.declared.events.Turn.{Turn}
use Rattle.nt_event.specs.declared.events.Turn.TheVariants.{Next, Look, Switch}
use Rattle.nt_event.specs.declared.limits.TheConstants.{CPUS, EVENTS, TURNS}
use Rattle.nt_line.specs.Fields.{read_number}
use Rattle.nt_line.specs.Results.{◌>>=◌, ok_if}
use Rattle.nt_line.proofs.FieldTexts.{number_again, number_takes, same_text}
use Rattle.nt_line.proofs.Results.{bind_ok, ok_if_ok}
use Rattle.nt_script.specs.declared.walk.Input.{Input}
use Rattle.nt_script.specs.Reading.{counted, go_on}
use Rattle.nt_script.specs.Sound.{IsSound}
use Rattle.nt_script.proofs.Taken.{counted_ok, one_field}
use Rattle.nt_log.specs.declared.schedules.Schedule.{Schedule}
use Rattle.nt_log.specs.declared.walk.ScheduleWalk.{ScheduleWalk}
use Rattle.nt_log.specs.declared.walk.SchedulePlace.TheVariants.{InTurns, Done}
use Rattle.nt_log.specs.Schedules.{AreBelow, IsPlain, TurnIsPlain, done_row, limit_row, schedule_rows, turn_bound, turn_row}
use Rattle.nt_log.specs.Reading.{first_step, line_step, read_limit, read_turn, start, step, turn_step, walk}
use Rattle.nt_log.proofs.OneSchedule.{most_turns, turn_clean}
use Rattle.nt_log.proofs.TurnRows.{bind_is, turn_again, turn_takes}

abbrev ok : {A : Type 0} → A → Result A ScriptKind
ok x = Ok x

-- a schedule reader that succeeds with a value gives that value
ok_is : {A : Type 0} (x y : A) → ok x ≡ Ok y → x ≡ y
ok_is x y e = cc

abbrev TextLine : Type 0
TextLine = List ℕ × Bool

-- behind the first line
abbrev in_turns : ℕ → List Turn → ScheduleWalk
in_turns turns list = record { schedule = record { turns = turns; list = list }; place = InTurns }

-- behind the last line
abbrev at_end : ℕ → List Turn → ScheduleWalk
at_end turns list = record { schedule = record { turns = turns; list = list }; place = Done }

-- ---- what is read

-- the walk went on
record Went (cpus : ℕ) (input : Input) (w : ScheduleWalk) (n : ℕ) (line : TextLine) (more : List TextLine) (s : Schedule) : Type 0 where
  new : ScheduleWalk
  row : Row
  line_is : line ≡ line_of row
  steps : step cpus input w row ≡ Ok new
  goes_on : walk cpus input new (n + 1) more ≡ Ok s

-- a walk over a line and more that makes a schedule took the line and went on with the others
went : (cpus : ℕ) (input : Input) (w : ScheduleWalk) (n : ℕ) (line : TextLine) (more : List TextLine) (s : Schedule) →
    walk cpus input w n (line ∷ more) ≡ Ok s → Went cpus input w n line more s
went cpus input w n line more s e = go (line_step cpus input w line) refl e
  where
    go : (r : Result ScheduleWalk ScriptKind) → line_step cpus input w line ≡ r → go_on n r (λ new. walk cpus input new (n + 1) more) ≡ Ok s →
        Went cpus input w n line more s
    go (Err kind) is e = absurd cc
    go (Ok new) is e =
        let b = bind_ok (row_of line) (step cpus input w) new is in
        record { new = new; row = b.value; line_is = row_takes line b.value b.is; steps = b.then; goes_on = e }

-- no line comes behind the last
ended : (cpus : ℕ) (input : Input) (turns : ℕ) (list : List Turn) (n : ℕ) (ls : List TextLine) (s : Schedule) →
    walk cpus input (at_end turns list) n ls ≡ Ok s → (ls ≡ []) × (s ≡ record { turns = turns; list = list })
ended cpus input turns list n [] s e = (refl, cc)
ended cpus input turns list n (line ∷ more) s e = let t = went cpus input (at_end turns list) n line more s e in let no = t.steps in absurd cc

-- the row of this word and no field
word_alone : (row : Row) (word : List ℕ) → 1 ≤ length word → first row ≡ word → length (rest row) ≡ 0 → row ≡ word ∷ []
word_alone [] word there is none = absurd (let e = ap length is in omega (arith, there, e))
word_alone (f ∷ []) word there is none = ap (λ (g : List ℕ). g ∷ []) is
word_alone (f ∷ g ∷ row) word there is none = absurd (omega (arith, none))

-- the rows behind the first, and the turns that they are
record TurnsTaken (cpus : ℕ) (input : Input) (turns : ℕ) (list : List Turn) (ls : List TextLine) (s : Schedule) : Type 0 where
  tail : List Turn
  is : s ≡ record { turns = turns; list = list ++ tail }
  lines_are : ls ≡ map line_of (map (turn_row input.names) tail ++ done_row ∷ [])
  plain : AllByRecursion (TurnIsPlain input) tail
  below : AreBelow cpus tail
  few : length (list ++ tail) ≤ EVENTS

-- an empty row is no turn
no_turn : {A : Type 0} (cpus : ℕ) (input : Input) (t : Turn) → read_turn cpus input [] ≡ Ok t → A
no_turn cpus input t e = absurd cc

-- the lines of a walk in the turns that makes a schedule are those of further turns and the line of the end
turns_take : (cpus : ℕ) (input : Input) → cpus ≤ CPUS → IsSound input → (ls : List TextLine) (turns : ℕ) (list : List Turn) (n : ℕ) (s : Schedule) →
    length list ≤ EVENTS → walk cpus input (in_turns turns list) n ls ≡ Ok s → TurnsTaken cpus input turns list ls s
turns_take cpus input most sound [] turns list n s few e = absurd cc
turns_take cpus input most sound (line ∷ more) turns list n s few e =
    let t = went cpus input (in_turns turns list) n line more s e in
    go t.row t.new t.line_is (bytes_eq (first t.row) (codes "done")) refl t.steps t.goes_on
    (λ other l h. turns_take cpus input most sound more turns other (n + 1) s l h)
  where
    last : (row : Row) (new : ScheduleWalk) → line ≡ line_of row → bytes_eq (first row) (codes "done") ≡ true →
        (counted (length (rest row)) 0 >>= λ _. ok (at_end turns list)) ≡ Ok new → walk cpus input new (n + 1) more ≡ Ok s →
        TurnsTaken cpus input turns list (line ∷ more) s
    last row new line_is is steps goes =
        let k = bind_ok (counted (length (rest row)) 0) (λ (b : Bool). ok (at_end turns list)) new steps in
        let none = counted_ok (length (rest row)) 0 k.value k.is in
        let row_is : row ≡ done_row = word_alone row (codes "done") (omega arith) (same_text (first row) (codes "done") is) none in
        let now : walk cpus input (at_end turns list) (n + 1) more ≡ Ok s =
        ap (λ (w : ScheduleWalk). walk cpus input w (n + 1) more) (ok_is (at_end turns list) new k.then) ∙ goes in
        let r = ended cpus input turns list (n + 1) more s now in
        record {
          tail = [];
          is = r.1 ∙ ap (λ (xs : List Turn). record { turns = turns; list = xs }) (sym (append-nil list));
          lines_are = ap (λ (l : TextLine). l ∷ more) (line_is ∙ ap line_of row_is) ∙ ap (λ (ls : List TextLine). line_of done_row ∷ ls) r.0;
          plain = tt;
          below = tt;
          few = subst (λ (xs : List Turn). length xs ≤ EVENTS) (sym (append-nil list)) few;
        }

    turn : (row : Row) (new : ScheduleWalk) → line ≡ line_of row →
        (read_turn cpus input row >>= λ t. ok_if (nat_lt (length list) EVENTS) (in_turns turns (list ++ t ∷ [])) (TooMany what.Turns)) ≡ Ok new →
        walk cpus input new (n + 1) more ≡ Ok s →
        ((other : List Turn) → length other ≤ EVENTS → walk cpus input (in_turns turns other) (n + 1) more ≡ Ok s →
        TurnsTaken cpus input turns other more s) → TurnsTaken cpus input turns list (line ∷ more) s
    turn [] new line_is steps goes rec =
        let b = bind_ok (read_turn cpus input [])
        (λ t. ok_if (nat_lt (length list) EVENTS) (in_turns turns (list ++ t ∷ [])) (TooMany what.Turns)) new steps in
        no_turn cpus input b.value b.is
    turn (f ∷ args) new line_is steps goes rec =
        let b = bind_ok (read_turn cpus input (f ∷ args))
        (λ t. ok_if (nat_lt (length list) EVENTS) (in_turns turns (list ++ t ∷ [])) (TooMany what.Turns)) new steps in
        let t = b.value in
        let o = ok_if_ok (nat_lt (length list) EVENTS) (in_turns turns (list ++ t ∷ [])) (TooMany what.Turns) new b.then in
        let taken = turn_takes cpus input most sound f args t b.is in
        let room = ltb-true (length list) EVENTS o.0 in
        let size = length-append list (t ∷ []) in
        let now : walk cpus input (in_turns turns (list ++ t ∷ [])) (n + 1) more ≡ Ok s =
        ap (λ (w : ScheduleWalk). walk cpus input w (n + 1) more) o.1 ∙ goes in
        let r = rec (list ++ t ∷ []) (omega (arith, room, size)) now in
        let regrouped : (list ++ t ∷ []) ++ r.tail ≡ list ++ t ∷ r.tail = append_assoc list (t ∷ []) r.tail in
        record {
          tail = t ∷ r.tail;
          is = r.is ∙ ap (λ (xs : List Turn). record { turns = turns; list = xs }) regrouped;
          lines_are = ap (λ (l : TextLine). l ∷ more) (line_is ∙ ap line_of taken.row_is)
              ∙ ap (λ (ls : List TextLine). line_of (turn_row input.names t) ∷ ls) r.lines_are;
          plain = (taken.plain, r.plain);
          below = (taken.below, r.below);
          few = subst (λ (xs : List Turn). length xs ≤ EVENTS) regrouped r.few;
        }

    go : (row : Row) (new : ScheduleWalk) → line ≡ line_of row → (b : Bool) → bytes_eq (first row) (codes "done") ≡ b →
        (if b then (counted (length (rest row)) 0 >>= λ _. ok (at_end turns list))
        else (read_turn cpus input row >>= λ t. ok_if (nat_lt (length list) EVENTS) (in_turns turns (list ++ t ∷ [])) (TooMany what.Turns))) ≡ Ok new →
        walk cpus input new (n + 1) more ≡ Ok s →
        ((other : List Turn) → length other ≤ EVENTS → walk cpus input (in_turns turns other) (n + 1) more ≡ Ok s →
        TurnsTaken cpus input turns other more s) → TurnsTaken cpus input turns list (line ∷ more) s
    go row new line_is true is steps goes rec = last row new line_is is steps goes
    go row new line_is false is steps goes rec = turn row new line_is steps goes rec

-- a first line that was read
record FirstTaken (bound : ℕ) (row : Row) (new : ScheduleWalk) : Type 0 where
  turns : ℕ
  row_is : row ≡ limit_row turns
  new_is : in_turns turns [] ≡ new
  range : (1 ≤ turns) × (turns ≤ bound)

-- a number that passes the test that it is not zero is at least one
above_zero : (n : ℕ) → not (n == 0) ≡ true → 1 ≤ n
above_zero n e = grind arith

-- a first row that is taken is the turn limit, from 1 to the bound
first_takes : (bound : ℕ) → bound ≤ TURNS → (row : Row) (new : ScheduleWalk) → first_step bound start row ≡ Ok new → FirstTaken bound row new
first_takes bound most row new e = go row (bytes_eq (first row) (codes "schedule")) refl e
  where
    go : (row : Row) (b : Bool) → bytes_eq (first row) (codes "schedule") ≡ b →
        (if b then (read_limit bound (rest row) >>= λ n. ok (in_turns n [])) else Err UnknownWord) ≡ Ok new → FirstTaken bound row new
    go row false is e = absurd cc
    go [] true is e = absurd cc
    go (f ∷ args) true is e =
        let b = bind_ok (read_limit bound args) (λ n. ok (in_turns n [])) new e in
        let k = bind_ok (counted (length args) 1) (λ (x : Bool). read_number bound (first args) >>= λ n. ok_if (not (n == 0)) n BadNumber) b.value b.is in
        let m = bind_ok (read_number bound (first args)) (λ n. ok_if (not (n == 0)) n BadNumber) b.value k.then in
        let o = ok_if_ok (not (m.value == 0)) m.value BadNumber b.value m.then in
        let t = number_takes bound (omega (arith, most)) in
        let field : first args ≡ decimal b.value = t.shown (first args) m.value m.is ∙ ap decimal o.1 in
        let args_are : args ≡ decimal b.value ∷ [] =
        one_field args (counted_ok (length args) 1 k.value k.is) ∙ ap (λ (g : List ℕ). g ∷ []) field in
        record {
          turns = b.value;
          row_is = ap (λ (g : List ℕ). g ∷ args) (same_text f (codes "schedule") is) ∙ ap (λ (r : Row). codes "schedule" ∷ r) args_are;
          new_is = ok_is (in_turns b.value []) new b.then;
          range = subst (λ (n : ℕ). (1 ≤ n) × (n ≤ bound)) o.1 (above_zero m.value o.0, t.fits (first args) m.value m.is);
        }

abbrev IsTaken : ℕ → Input → List TextLine → Schedule → Type 0
IsTaken cpus input ls s = (ls ≡ map line_of (schedule_rows input.names s)) × IsPlain input s × AreBelow cpus s.list

-- what is read is a schedule that a text may have, and the lines are its rows
pub walk_takes : (cpus n : ℕ) (input : Input) (ls : List TextLine) (s : Schedule) → cpus ≤ CPUS → IsSound input →
    walk cpus input start n ls ≡ Ok s → (ls ≡ map line_of (schedule_rows input.names s)) × IsPlain input s × AreBelow cpus s.list
walk_takes cpus n input [] s most sound e = absurd cc
walk_takes cpus n input (line ∷ more) s most sound e =
    let t = went cpus input start n line more s e in
    let h = first_takes (turn_bound input.script.cpus) (most_turns input.script.cpus) t.row t.new t.steps in
    let now : walk cpus input (in_turns h.turns []) (n + 1) more ≡ Ok s =
    ap (λ (w : ScheduleWalk). walk cpus input w (n + 1) more) h.new_is ∙ t.goes_on in
    let r = turns_take cpus input most sound more h.turns [] (n + 1) s (omega arith) now in
    let first : line ≡ line_of (limit_row h.turns) = t.line_is ∙ ap line_of h.row_is in
    subst (IsTaken cpus input (line ∷ more)) (sym r.is) (
      ap (λ (l : TextLine). l ∷ more) first ∙ ap (λ (ls : List TextLine). line_of (limit_row h.turns) ∷ ls) r.lines_are,
      record { turns = r.plain; few = r.few; limit = h.range },
      r.below,
    )

-- ---- what is written

-- the line of a row that is taken
line_again : (cpus : ℕ) (input : Input) (w new : ScheduleWalk) (n : ℕ) (row : Row) (more : List TextLine) → row_of (line_of row) ≡ Ok row →
    step cpus input w row ≡ Ok new → walk cpus input w n (line_of row ∷ more) ≡ walk cpus input new (n + 1) more
line_again cpus input w new n row more clean steps =
    ap (λ (r : Result ScheduleWalk ScriptKind). go_on n r (λ new. walk cpus input new (n + 1) more))
    (bind_is (row_of (line_of row)) (step cpus input w) row clean ∙ steps)

-- the line of a turn does not begin with the word that ends the schedule
no_end : (input : Input) (t : Turn) → bytes_eq (first (turn_row input.names t)) (codes "done") ≡ false
no_end input (Next p) = refl
no_end input (Look p r) = refl
no_end input (Switch p t) = refl

-- a row that is read as a turn and is not the end adds this turn to the list, if there is room for it
turn_step_again : (cpus : ℕ) (input : Input) (turns : ℕ) (list : List Turn) (row : Row) (t : Turn) → bytes_eq (first row) (codes "done") ≡ false →
    read_turn cpus input row ≡ Ok t → length list + 1 ≤ EVENTS → turn_step cpus input (in_turns turns list) row ≡ Ok (in_turns turns (list ++ t ∷ []))
turn_step_again cpus input turns list row t other reads room =
    let few : nat_lt (length list) EVENTS ≡ true = lt-ltb (length list) EVENTS (omega (arith, room)) in
    rw other
    (bind_is (read_turn cpus input row) (λ t. ok_if (nat_lt (length list) EVENTS) (in_turns turns (list ++ t ∷ [])) (TooMany what.Turns)) t reads
    ∙ rw few refl)

-- the lines of turns and of the end are read as these turns, added to those before
turns_again : (cpus : ℕ) (input : Input) → IsSound input → (ts : List Turn) (turns : ℕ) (list : List Turn) (n : ℕ) →
    AllByRecursion (TurnIsPlain input) ts → AreBelow cpus ts → length list + length ts ≤ EVENTS →
    walk cpus input (in_turns turns list) n (map line_of (map (turn_row input.names) ts ++ done_row ∷ []))
    ≡ Ok (record { turns = turns; list = list ++ ts })
turns_again cpus input sound [] turns list n plain below few =
    line_again cpus input (in_turns turns list) (at_end turns list) n done_row [] (row_again done_row (refl, tt)) refl
    ∙ ap (λ (xs : List Turn). Ok (record { turns = turns; list = xs })) (sym (append-nil list))
turns_again cpus input sound (t ∷ ts) turns list n plain below few =
    let row = turn_row input.names t in
    let steps = turn_step_again cpus input turns list row t (no_end input t) (turn_again cpus input sound t plain.0 below.0) (omega (arith, few)) in
    let size = length-append list (t ∷ []) in
    line_again cpus input (in_turns turns list) (in_turns turns (list ++ t ∷ [])) n row (map line_of (map (turn_row input.names) ts ++ done_row ∷ []))
    (row_again row (turn_clean input sound t plain.0)) steps
    ∙ turns_again cpus input sound ts turns (list ++ t ∷ []) (n + 1) plain.1 below.1 (omega (arith, few, size))
    ∙ ap (λ (xs : List Turn). Ok (record { turns = turns; list = xs })) (append_assoc list (t ∷ []) ts)

-- the line of a turn limit from 1 to the bound is read as that limit, with no turns yet
first_again : (bound turns : ℕ) → bound ≤ TURNS → 1 ≤ turns → turns ≤ bound → first_step bound start (limit_row turns) ≡ Ok (in_turns turns [])
first_again bound turns most low high =
    let some : (turns == 0) ≡ false = ne_eqb turns 0 (λ z. omega (arith, low, z)) in
    rw (number_again bound turns (omega (arith, most)) high, some) refl

-- the rows of a schedule that a text may have are read as it, whichever number the first has
pub walk_again : (cpus n : ℕ) (input : Input) (s : Schedule) → IsSound input → IsPlain input s → AreBelow cpus s.list →
    walk cpus input start n (map line_of (schedule_rows input.names s)) ≡ Ok s
walk_again cpus n input s sound plain below =
    let limit = plain.limit in
    let most = most_turns input.script.cpus in
    let few = plain.few in
    let field = decimal_field s.turns (omega (arith, limit, most)) in
    line_again cpus input start (in_turns s.turns []) n (limit_row s.turns) (map line_of (map (turn_row input.names) s.list ++ done_row ∷ []))
    (row_again (limit_row s.turns) (refl, (field, tt))) (first_again (turn_bound input.script.cpus) s.turns most limit.0 limit.1)
    ∙ turns_again cpus input sound s.list s.turns [] (n + 1) plain.turns below (omega (arith, few))
