-- A text that is read is the text of what is read.
use Rattle.std.proofs.Common.{◌≡◌, ℕ, zero, suc, ◌+◌, ◌≤◌, Bool, cond, List, [], ◌∷◌, ◌++◌, false, true, length, map, Some, Result, Ok, Err, refl, sym, ◌∙◌, ap}
use Rattle.std.proofs.Common.{subst, append_assoc, arith}
use Rattle.std.specs.Prelude.{nat_le, nat_lt, ◌==◌, is_some, is_none}
use Rattle.std.specs.Str.{bytes_eq}
use Rattle.std.proofs.lemmas.Bool.{ltb-true}
use Rattle.std.proofs.lemmas.List.{append-nil, length-append}
use Rattle.nt_text.specs.declared.kind.ScriptKind.{ScriptKind}
use Rattle.nt_text.specs.Lines.{row_of, line_of, lines, fields, rows_text}
use Rattle.nt_text.specs.Fields.{is_name}
use Rattle.nt_text.proofs.Rows.{row_takes, row_fields, lines_takes}
use Rattle.nt_text.specs.declared.kind.ScriptKind.TheVariants.{BadNumber, NameTwice, TooMany}
use Rattle.nt_text.specs.declared.kind.What10.TheVariants as what
use Rattle.nt_text.specs.Lines.{first, rest}
use Rattle.nt_event.specs.declared.scripts.DpcDecl.{DpcDecl}
use Rattle.nt_event.specs.declared.scripts.TimerDecl.{TimerDecl}
use Rattle.nt_event.specs.declared.scripts.ThreadDecl.{ThreadDecl}
use Rattle.nt_event.specs.declared.scripts.ApcDecl.{ApcDecl}
use Rattle.nt_event.specs.Script.{isr_of as isr_routine}
use Rattle.nt_line.specs.declared.keywords.Keyword.{Keyword}
use Rattle.nt_line.specs.declared.keywords.Keyword.TheVariants as keyword
use Rattle.nt_script.specs.declared.walk.Walk.{Walk}
use Rattle.nt_line.specs.declared.keywords.Place.{Place}
use Rattle.nt_line.specs.declared.keywords.Place.TheVariants.{Start, HasVersion, HasCpus, HasDepth, HasThreaded, InIsrs, InDpcs, InTimers, InThreads, InApcs}
use Rattle.nt_line.specs.declared.keywords.Place.TheVariants.{InLocks, InRoutines, InRoutine}
use Rattle.nt_script.specs.declared.walk.Input.{Input}
use Rattle.nt_line.specs.declared.names.Kind.{Kind}
use Rattle.nt_line.specs.declared.names.Kind.TheVariants as kind
use Rattle.nt_line.specs.NameLists.{NameLists, no_names, meaning, with_name}
use Rattle.nt_line.specs.Keywords.{keyword_of, text_of, declaring, order}
use Rattle.nt_line.specs.Results.{ok_if}
use Rattle.nt_line.specs.Fields.{read_number, read_on_off, new_name}
use Rattle.nt_line.specs.Commands.{command_of}
use Rattle.nt_line.specs.Declarations.{isr_of, dpc_of, timer_of, thread_of, apc_of}
use Rattle.nt_script.specs.Reading.{names_after, names_from, first_place, start, put_cpus, with_version, with_depth, with_threaded, with_isr, with_dpc}
use Rattle.nt_script.specs.Reading.{with_timer, with_thread, with_apc, with_lock, with_routine, with_exit, with_command, act, step, finish, line_step, go_on}
use Rattle.nt_script.specs.Reading.{walk, reading}
use Rattle.nt_text.specs.Lines.{Row}
use Rattle.nt_script.specs.Versions.{version_of}
use Rattle.nt_script.specs.Text.{input_rows, text}
use Rattle.nt_line.proofs.Results.{bind_ok, ok_if_ok}
use Rattle.nt_line.proofs.UsedNames.{AreFew, new_name_takes}
use Rattle.nt_script.proofs.SoFar.{so_far, has_head, routines, all_ended}
use Rattle.nt_script.proofs.Taken.{At, declared_ok, step_ok}
use Rattle.nt_script.proofs.Steps.{Good, IsEmpty, all_empty, empty, places, put_cpus_ok, version_good, cpus_good, depth_good, threaded_good, isr_good, dpc_good}
use Rattle.nt_script.proofs.Steps.{timer_good, thread_good, apc_good, lock_good, routine_good, exit_good, command_good}
use Rattle.nt_script.proofs.Acts.{ok, ok_is, step_taken}

-- ---- the names, with no look at the names that are used

pub record Named (w : Walk) (row : Row) (new : Walk) : Type 0 where
  pub version : new.version ≡ w.version
  pub names : names_after w.version w.names row ≡ new.names
  pub few : AreFew new.names
  pub good : Good new

-- a name that is new is added
new_declared : (v : ℕ) (k : Kind) (names : NameLists) (row : Row) (wd : Keyword) (name : List ℕ) → keyword_of v (first row) ≡ Some wd → declaring wd ≡ Some k →
    first (rest row) ≡ name → is_name name ≡ true → is_some (meaning name names) ≡ false → names_after v names row ≡ with_name k name names
new_declared v k names row wd name is dk same named none = rw (is, dk, same, named, none) refl

-- a list shorter than the limit is within the limit after it got one more member
fits_more : {A : Type 0} (xs : List A) (x : A) (n most : ℕ) → length xs ≡ n → nat_lt n most ≡ true → length (xs ++ x ∷ []) ≤ most
fits_more xs x n most e t = let lt = ltb-true n most t in omega (arith, e, lt, length-append xs (x ∷ []))

-- a line that is taken keeps the version, adds its name to the names, and leaves them few and the state good
act_named : (all : NameLists) (w : Walk) (wd : Keyword) (row : Row) (new : Walk) → keyword_of w.version (first row) ≡ Some wd → At w.place wd →
    act all w wd (rest row)
    ≡ Ok new → Good w → AreFew w.names → Named w row new
act_named all w keyword.Version row new is at e good few =
    let b = bind_ok (read_number 4294967295 (first (rest row))) (λ n. ok_if (n == 2) (with_version w) BadNumber) new e in
    let o = ok_if_ok (b.value == 2) (with_version w) BadNumber new b.then in
    subst (Named w row) o.1 (record { version = refl; names = rw is refl; few = few; good = version_good w at good })
act_named all w keyword.Cpus row new is at e good few =
    let b = bind_ok (read_number 4294967295 (first (rest row))) (put_cpus w) new e in
    subst (Named w row) (put_cpus_ok w b.value new b.then) (record { version = refl; names = rw is refl; few = few; good = cpus_good w b.value at good })
act_named all w keyword.Depth row new is at e good few =
    let b = bind_ok (read_number 256 (first (rest row))) (λ n. ok (with_depth w n)) new e in
    subst (Named w row) (ok_is (with_depth w b.value) new b.then)
    (record { version = refl; names = rw is refl; few = few; good = depth_good w b.value at good })
act_named all w keyword.Threaded row new is at e good few =
    let b = bind_ok (read_on_off (first (rest row))) (λ on. ok (with_threaded w on)) new e in
    subst (Named w row) (ok_is (with_threaded w b.value) new b.then)
    (record { version = refl; names = rw is refl; few = few; good = threaded_good w b.value at good })
act_named all w keyword.Isr row new is at e good few =
    let b = bind_ok (isr_of all w.script.cpus (rest row))
    (λ isr. ok_if (is_none (isr_routine w.script.isrs isr.cpu isr.level)) (with_isr w isr) NameTwice) new e in
    let o = ok_if_ok (is_none (isr_routine w.script.isrs b.value.cpu b.value.level)) (with_isr w b.value) NameTwice new b.then in
    subst (Named w row) o.1 (record { version = refl; names = rw is refl; few = few; good = isr_good w b.value at good })
act_named all w (keyword.Dpc b) row new is at e good few =
    let put : List ℕ → DpcDecl → Result Walk ScriptKind = λ name x. ok_if (nat_lt (length w.script.dpcs) 256) (with_dpc w name x) (TooMany what.Dpcs) in
    let d = declared_ok w.names (dpc_of all b) put (rest row) new e in
    let o = ok_if_ok (nat_lt (length w.script.dpcs) 256) (with_dpc w d.name d.thing) (TooMany what.Dpcs) new d.made in
    subst (Named w row) o.1 (record {
      version = refl;
      names = new_declared w.version kind.Dpc w.names row (keyword.Dpc b) d.name is refl d.first_is d.named d.none;
      few = record {
        dpcs = fits_more w.names.dpcs d.name (length w.script.dpcs) 256 good.dpcs o.0;
        timers = few.timers;
        threads = few.threads;
        apcs = few.apcs;
        locks = few.locks;
        routines = few.routines;
      };
      good = dpc_good w d.name d.thing at good;
    })
act_named all w keyword.Timer row new is at e good few =
    let put : List ℕ → TimerDecl → Result Walk ScriptKind = λ name x. ok_if (nat_lt (length w.script.timers) 64) (with_timer w name x) (TooMany what.Timers) in
    let d = declared_ok w.names (timer_of all) put (rest row) new e in
    let o = ok_if_ok (nat_lt (length w.script.timers) 64) (with_timer w d.name d.thing) (TooMany what.Timers) new d.made in
    subst (Named w row) o.1 (record {
      version = refl;
      names = new_declared w.version kind.Timer w.names row keyword.Timer d.name is refl d.first_is d.named d.none;
      few = record {
        dpcs = few.dpcs;
        timers = fits_more w.names.timers d.name (length w.script.timers) 64 good.timers o.0;
        threads = few.threads;
        apcs = few.apcs;
        locks = few.locks;
        routines = few.routines;
      };
      good = timer_good w d.name d.thing at good;
    })
act_named all w keyword.Thread row new is at e good few =
    let put : List ℕ → ThreadDecl → Result Walk ScriptKind = λ name x. ok_if (nat_lt (length w.script.threads) 64) (with_thread w name x)
    (TooMany what.Threads) in
    let d = declared_ok w.names (thread_of all w.script.cpus) put (rest row) new e in
    let o = ok_if_ok (nat_lt (length w.script.threads) 64) (with_thread w d.name d.thing) (TooMany what.Threads) new d.made in
    subst (Named w row) o.1 (record {
      version = refl;
      names = new_declared w.version kind.Thread w.names row keyword.Thread d.name is refl d.first_is d.named d.none;
      few = record {
        dpcs = few.dpcs;
        timers = few.timers;
        threads = fits_more w.names.threads d.name (length w.script.threads) 64 good.threads o.0;
        apcs = few.apcs;
        locks = few.locks;
        routines = few.routines;
      };
      good = thread_good w d.name d.thing at good;
    })
act_named all w (keyword.Apc k) row new is at e good few =
    let put : List ℕ → ApcDecl → Result Walk ScriptKind = λ name x. ok_if (nat_lt (length w.script.apcs) 256) (with_apc w name x) (TooMany what.Apcs) in
    let d = declared_ok w.names (apc_of all k) put (rest row) new e in
    let o = ok_if_ok (nat_lt (length w.script.apcs) 256) (with_apc w d.name d.thing) (TooMany what.Apcs) new d.made in
    subst (Named w row) o.1 (record {
      version = refl;
      names = new_declared w.version kind.Apc w.names row (keyword.Apc k) d.name is refl d.first_is d.named d.none;
      few = record {
        dpcs = few.dpcs;
        timers = few.timers;
        threads = few.threads;
        apcs = fits_more w.names.apcs d.name (length w.script.apcs) 256 good.apcs o.0;
        locks = few.locks;
        routines = few.routines;
      };
      good = apc_good w d.name d.thing at good;
    })
act_named all w keyword.Spinlock row new is at e good few =
    let b = bind_ok (new_name w.names (first (rest row)))
    (λ (name : List ℕ). ok_if (nat_lt w.script.locks 64) (with_lock w name) (TooMany what.Spinlocks)) new e in
    let o = ok_if_ok (nat_lt w.script.locks 64) (with_lock w b.value) (TooMany what.Spinlocks) new b.then in
    let f = (new_name_takes w.names).fits (first (rest row)) b.value b.is in
    let same = (new_name_takes w.names).shown (first (rest row)) b.value b.is in
    subst (Named w row) o.1 (record {
      version = refl;
      names = new_declared w.version kind.Lock w.names row keyword.Spinlock b.value is refl same f.0 f.1;
      few = record {
        dpcs = few.dpcs;
        timers = few.timers;
        threads = few.threads;
        apcs = few.apcs;
        locks = fits_more w.names.locks b.value w.script.locks 64 good.locks o.0;
        routines = few.routines;
      };
      good = lock_good w b.value at good;
    })
act_named all w keyword.Routine row new is at e good few =
    let b = bind_ok (new_name w.names (first (rest row)))
    (λ (name : List ℕ). ok_if (nat_lt (length w.script.routines) 256) (with_routine w name) (TooMany what.Routines)) new e in
    let o = ok_if_ok (nat_lt (length w.script.routines) 256) (with_routine w b.value) (TooMany what.Routines) new b.then in
    let f = (new_name_takes w.names).fits (first (rest row)) b.value b.is in
    let same = (new_name_takes w.names).shown (first (rest row)) b.value b.is in
    let closed = empty w good InRoutine (omega (arith, at.1)) in
    subst (Named w row) o.1 (record {
      version = refl;
      names = new_declared w.version kind.Routine w.names row keyword.Routine b.value is refl same f.0 f.1;
      few = record {
        dpcs = few.dpcs;
        timers = few.timers;
        threads = few.threads;
        apcs = few.apcs;
        locks = few.locks;
        routines = fits_more w.names.routines b.value (length w.script.routines) 256 closed.1 o.0;
      };
      good = routine_good w b.value at good;
    })
act_named all w keyword.Exit row new is at e good few =
    subst (Named w row) (ok_is (with_exit w) new e) (record { version = refl; names = rw is refl; few = few; good = exit_good w at good })
act_named all w (keyword.Call verb) row new is at e good few =
    let b = bind_ok (command_of all w.script.cpus verb (rest row)) (λ c. ok_if (nat_lt w.commands 8192) (with_command w c) (TooMany what.Commands)) new e in
    let o = ok_if_ok (nat_lt w.commands 8192) (with_command w b.value) (TooMany what.Commands) new b.then in
    subst (Named w row) o.1 (record { version = refl; names = rw is refl; few = few; good = command_good w b.value at good })

-- a line that is taken adds just the name that it declares, and what was read stays in order
pub step_named : (all : NameLists) (w : Walk) (row : Row) (new : Walk) → step all w row ≡ Ok new → Good w → AreFew w.names → Named w row new
step_named all w row new e good few =
    let l = step_ok all w row new e in
    act_named all w l.keyword row new l.is l.at l.acts good few

-- ---- all lines

abbrev TextLine : Type 0
TextLine = List ℕ × Bool

abbrev done : Input → Result Input (ℕ × ScriptKind)
done input = Ok input

-- the walk went on
pub record Went (all : NameLists) (w : Walk) (n : ℕ) (line : TextLine) (more : List TextLine) (input : Input) : Type 0 where
  pub new : Walk
  pub row : Row
  pub line_is : line ≡ line_of row
  pub fields_are : fields line.0 ≡ row
  pub steps : step all w row ≡ Ok new
  pub goes_on : walk all new (n + 1) more ≡ Ok input

-- if a walk over lines gives an input, its first line is a row that is taken, and the walk goes on from there
pub went : (all : NameLists) (w : Walk) (n : ℕ) (line : TextLine) (more : List TextLine) (input : Input) → walk all w n (line ∷ more) ≡ Ok input →
    Went all w n line more input
went all w n line more input e = go (line_step all w line) refl e
  where
    go : (r : Result Walk ScriptKind) → line_step all w line ≡ r → go_on n r (λ new. walk all new (n + 1) more) ≡ Ok input → Went all w n line more input
    go (Err kind) is e = absurd cc
    go (Ok new) is e =
        let b = bind_ok (row_of line) (step all w) new is in
        record { new = new; row = b.value; line_is = row_takes line b.value b.is; fields_are = row_fields line b.value b.is; steps = b.then; goes_on = e }

-- where the walk ends
pub record Ends (w : Walk) (ls : List TextLine) (input : Input) : Type 0 where
  pub last : Walk
  pub number : ℕ
  pub finishes : finish last.place last number ≡ Ok input
  pub names : names_from w.version w.names ls ≡ last.names
  pub few : AreFew last.names
  pub good : Good last

-- a walk that gives an input ends in order, with the names that all its lines declare
pub ends : (all : NameLists) (w : Walk) (n : ℕ) (ls : List TextLine) (input : Input) → walk all w n ls ≡ Ok input → Good w → AreFew w.names → Ends w ls input
ends all w n [] input e good few = record { last = w; number = n; finishes = e; names = refl; few = few; good = good }
ends all w n (line ∷ more) input e good few =
    let t = went all w n line more input e in
    let s = step_named all w t.row t.new t.steps good few in
    let r = ends all t.new (n + 1) more input t.goes_on s.good s.few in
    let named : names_from w.version w.names (line ∷ more) ≡ r.last.names =
    ap (λ (row : Row). names_from w.version (names_after w.version w.names row) more) t.fields_are
    ∙ ap (λ (names : NameLists). names_from w.version names more) s.names
    ∙ ap (λ (v : ℕ). names_from v t.new.names more) (sym s.version) ∙ r.names in
    record { last = r.last; number = r.number; finishes = r.finishes; names = named; few = r.few; good = r.good }

record Rows (all : NameLists) (w : Walk) (ls : List TextLine) (input : Input) : Type 0 where
  pub rows : List Row
  pub lines_are : ls ≡ map line_of rows
  pub last : Walk
  pub number : ℕ
  pub finishes : finish last.place last number ≡ Ok input
  pub good : Good last
  pub rows_are : so_far all last ≡ so_far all w ++ rows

-- a text that is read is the lines of rows, which lead from the state to the end of the walk
rows_of : (all : NameLists) → AreFew all → (w : Walk) (n : ℕ) (ls : List TextLine) (input : Input) → walk all w n ls ≡ Ok input → Good w → AreFew w.names →
    Rows all w ls input
rows_of all few w n [] input e good named = record {
  rows = [];
  lines_are = refl;
  last = w;
  number = n;
  finishes = e;
  good = good;
  rows_are = sym (append-nil (so_far all w));
}
rows_of all few w n (line ∷ more) input e good named =
    let t = went all w n line more input e in
    let s = step_named all w t.row t.new t.steps good named in
    let r = rows_of all few t.new (n + 1) more input t.goes_on s.good s.few in
    record {
      rows = t.row ∷ r.rows;
      lines_are = ap (λ (l : TextLine). l ∷ more) t.line_is ∙ ap (λ (ls : List TextLine). line_of t.row ∷ ls) r.lines_are;
      last = r.last;
      number = r.number;
      finishes = r.finishes;
      good = r.good;
      rows_are = r.rows_are ∙ ap (λ (rows : List Row). rows ++ r.rows) (step_taken all few w t.row t.new t.steps good)
          ∙ append_assoc (so_far all w) (t.row ∷ []) r.rows;
    }

abbrev pub made : Walk → Input
made w = record { version = w.version; script = w.script; names = w.names }

-- a walk that is done with an input gives that input
done_is : (x y : Input) → done x ≡ Ok y → x ≡ y
done_is x y e = cc

-- what the end of a walk gives
pub record Finished (p : Place) (w : Walk) (input : Input) : Type 0 where
  pub made_is : made w ≡ input
  pub low : 2 ≤ order p
  pub high : order p ≤ 11

-- a text may end only after the processors and outside a routine, and what was read is then the input
pub finished : (p : Place) (w : Walk) (n : ℕ) (input : Input) → finish p w n ≡ Ok input → Finished p w input
finished Start w n input e = absurd cc
finished HasVersion w n input e = absurd cc
finished HasCpus w n input e = record { made_is = done_is (made w) input e; low = omega arith; high = omega arith }
finished HasDepth w n input e = record { made_is = done_is (made w) input e; low = omega arith; high = omega arith }
finished HasThreaded w n input e = record { made_is = done_is (made w) input e; low = omega arith; high = omega arith }
finished InIsrs w n input e = record { made_is = done_is (made w) input e; low = omega arith; high = omega arith }
finished InDpcs w n input e = record { made_is = done_is (made w) input e; low = omega arith; high = omega arith }
finished InTimers w n input e = record { made_is = done_is (made w) input e; low = omega arith; high = omega arith }
finished InThreads w n input e = record { made_is = done_is (made w) input e; low = omega arith; high = omega arith }
finished InApcs w n input e = record { made_is = done_is (made w) input e; low = omega arith; high = omega arith }
finished InLocks w n input e = record { made_is = done_is (made w) input e; low = omega arith; high = omega arith }
finished InRoutines w n input e = record { made_is = done_is (made w) input e; low = omega arith; high = omega arith }
finished InRoutine w n input e = absurd cc

-- the rows of a walk whose routines have all ended are those of its input
closing : (all : NameLists) (w : Walk) → all ≡ w.names → 2 ≤ order w.place → length w.names.routines ≡ length w.script.routines → so_far all w
    ≡ input_rows (made w)
closing all w ea low el =
    let head = has_head w.place w.version w.script.cpus w.script.depth w.script.threaded low in
    let ended = all_ended w.names w.names.routines w.script.routines w.body el in
    let own : so_far w.names w ≡ input_rows (made w) = rw (head, append-nil (routines w.names w), ended) refl in
    subst (λ (names : NameLists). so_far names w ≡ input_rows (made w)) (sym ea) own

-- before all lines
pub first_low : (v : ℕ) → order (first_place v) ≤ 1
first_low v = go (nat_le 2 v)
  where
    go : (b : Bool) → order (cond b Start HasVersion) ≤ 1
    go true = omega arith
    go false = omega arith

-- nothing was read of any place
start_empty : (v : ℕ) (p : Place) → IsEmpty (start v) p
start_empty v Start = tt
start_empty v HasVersion = tt
start_empty v HasCpus = tt
start_empty v HasDepth = refl
start_empty v HasThreaded = refl
start_empty v InIsrs = refl
start_empty v InLocks = refl
start_empty v _ = (refl, refl)

-- before the first line what was read is in order
pub good_start : (v : ℕ) → v ≤ 2 → Good (start v)
good_start v le = record {
  version = le;
  dpcs = refl;
  timers = refl;
  threads = refl;
  apcs = refl;
  locks = refl;
  later = all_empty places (suc (order (first_place v))) (start v) (start_empty v);
  opened = λ h. (let low = first_low v in absurd (omega (arith, h, low)));
}

-- no row comes before the first line
none_yet : (all : NameLists) (v : ℕ) → v ≤ 2 → so_far all (start v) ≡ []
none_yet all zero le = refl
none_yet all (suc zero) le = refl
none_yet all (suc (suc zero)) le = refl
none_yet all (suc (suc (suc n))) le = absurd (omega (arith, le))

-- the version of a text is 1 or 2
pub version_range : (ls : List TextLine) → (1 ≤ version_of ls) × (version_of ls ≤ 2)
version_range [] = (omega arith, omega arith)
version_range (line ∷ more) = go (bytes_eq (first (fields line.0)) (text_of keyword.Version))
  where
    go : (b : Bool) → (1 ≤ cond b 2 1) × (cond b 2 1 ≤ 2)
    go true = (omega arith, omega arith)
    go false = (omega arith, omega arith)

-- no names at all are within the limits
pub few_none : AreFew no_names
few_none = record { dpcs = omega arith; timers = omega arith; threads = omega arith; apcs = omega arith; locks = omega arith; routines = omega arith }

-- a text that is read as an input is the text of the input
pub reading_takes : (bytes : List ℕ) (input : Input) → reading bytes ≡ Ok input → bytes ≡ text input
reading_takes bytes input e =
    let v = version_of (lines bytes) in
    let two = (version_range (lines bytes)).1 in
    let all = names_from v no_names (lines bytes) in
    let names = ends all (start v) 1 (lines bytes) input e (good_start v two) few_none in
    let few : AreFew all = subst AreFew (sym names.names) names.few in
    let r = rows_of all few (start v) 1 (lines bytes) input e (good_start v two) few_none in
    let f = finished r.last.place r.last r.number input r.finishes in
    let g = finished names.last.place names.last names.number input names.finishes in
    let same : all ≡ r.last.names = names.names ∙ ap (λ (i : Input). i.names) g.made_is ∙ sym (ap (λ (i : Input). i.names) f.made_is) in
    let rows : so_far all r.last ≡ r.rows = r.rows_are ∙ ap (λ (before : List Row). before ++ r.rows) (none_yet all v two) in
    let closed = empty r.last r.good InRoutine (omega (arith, f.high)) in
    let are : r.rows ≡ input_rows input = sym rows ∙ closing all r.last same f.low closed.1 ∙ ap input_rows f.made_is in
    lines_takes bytes r.rows r.lines_are ∙ ap rows_text are
