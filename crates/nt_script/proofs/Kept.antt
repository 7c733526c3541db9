-- What is read fits.
use Rattle.std.proofs.Common.{◌≡◌, ℕ, zero, suc, ◌+◌, ◌≤◌, Bool, true, false, cond, List, [], ◌∷◌, ◌++◌, length, Option, Some, None, Result, Ok, Err, refl, sym}
use Rattle.std.proofs.Common.{◌∙◌, ap, subst, append_assoc, arith, lit<}
use Rattle.std.specs.Prelude.{nat_lt, ◌==◌, is_some, is_none, option_map, IfSome}
use Rattle.std.specs.Str.{bytes_eq}
use Rattle.std.specs.List.{AllByRecursion, sum_by, position_from}
use Rattle.std.proofs.lemmas.Bool.{ltb-true, ltb-false, eqb-false}
use Rattle.std.proofs.lemmas.List.{append-nil, length-append}
use Rattle.std.proofs.lemmas.List.Sums.{sum_by-append}
use Rattle.nt_text.specs.declared.kind.ScriptKind.{ScriptKind}
use Rattle.nt_text.specs.declared.kind.ScriptKind.TheVariants.{NameTwice, TooMany, BadNumber}
use Rattle.nt_text.specs.declared.kind.What10.TheVariants as what
use Rattle.nt_text.specs.Lines.{lines, first, rest}
use Rattle.nt_text.specs.Fields.{is_name}
use Rattle.nt_event.specs.declared.limits.TheConstants.{COMMANDS}
use Rattle.nt_event.specs.declared.commands.Command.{Command}
use Rattle.nt_event.specs.declared.scripts.Routine.{Routine}
use Rattle.nt_event.specs.declared.scripts.Isr.{Isr}
use Rattle.nt_event.specs.declared.scripts.DpcDecl.{DpcDecl}
use Rattle.nt_event.specs.declared.scripts.TimerDecl.{TimerDecl}
use Rattle.nt_event.specs.declared.scripts.ThreadDecl.{ThreadDecl}
use Rattle.nt_event.specs.declared.scripts.ApcDecl.{ApcDecl}
use Rattle.nt_event.specs.Script.{isrs_differ, command_count, isr_of as isr_routine}
use Rattle.nt_line.specs.declared.keywords.Keyword.{Keyword}
use Rattle.nt_line.specs.declared.keywords.Keyword.TheVariants as keyword
use Rattle.nt_line.specs.declared.keywords.Place.TheVariants.{InIsrs, InTimers, InThreads, InApcs, InLocks, InRoutines, InRoutine}
use Rattle.nt_script.specs.declared.walk.Walk.{Walk}
use Rattle.nt_script.specs.declared.walk.Input.{Input}
use Rattle.nt_line.specs.Places.{place}
use Rattle.nt_line.specs.NameLists.{NameLists, no_names, meaning, dpc_at, timer_at, thread_at, apc_at, lock_at, routine_at, or_else}
use Rattle.nt_line.specs.Keywords.{arity, since, order}
use Rattle.nt_line.specs.Results.{ok_if}
use Rattle.nt_line.specs.Fields.{read_number, read_on_off, new_name}
use Rattle.nt_line.specs.Commands.{command_of}
use Rattle.nt_line.specs.Declarations.{isr_of, dpc_of, timer_of, thread_of, apc_of}
use Rattle.nt_script.specs.Reading.{put_cpus, with_version, with_cpus, with_depth, with_threaded, with_isr, with_dpc, with_timer, with_thread, with_apc}
use Rattle.nt_script.specs.Reading.{with_lock, with_routine, with_exit, with_command, act, start, finish, walk, names_from, reading}
use Rattle.nt_line.specs.Fits.{IsrFits, DpcFits, TimerFits, ThreadFits, ApcFits, CommandFits}
use Rattle.nt_line.specs.NameLists.{AreNew}
use Rattle.nt_line.proofs.Results.{bind_ok, ok_if_ok}
use Rattle.nt_line.proofs.FieldTexts.{number_takes}
use Rattle.nt_line.proofs.UsedNames.{AreFew, new_name_takes}
use Rattle.nt_line.proofs.Spelled.{apc_fields, command_takes, isr_takes, dpc_line_takes, timer_line_takes, thread_line_takes, apc_line_takes}
use Rattle.nt_line.proofs.Found.{nowhere, NamesFit}
use Rattle.nt_script.proofs.Pairs.{one_apart}
use Rattle.nt_script.specs.Versions.{version_of, most_cpus}
use Rattle.nt_script.proofs.Fit.{Fit, most_64}
use Rattle.nt_script.proofs.Taken.{At, declared_ok, args_parts, step_ok}
use Rattle.nt_script.proofs.Steps.{Good, empty, put_cpus_ok}
use Rattle.nt_script.proofs.Acts.{ok, ok_is, apc_arity}
use Rattle.nt_script.proofs.Whole.{went, step_named, ends, finished, first_low, version_range, good_start, few_none}

-- what holds of all of a list and of one value more holds of all of the list with that value at its end
pub all_more : {A : Type 0} (P : A → Type 0) (xs : List A) (x : A) → AllByRecursion P xs → P x → AllByRecursion P (xs ++ x ∷ [])
all_more P [] x h p = (p, tt)
all_more P (y ∷ ys) x h p = (h.0, all_more P ys x h.1 p)

-- whatever holds of each member holds of all members of a list that is empty
none_all : {A : Type 0} (P : A → Type 0) (xs : List A) → xs ≡ [] → AllByRecursion P xs
none_all P xs e = rw e tt

-- a name that is in neither of two lists is nowhere in one after the other, wherever the count begins
nowhere_append : (n : List ℕ) (xs ys : List (List ℕ)) (k : ℕ) → position_from (bytes_eq n) k xs ≡ None → ((j : ℕ) → position_from (bytes_eq n) j ys ≡ None) →
    position_from (bytes_eq n) k (xs ++ ys) ≡ None
nowhere_append n [] ys k e f = f k
nowhere_append n (x ∷ xs) ys k e f = go (bytes_eq n x) e (nowhere_append n xs ys (k + 1))
  where
    go : (b : Bool) → cond b (Some k) (position_from (bytes_eq n) (k + 1) xs) ≡ None →
        (position_from (bytes_eq n) (k + 1) xs ≡ None → ((j : ℕ) → position_from (bytes_eq n) j ys ≡ None) → position_from (bytes_eq n) (k + 1) (xs ++ ys)
        ≡ None) → cond b (Some k) (position_from (bytes_eq n) (k + 1) (xs ++ ys)) ≡ None
    go true e more = absurd cc
    go false e more = more e f

-- one more name that is in none of the lists keeps that all names are new
new_more : (before ns : List (List ℕ)) (n : List ℕ) → AreNew before ns → is_name n ≡ true → place n (before ++ ns) ≡ None → AreNew before (ns ++ n ∷ [])
new_more before [] n h named none = (named, subst (λ (b : List (List ℕ)). place n b ≡ None) (append-nil before) none, tt)
new_more before (m ∷ ns) n h named none = (
  h.0,
  h.1,
  new_more (before ++ m ∷ []) ns n h.2 named
      (subst (λ (b : List (List ℕ)). place n b ≡ None) (sym (append_assoc before (m ∷ []) ns)) none),
)

-- a name that means nothing stands in no list
nowhere_of : (d t h a l r : Option ℕ) → is_some (or_else (option_map dpc_at d)
    (or_else (option_map timer_at t)
    (or_else (option_map thread_at h) (or_else (option_map apc_at a) (or_else (option_map lock_at l) (option_map routine_at r)))))) ≡ false → (d ≡ None) ×
    (t ≡ None) × (h ≡ None) × (a ≡ None) × (l ≡ None) × (r ≡ None)
nowhere_of None None None None None None e = (refl, refl, refl, refl, refl, refl)
nowhere_of (Some i) t h a l r e = absurd cc
nowhere_of None (Some i) h a l r e = absurd cc
nowhere_of None None (Some i) a l r e = absurd cc
nowhere_of None None None (Some i) l r e = absurd cc
nowhere_of None None None None (Some i) r e = absurd cc
nowhere_of None None None None None (Some i) e = absurd cc

-- where a name that means nothing is not, kind by kind
record Unknown (n : List ℕ) (names : NameLists) : Type 0 where
  pub dpcs : place n names.dpcs ≡ None
  pub timers : place n (names.dpcs ++ names.timers) ≡ None
  pub threads : place n ((names.dpcs ++ names.timers) ++ names.threads) ≡ None
  pub apcs : place n (((names.dpcs ++ names.timers) ++ names.threads) ++ names.apcs) ≡ None
  pub locks : place n ((((names.dpcs ++ names.timers) ++ names.threads) ++ names.apcs) ++ names.locks) ≡ None
  pub routines : place n (((((names.dpcs ++ names.timers) ++ names.threads) ++ names.apcs) ++ names.locks) ++ names.routines) ≡ None

-- a name without a place in two lists has no place in both joined
in_neither : (n : List ℕ) (xs ys : List (List ℕ)) → place n xs ≡ None → place n ys ≡ None → place n (xs ++ ys) ≡ None
in_neither n xs ys e f = nowhere_append n xs ys 0 e (λ j. nowhere n ys 0 j f)

-- a name that means nothing is in none of the lists of names
unknown : (n : List ℕ) (names : NameLists) → is_some (meaning n names) ≡ false → Unknown n names
unknown n names e =
    let u = nowhere_of (place n names.dpcs) (place n names.timers) (place n names.threads) (place n names.apcs) (place n names.locks)
    (place n names.routines) e in
    let t = in_neither n names.dpcs names.timers u.0 u.1 in
    let h = in_neither n (names.dpcs ++ names.timers) names.threads t u.2 in
    let a = in_neither n ((names.dpcs ++ names.timers) ++ names.threads) names.apcs h u.3 in
    let l = in_neither n (((names.dpcs ++ names.timers) ++ names.threads) ++ names.apcs) names.locks a u.4 in
    record {
      dpcs = u.0;
      timers = t;
      threads = h;
      apcs = a;
      locks = l;
      routines = in_neither n ((((names.dpcs ++ names.timers) ++ names.threads) ++ names.apcs) ++ names.locks) names.routines l u.5;
    }

-- a new name behind those of its kind, where nothing stands in the kinds behind it
fit_dpc : (names : NameLists) (n : List ℕ) → NamesFit names → names.timers ≡ [] → names.threads ≡ [] → names.apcs ≡ [] → names.locks ≡ [] →
    names.routines ≡ [] →
    is_name n ≡ true → is_some (meaning n names) ≡ false → NamesFit (record names { dpcs = names.dpcs ++ n ∷ [] })
fit_dpc names n fit ntimers nthreads napcs nlocks nroutines named none =
    let u = unknown n names none in
    record {
      dpcs = new_more [] names.dpcs n fit.dpcs named u.dpcs;
      timers = rw ntimers tt;
      threads = rw nthreads tt;
      apcs = rw napcs tt;
      locks = rw nlocks tt;
      routines = rw nroutines tt;
    }

-- a new timer's name keeps that the names fit, if threads, APCs, locks and routines have none yet
fit_timer : (names : NameLists) (n : List ℕ) → NamesFit names → names.threads ≡ [] → names.apcs ≡ [] → names.locks ≡ [] → names.routines ≡ [] →
    is_name n ≡ true → is_some (meaning n names) ≡ false → NamesFit (record names { timers = names.timers ++ n ∷ [] })
fit_timer names n fit nthreads napcs nlocks nroutines named none =
    let u = unknown n names none in
    record {
      dpcs = fit.dpcs;
      timers = new_more names.dpcs names.timers n fit.timers named u.timers;
      threads = rw nthreads tt;
      apcs = rw napcs tt;
      locks = rw nlocks tt;
      routines = rw nroutines tt;
    }

-- a new thread's name keeps that the names fit, if APCs, locks and routines have none yet
fit_thread : (names : NameLists) (n : List ℕ) → NamesFit names → names.apcs ≡ [] → names.locks ≡ [] → names.routines ≡ [] →
    is_name n ≡ true → is_some (meaning n names) ≡ false → NamesFit (record names { threads = names.threads ++ n ∷ [] })
fit_thread names n fit napcs nlocks nroutines named none =
    let u = unknown n names none in
    record {
      dpcs = fit.dpcs;
      timers = fit.timers;
      threads = new_more (names.dpcs ++ names.timers) names.threads n fit.threads named u.threads;
      apcs = rw napcs tt;
      locks = rw nlocks tt;
      routines = rw nroutines tt;
    }

-- a new APC's name keeps that the names fit, if locks and routines have none yet
fit_apc : (names : NameLists) (n : List ℕ) → NamesFit names → names.locks ≡ [] → names.routines ≡ [] →
    is_name n ≡ true → is_some (meaning n names) ≡ false → NamesFit (record names { apcs = names.apcs ++ n ∷ [] })
fit_apc names n fit nlocks nroutines named none =
    let u = unknown n names none in
    record {
      dpcs = fit.dpcs;
      timers = fit.timers;
      threads = fit.threads;
      apcs = new_more ((names.dpcs ++ names.timers) ++ names.threads) names.apcs n fit.apcs named u.apcs;
      locks = rw nlocks tt;
      routines = rw nroutines tt;
    }

-- a new lock's name keeps that the names fit, if routines have none yet
fit_lock : (names : NameLists) (n : List ℕ) → NamesFit names → names.routines ≡ [] →
    is_name n ≡ true → is_some (meaning n names) ≡ false → NamesFit (record names { locks = names.locks ++ n ∷ [] })
fit_lock names n fit nroutines named none =
    let u = unknown n names none in
    record {
      dpcs = fit.dpcs;
      timers = fit.timers;
      threads = fit.threads;
      apcs = fit.apcs;
      locks = new_more (((names.dpcs ++ names.timers) ++ names.threads) ++ names.apcs) names.locks n fit.locks named u.locks;
      routines = rw nroutines tt;
    }

-- a new routine's name keeps that the names fit
fit_routine : (names : NameLists) (n : List ℕ) → NamesFit names →
    is_name n ≡ true → is_some (meaning n names) ≡ false → NamesFit (record names { routines = names.routines ++ n ∷ [] })
fit_routine names n fit named none =
    let u = unknown n names none in
    record {
      dpcs = fit.dpcs;
      timers = fit.timers;
      threads = fit.threads;
      apcs = fit.apcs;
      locks = fit.locks;
      routines = new_more ((((names.dpcs ++ names.timers) ++ names.threads) ++ names.apcs) ++ names.locks) names.routines n fit.routines named u.routines;
    }

-- ---- along the lines

-- the commands of the routines so far, and how many there are
pub record Commanded (all : NameLists) (cpus : ℕ) (rs : List Routine) (cs : List Command) (n : ℕ) : Type 0 where
  pub count : command_count rs + length cs ≡ n
  pub most : n ≤ COMMANDS
  pub routines : AllByRecursion (λ r. AllByRecursion (CommandFits all cpus) r.commands) rs
  pub body : AllByRecursion (CommandFits all cpus) cs

-- what is declared so far
pub record Things (all : NameLists) (cpus : ℕ) (is : List Isr) (ds : List DpcDecl) (ts : List TimerDecl) (hs : List ThreadDecl)
    (xs : List ApcDecl) : Type 0 where
  pub apart : isrs_differ is ≡ true
  pub isrs : AllByRecursion (IsrFits all cpus) is
  pub dpcs : AllByRecursion (DpcFits all) ds
  pub timers : AllByRecursion (TimerFits all) ts
  pub threads : AllByRecursion (ThreadFits all cpus) hs
  pub apcs : AllByRecursion (ApcFits all) xs

pub record Kept (all : NameLists) (w : Walk) : Type 0 where
  pub version : 1 ≤ w.version
  pub cpus : 2 ≤ order w.place → (1 ≤ w.script.cpus) × (w.script.cpus ≤ most_cpus w.version)
  pub no_locks : w.version ≤ 1 → w.names.locks ≡ []
  pub depth : IfSome w.script.depth (λ n. n ≤ 256)
  pub names : NamesFit w.names
  pub commands : Commanded all w.script.cpus w.script.routines w.body w.commands
  pub things : Things all w.script.cpus w.script.isrs w.script.dpcs w.script.timers w.script.threads w.script.apcs

-- a number that is not zero is at least one
one_at_least : (n : ℕ) → (n ≡ 0 → ⊥) → 1 ≤ n
one_at_least zero f = absurd (f refl)
one_at_least (suc n) f = omega arith

-- a count of processors that is taken is at least 1 and at most what the version allows
cpus_range : (w : Walk) (n : ℕ) (new : Walk) → put_cpus w n ≡ Ok new → (1 ≤ n) × (n ≤ most_cpus w.version)
cpus_range w n new e = go (n == 0) (nat_lt (most_cpus w.version) n) refl refl e
  where
    go : (z big : Bool) → (n == 0) ≡ z → nat_lt (most_cpus w.version) n ≡ big →
        cond z (Err BadNumber) (cond big (Err (TooMany what.Cpus)) (Ok (with_cpus w n))) ≡ Ok new → (1 ≤ n) × (n ≤ most_cpus w.version)
    go true big p q e = absurd cc
    go false true p q e = absurd cc
    go false false p q e = let no_zero = eqb-false n 0 p in let low = ltb-false (most_cpus w.version) n q in (one_at_least n no_zero, low)

-- a routine added at the end adds its commands to the count of commands
one_routine : (rs : List Routine) (cs : List Command) (n : ℕ) → command_count rs + length cs ≡ n → command_count (rs ++ record { commands = cs } ∷ []) + 0 ≡ n
one_routine rs cs n e =
    let f : Routine → ℕ = λ r. length r.commands in
    let last : sum_by f (record { commands = cs } ∷ []) ≡ 0 + length cs = refl in
    omega (arith, e, last, sum_by-append f rs (record { commands = cs } ∷ []))

-- a line that is taken keeps what holds of all that was read
act_kept : (all : NameLists) → AreFew all → (w : Walk) (wd : Keyword) (args : List (List ℕ)) (new : Walk) → At w.place wd → since wd ≤ w.version →
    length args ≡ arity wd →
    act all w wd args ≡ Ok new → Good w → Kept all w → Kept all new
act_kept all few w keyword.Version args new at old len e good k0 =
    let b = bind_ok (read_number 4294967295 (first args)) (λ n. ok_if (n == 2) (with_version w) BadNumber) new e in
    let o = ok_if_ok (b.value == 2) (with_version w) BadNumber new b.then in
    subst (Kept all) o.1 (record {
      version = k0.version;
      cpus = λ h. absurd (omega (arith, h));
      no_locks = k0.no_locks;
      depth = k0.depth;
      names = k0.names;
      commands = k0.commands;
      things = k0.things;
    })
act_kept all few w keyword.Cpus args new at old len e good k0 =
    let b = bind_ok (read_number 4294967295 (first args)) (put_cpus w) new e in
    let n = b.value in
    subst (Kept all) (put_cpus_ok w n new b.then) (record {
      version = k0.version;
      cpus = λ h. cpus_range w n new b.then;
      no_locks = k0.no_locks;
      depth = k0.depth;
      names = k0.names;
      commands = record {
        count = k0.commands.count;
        most = k0.commands.most;
        routines = none_all (λ (r : Routine). AllByRecursion (CommandFits all n) r.commands) w.script.routines
            (empty w good InRoutines (omega (arith, at.1))).1;
        body = none_all (CommandFits all n) w.body (empty w good InRoutine (omega (arith, at.1))).0;
      };
      things = record {
        apart = k0.things.apart;
        isrs = none_all (IsrFits all n) w.script.isrs (empty w good InIsrs (omega (arith, at.1)));
        dpcs = k0.things.dpcs;
        timers = k0.things.timers;
        threads = none_all (ThreadFits all n) w.script.threads (empty w good InThreads (omega (arith, at.1))).1;
        apcs = k0.things.apcs;
      };
    })
act_kept all few w keyword.Depth args new at old len e good k0 =
    let b = bind_ok (read_number 256 (first args)) (λ n. ok (with_depth w n)) new e in
    subst (Kept all) (ok_is (with_depth w b.value) new b.then) (record {
      version = k0.version;
      cpus = λ h. k0.cpus (omega (arith, at.0));
      no_locks = k0.no_locks;
      depth = (number_takes 256 (lit< tt)).fits (first args) b.value b.is;
      names = k0.names;
      commands = k0.commands;
      things = k0.things;
    })
act_kept all few w keyword.Threaded args new at old len e good k0 =
    let b = bind_ok (read_on_off (first args)) (λ on. ok (with_threaded w on)) new e in
    subst (Kept all) (ok_is (with_threaded w b.value) new b.then) (record {
      version = k0.version;
      cpus = λ h. k0.cpus (omega (arith, at.0));
      no_locks = k0.no_locks;
      depth = k0.depth;
      names = k0.names;
      commands = k0.commands;
      things = k0.things;
    })
act_kept all few w keyword.Isr args new at old len e good k0 =
    let b = bind_ok (isr_of all w.script.cpus args) (λ isr. ok_if (is_none (isr_routine w.script.isrs isr.cpu isr.level)) (with_isr w isr) NameTwice) new e in
    let o = ok_if_ok (is_none (isr_routine w.script.isrs b.value.cpu b.value.level)) (with_isr w b.value) NameTwice new b.then in
    let t = isr_takes all w.script.cpus few args b.value b.is len in
    subst (Kept all) o.1 (record {
      version = k0.version;
      cpus = λ h. k0.cpus (omega (arith, at.0));
      no_locks = k0.no_locks;
      depth = k0.depth;
      names = k0.names;
      commands = k0.commands;
      things = record {
        apart = one_apart w.script.isrs b.value k0.things.apart o.0;
        isrs = all_more (IsrFits all w.script.cpus) w.script.isrs b.value k0.things.isrs t.fits;
        dpcs = k0.things.dpcs;
        timers = k0.things.timers;
        threads = k0.things.threads;
        apcs = k0.things.apcs;
      };
    })
act_kept all few w (keyword.Dpc b) args new at old len e good k0 =
    let put : List ℕ → DpcDecl → Result Walk ScriptKind = λ name x. ok_if (nat_lt (length w.script.dpcs) 256) (with_dpc w name x) (TooMany what.Dpcs) in
    let d = declared_ok w.names (dpc_of all b) put args new e in
    let o = ok_if_ok (nat_lt (length w.script.dpcs) 256) (with_dpc w d.name d.thing) (TooMany what.Dpcs) new d.made in
    let a = args_parts args 1 len in
    let t = dpc_line_takes all few b (rest args) d.thing d.read_is a.1 in
    subst (Kept all) o.1 (record {
      version = k0.version;
      cpus = λ h. k0.cpus (omega (arith, at.0));
      no_locks = k0.no_locks;
      depth = k0.depth;
      names = fit_dpc w.names d.name k0.names (empty w good InTimers (omega (arith, at.1))).0 (empty w good InThreads (omega (arith, at.1))).0
          (empty w good InApcs (omega (arith, at.1))).0 (empty w good InLocks (omega (arith, at.1)))
          (empty w good InRoutines (omega (arith, at.1))).0 d.named d.none;
      commands = k0.commands;
      things = record {
        apart = k0.things.apart;
        isrs = k0.things.isrs;
        dpcs = all_more (DpcFits all) w.script.dpcs d.thing k0.things.dpcs t.fits;
        timers = k0.things.timers;
        threads = k0.things.threads;
        apcs = k0.things.apcs;
      };
    })
act_kept all few w keyword.Timer args new at old len e good k0 =
    let put : List ℕ → TimerDecl → Result Walk ScriptKind = λ name x. ok_if (nat_lt (length w.script.timers) 64) (with_timer w name x) (TooMany what.Timers) in
    let d = declared_ok w.names (timer_of all) put args new e in
    let o = ok_if_ok (nat_lt (length w.script.timers) 64) (with_timer w d.name d.thing) (TooMany what.Timers) new d.made in
    let a = args_parts args 1 len in
    let t = timer_line_takes all few (rest args) d.thing d.read_is a.1 in
    subst (Kept all) o.1 (record {
      version = k0.version;
      cpus = λ h. k0.cpus (omega (arith, at.0));
      no_locks = k0.no_locks;
      depth = k0.depth;
      names = fit_timer w.names d.name k0.names (empty w good InThreads (omega (arith, at.1))).0 (empty w good InApcs (omega (arith, at.1))).0
          (empty w good InLocks (omega (arith, at.1))) (empty w good InRoutines (omega (arith, at.1))).0 d.named d.none;
      commands = k0.commands;
      things = record {
        apart = k0.things.apart;
        isrs = k0.things.isrs;
        dpcs = k0.things.dpcs;
        timers = all_more (TimerFits all) w.script.timers d.thing k0.things.timers t.fits;
        threads = k0.things.threads;
        apcs = k0.things.apcs;
      };
    })
act_kept all few w keyword.Thread args new at old len e good k0 =
    let put : List ℕ → ThreadDecl → Result Walk ScriptKind = λ name x. ok_if (nat_lt (length w.script.threads) 64) (with_thread w name x)
    (TooMany what.Threads) in
    let d = declared_ok w.names (thread_of all w.script.cpus) put args new e in
    let o = ok_if_ok (nat_lt (length w.script.threads) 64) (with_thread w d.name d.thing) (TooMany what.Threads) new d.made in
    let a = args_parts args 2 len in
    let t = thread_line_takes all w.script.cpus few (rest args) d.thing d.read_is a.1 in
    subst (Kept all) o.1 (record {
      version = k0.version;
      cpus = λ h. k0.cpus (omega (arith, at.0));
      no_locks = k0.no_locks;
      depth = k0.depth;
      names = fit_thread w.names d.name k0.names (empty w good InApcs (omega (arith, at.1))).0 (empty w good InLocks (omega (arith, at.1)))
          (empty w good InRoutines (omega (arith, at.1))).0 d.named d.none;
      commands = k0.commands;
      things = record {
        apart = k0.things.apart;
        isrs = k0.things.isrs;
        dpcs = k0.things.dpcs;
        timers = k0.things.timers;
        threads = all_more (ThreadFits all w.script.cpus) w.script.threads d.thing k0.things.threads t.fits;
        apcs = k0.things.apcs;
      };
    })
act_kept all few w (keyword.Apc k) args new at old len e good k0 =
    let put : List ℕ → ApcDecl → Result Walk ScriptKind = λ name x. ok_if (nat_lt (length w.script.apcs) 256) (with_apc w name x) (TooMany what.Apcs) in
    let d = declared_ok w.names (apc_of all k) put args new e in
    let o = ok_if_ok (nat_lt (length w.script.apcs) 256) (with_apc w d.name d.thing) (TooMany what.Apcs) new d.made in
    let a = args_parts args (apc_fields k) (len ∙ apc_arity k) in
    let t = apc_line_takes all few k (rest args) d.thing d.read_is a.1 in
    subst (Kept all) o.1 (record {
      version = k0.version;
      cpus = λ h. k0.cpus (omega (arith, at.0));
      no_locks = k0.no_locks;
      depth = k0.depth;
      names = fit_apc w.names d.name k0.names (empty w good InLocks (omega (arith, at.1))) (empty w good InRoutines (omega (arith, at.1))).0 d.named d.none;
      commands = k0.commands;
      things = record {
        apart = k0.things.apart;
        isrs = k0.things.isrs;
        dpcs = k0.things.dpcs;
        timers = k0.things.timers;
        threads = k0.things.threads;
        apcs = all_more (ApcFits all) w.script.apcs d.thing k0.things.apcs t.fits;
      };
    })
act_kept all few w keyword.Spinlock args new at old len e good k0 =
    let b = bind_ok (new_name w.names (first args)) (λ (name : List ℕ). ok_if (nat_lt w.script.locks 64) (with_lock w name)
    (TooMany what.Spinlocks)) new e in
    let o = ok_if_ok (nat_lt w.script.locks 64) (with_lock w b.value) (TooMany what.Spinlocks) new b.then in
    let f = (new_name_takes w.names).fits (first args) b.value b.is in
    subst (Kept all) o.1 (record {
      version = k0.version;
      cpus = λ h. k0.cpus (omega (arith, at.0));
      no_locks = λ h. absurd (omega (arith, h, old));
      depth = k0.depth;
      names = fit_lock w.names b.value k0.names (empty w good InRoutines (omega (arith, at.1))).0 f.0 f.1;
      commands = k0.commands;
      things = k0.things;
    })
act_kept all few w keyword.Routine args new at old len e good k0 =
    let b = bind_ok (new_name w.names (first args)) (λ (name : List ℕ). ok_if (nat_lt (length w.script.routines) 256) (with_routine w name)
    (TooMany what.Routines)) new e in
    let o = ok_if_ok (nat_lt (length w.script.routines) 256) (with_routine w b.value) (TooMany what.Routines) new b.then in
    let f = (new_name_takes w.names).fits (first args) b.value b.is in
    subst (Kept all) o.1 (record {
      version = k0.version;
      cpus = λ h. k0.cpus (omega (arith, at.0));
      no_locks = k0.no_locks;
      depth = k0.depth;
      names = fit_routine w.names b.value k0.names f.0 f.1;
      commands = k0.commands;
      things = k0.things;
    })
act_kept all few w keyword.Exit args new at old len e good k0 =
    subst (Kept all) (ok_is (with_exit w) new e) (record {
      version = k0.version;
      cpus = λ h. k0.cpus (omega (arith, at.0));
      no_locks = k0.no_locks;
      depth = k0.depth;
      names = k0.names;
      commands = record {
        count = one_routine w.script.routines w.body w.commands k0.commands.count;
        most = k0.commands.most;
        routines = all_more (λ (r : Routine). AllByRecursion (CommandFits all w.script.cpus) r.commands) w.script.routines
            (record { commands = w.body }) k0.commands.routines k0.commands.body;
        body = tt;
      };
      things = k0.things;
    })
act_kept all few w (keyword.Call verb) args new at old len e good k0 =
    let b = bind_ok (command_of all w.script.cpus verb args) (λ c. ok_if (nat_lt w.commands 8192) (with_command w c) (TooMany what.Commands)) new e in
    let c = b.value in
    let t = command_takes all w.script.cpus few verb args c b.is len in
    let o = ok_if_ok (nat_lt w.commands 8192) (with_command w c) (TooMany what.Commands) new b.then in
    let lt = ltb-true w.commands 8192 o.0 in
    subst (Kept all) o.1 (record {
      version = k0.version;
      cpus = λ h. k0.cpus (omega (arith, at.0));
      no_locks = k0.no_locks;
      depth = k0.depth;
      names = k0.names;
      commands = record {
        count = omega (arith, k0.commands.count, length-append w.body (c ∷ []));
        most = omega arith;
        routines = k0.commands.routines;
        body = all_more (CommandFits all w.script.cpus) w.body c k0.commands.body t.fits;
      };
      things = k0.things;
    })

-- ---- all lines

-- at the start, with nothing read, what holds of all that was read holds
kept_start : (all : NameLists) (v : ℕ) → 1 ≤ v → Kept all (start v)
kept_start all v one = record {
  version = one;
  cpus = λ h. (let low = first_low v in absurd (omega (arith, h, low)));
  no_locks = λ h. refl;
  depth = tt;
  names = record { dpcs = tt; timers = tt; threads = tt; apcs = tt; locks = tt; routines = tt };
  commands = record {
    count = refl;
    most = omega arith;
    routines = tt;
    body = tt;
  };
  things = record {
    apart = refl;
    isrs = tt;
    dpcs = tt;
    timers = tt;
    threads = tt;
    apcs = tt;
  };
}

abbrev TextLine : Type 0
TextLine = List ℕ × Bool

-- the walk ends in a state that is kept, good and few
record Sane (all : NameLists) (input : Input) : Type 0 where
  pub last : Walk
  pub number : ℕ
  pub finishes : finish last.place last number ≡ Ok input
  pub kept : Kept all last
  pub good : Good last
  pub few : AreFew last.names

-- a walk that makes an input ends in a state of which all that is kept holds
sane : (all : NameLists) → AreFew all → (w : Walk) (n : ℕ) (ls : List TextLine) (input : Input) → walk all w n ls ≡ Ok input → Good w → AreFew w.names →
    Kept all w → Sane all input
sane all small w n [] input e good few kept = record { last = w; number = n; finishes = e; kept = kept; good = good; few = few }
sane all small w n (line ∷ more) input e good few kept =
    let t = went all w n line more input e in
    let s = step_named all w t.row t.new t.steps good few in
    let l = step_ok all w t.row t.new t.steps in
    sane all small t.new (n + 1) more input t.goes_on s.good s.few (act_kept all small w l.keyword (rest t.row) t.new l.at l.since l.count l.acts good kept)

-- the names of locks that a walk knows are none in version 1
no_locks_in : (names : NameLists) → names.locks ≡ [] → length names.locks ≡ 0
no_locks_in names e = ap (λ (ns : List (List ℕ)). length ns) e

-- what is read fits
pub reading_fits : (bytes : List ℕ) (input : Input) → reading bytes ≡ Ok input → Fit input
reading_fits bytes input e =
    let v = version_of (lines bytes) in
    let range = version_range (lines bytes) in
    let good = good_start v range.1 in
    let all = names_from v no_names (lines bytes) in
    let names = ends all (start v) 1 (lines bytes) input e good few_none in
    let small : AreFew all = subst AreFew (sym names.names) names.few in
    let s = sane all small (start v) 1 (lines bytes) input e good few_none (kept_start all v range.0) in
    let g = finished names.last.place names.last names.number input names.finishes in
    let f = finished s.last.place s.last s.number input s.finishes in
    let same : all ≡ s.last.names = names.names ∙ ap (λ (i : Input). i.names) g.made_is ∙ sym (ap (λ (i : Input). i.names) f.made_is) in
    let k : Kept s.last.names s.last = subst (λ (a : NameLists). Kept a s.last) same s.kept in
    let closed = empty s.last s.good InRoutine (omega (arith, f.high)) in
    subst Fit f.made_is (record {
      version = (k.version, s.good.version);
      cpus = ((k.cpus f.low).0, most_64 s.last.version s.last.script.cpus (k.cpus f.low).1);
      most = (k.cpus f.low).1;
      words = record { from = k.version; no_locks = λ h. no_locks_in s.last.names (k.no_locks h) };
      depth = k.depth;
      few = s.few;
      dpc_count = s.good.dpcs;
      timer_count = s.good.timers;
      thread_count = s.good.threads;
      apc_count = s.good.apcs;
      lock_count = s.good.locks;
      routine_count = closed.1;
      command_count = omega (arith, k.commands.count, k.commands.most);
      names = k.names;
      apart = k.things.apart;
      isrs = k.things.isrs;
      dpcs = k.things.dpcs;
      timers = k.things.timers;
      threads = k.things.threads;
      apcs = k.things.apcs;
      routines = k.commands.routines;
    })
