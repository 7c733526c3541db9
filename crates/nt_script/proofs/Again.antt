-- The text of an input is read as the input: one line after the other.
use Rattle.std.proofs.Common.{◌≡◌, ℕ, suc, ◌+◌, ◌<◌, ◌≤◌, Bool, true, List, [], ◌∷◌, ◌++◌, length, map, None, Result, Ok, refl, sym, ◌∙◌, ap, subst}
use Rattle.std.proofs.Common.{append_assoc, add-zero, arith, lit<, lit≤}
use Rattle.std.specs.Prelude.{decimal, is_none, nat_lt, ◌==◌}
use Rattle.std.specs.List.{AllByRecursion, sum_by}
use Rattle.std.proofs.lemmas.Bool.{lt-ltb, le-ltb, ne_eqb}
use Rattle.std.proofs.lemmas.List.Sums.{sum_by-cons}
use Rattle.std.proofs.lemmas.List.{append-nil, length-append}
use Rattle.nt_text.specs.declared.kind.ScriptKind.{ScriptKind}
use Rattle.nt_text.specs.declared.kind.ScriptKind.TheVariants.{BadNumber, TooMany}
use Rattle.nt_text.specs.declared.kind.What10.TheVariants as what
use Rattle.nt_text.specs.Fields.{is_name}
use Rattle.nt_event.specs.declared.commands.Command.{Command}
use Rattle.nt_event.specs.declared.scripts.Script.{Script}
use Rattle.nt_event.specs.declared.scripts.Routine.{Routine}
use Rattle.nt_event.specs.declared.scripts.Isr.{Isr}
use Rattle.nt_event.specs.declared.scripts.DpcDecl.{DpcDecl}
use Rattle.nt_event.specs.declared.scripts.TimerDecl.{TimerDecl}
use Rattle.nt_event.specs.declared.scripts.ThreadDecl.{ThreadDecl}
use Rattle.nt_event.specs.declared.scripts.ApcDecl.{ApcDecl}
use Rattle.nt_event.specs.Script.{isrs_differ, isr_of as isr_routine}
use Rattle.nt_line.specs.declared.keywords.Keyword.{Keyword}
use Rattle.nt_line.specs.declared.keywords.Keyword.TheVariants as keyword
use Rattle.nt_line.specs.declared.keywords.Place.{Place}
use Rattle.nt_line.specs.declared.keywords.Place.TheVariants.{InIsrs, InDpcs, InTimers, InThreads, InApcs, InLocks, InRoutine}
use Rattle.nt_script.specs.declared.walk.Walk.{Walk}
use Rattle.nt_line.specs.Places.{place}
use Rattle.nt_line.specs.NameLists.{NameLists, meaning}
use Rattle.nt_line.specs.Keywords.{text_of, arity, since}
use Rattle.nt_line.specs.Results.{◌>>=◌, ok_if}
use Rattle.nt_line.specs.Fields.{new_name, on_off_text}
use Rattle.nt_line.specs.Declarations.{dpc_of, timer_of, thread_of, apc_of}
use Rattle.nt_script.specs.Reading.{declaration, counted, step, act, with_version, with_cpus, with_depth, with_threaded, with_isr, with_dpc, with_timer}
use Rattle.nt_script.specs.Reading.{with_thread, with_apc, with_lock, with_routine, with_exit, with_command}
use Rattle.nt_line.specs.Fits.{IsrFits, DpcFits, TimerFits, ThreadFits, ApcFits, CommandFits}
use Rattle.nt_text.specs.Lines.{Row}
use Rattle.nt_line.specs.Rows.{number_row, isr_args, isr_row, dpc_args, dpc_row, timer_args, timer_row, thread_args, thread_row, apc_args, apc_row, lock_row}
use Rattle.nt_line.specs.Rows.{command_args, command_row}
use Rattle.nt_script.specs.Text.{declared_rows, begun_rows, exit_row, routine_rows}
use Rattle.nt_line.specs.NameLists.{AreNew}
use Rattle.nt_line.proofs.FieldTexts.{number_again, on_off_again}
use Rattle.nt_line.proofs.Spelled.{AreRead, command_again, command_keyword, args_count, isr_again, dpc_again, timer_again, thread_again, apc_again, apc_count}
use Rattle.nt_line.proofs.Found.{nowhere_both}
use Rattle.nt_line.proofs.Words.{HasWords, keyword_again, command_since}
use Rattle.nt_script.specs.Versions.{most_cpus}
use Rattle.nt_script.proofs.Fit.{most_64}
use Rattle.nt_script.proofs.Pairs.{no_pair}
use Rattle.nt_script.proofs.Taken.{At, at_again}
use Rattle.nt_script.proofs.Steps.{Between}
use Rattle.nt_script.proofs.Acts.{apc_arity}

-- ---- one row

-- a row with as many fields as its keyword wants passes the count
counted_again : (n : ℕ) → counted n n ≡ Ok true
counted_again n = rw (le-ltb n n (omega arith)) refl

-- a row of a keyword that may stand there, with its fields
step_again : (all : NameLists) (w : Walk) (wd : Keyword) (args : Row) → At w.place wd → since wd ≤ w.version → length args ≡ arity wd →
    step all w (text_of wd ∷ args) ≡ act all w wd args
step_again all w wd args at old len = rw (keyword_again w.version wd old, at_again w.place wd at, len, counted_again (arity wd)) refl

-- a name that means nothing yet is taken as a new name
new_again : (names : NameLists) (n : List ℕ) → is_name n ≡ true → meaning n names ≡ None → new_name names n ≡ Ok n
new_again names n named none = rw (named, none) refl

-- a declaration of a new name with fields that can be read puts the thing that they are read as
declaration_again : {A : Type 0} (names : NameLists) (read : Row → Result A ScriptKind) (put : List ℕ → A → Result Walk ScriptKind) (n : List ℕ) (args : Row)
    (x : A) → is_name n ≡ true → meaning n names ≡ None → read args ≡ Ok x → declaration names read put (n ∷ args) ≡ put n x
declaration_again names read put n args x named none e = rw (new_again names n named none, e) refl

-- ---- several rows

-- the rows lead from one state to another
abbrev pub Steps : NameLists → Walk → List Row → Walk → Type 0
Steps all w [] last = w ≡ last
Steps all w (row ∷ rows) last = (mid : Walk) × (step all w row ≡ Ok mid) × Steps all mid rows last

-- rows that lead to a state, and rows that lead on from it, lead there as one list
pub steps_then : (all : NameLists) (w : Walk) (a b : List Row) (mid last : Walk) → Steps all w a mid → Steps all mid b last → Steps all w (a ++ b) last
steps_then all w [] b mid last s t = subst (λ (m : Walk). Steps all m b last) (sym s) t
steps_then all w (row ∷ a) b mid last s t = (s.0, s.1, steps_then all s.0 a b mid last s.2 t)

-- the same steps, to an equal state
steps_to : {A B : Type 0} (all : NameLists) (w : Walk) (rows : List Row) (make : A → B → Place → Walk) (a a' : A) (b b' : B) (p p' : Place) → a ≡ a' → b ≡ b' →
    p ≡ p' → Steps all w rows (make a b p) → Steps all w rows (make a' b' p')
steps_to all w rows make a a' b b' p p' ea eb ep s =
    let one : Steps all w rows (make a' b p) = subst (λ a. Steps all w rows (make a b p)) ea s in
    let two : Steps all w rows (make a' b' p) = subst (λ b. Steps all w rows (make a' b p)) eb one in
    subst (λ p. Steps all w rows (make a' b' p)) ep two

-- a list with room for one more and the rest has room for the rest after it got the one
more_room : {A : Type 0} (xs : List A) (x : A) (n most : ℕ) → length xs + suc n ≤ most → length (xs ++ x ∷ []) + n ≤ most
more_room xs x n most h = omega (arith, h, length-append xs (x ∷ []))

-- a list with room for one more and others is shorter than the limit
less_room : {A : Type 0} (xs : List A) (n most : ℕ) → length xs + suc n ≤ most → length xs < most
less_room xs n most h = omega arith

abbrev pub place_after : {A : Type 0} → List A → Place → Place → Place
place_after [] p q = p
place_after (x ∷ xs) p q = q

-- a place that is left only for itself stays the same
stays : {A : Type 0} (xs : List A) (p : Place) → place_after xs p p ≡ p
stays [] p = refl
stays (x ∷ xs) p = refl

-- ---- a part of things with names, read from what was read of it before

-- if each single row of a part can be read, the whole part is read, row after row
pub part_run : {A : Type 0} (all : NameLists) (row : List ℕ → A → Row) (make : List (List ℕ) → List A → Place → Walk) (here : Place) (last : ℕ)
    (before : List (List ℕ)) (Fits : A → Type 0) (most : ℕ)
    → ((ns : List (List ℕ)) (xs : List A) (p : Place) (n : List ℕ) (x : A) → Between 2 last p → is_name n ≡ true → place n (before ++ ns) ≡ None → Fits x →
    length xs < most → step all (make ns xs p) (row n x) ≡ Ok (make (ns ++ n ∷ []) (xs ++ x ∷ []) here))
    → Between 2 last here
    → (ns : List (List ℕ)) (xs : List A) (ns' : List (List ℕ)) (xs' : List A) (p : Place) → Between 2 last p → length ns ≡ length xs →
    AreNew (before ++ ns') ns → AllByRecursion Fits xs → length xs' + length xs ≤ most
    → Steps all (make ns' xs' p) (declared_rows row ns xs) (make (ns' ++ ns) (xs' ++ xs) (place_after xs p here))
part_run all row make here last before Fits most one can [] [] ns' xs' p at len new fit room = rw (append-nil ns', append-nil xs') refl
part_run all row make here last before Fits most one can [] (x ∷ xs) ns' xs' p at len new fit room = absurd (omega arith)
part_run all row make here last before Fits most one can (n ∷ ns) [] ns' xs' p at len new fit room = absurd (omega arith)
part_run all row make here last before Fits most one can (n ∷ ns) (x ∷ xs) ns' xs' p at len new fit room =
    let mid = make (ns' ++ n ∷ []) (xs' ++ x ∷ []) here in
    let new' : AreNew (before ++ (ns' ++ n ∷ [])) ns = subst (λ (b : List (List ℕ)). AreNew b ns) (append_assoc before ns' (n ∷ [])) new.2 in
    let more = part_run all row make here last before Fits most one can ns xs (ns' ++ n ∷ []) (xs' ++ x ∷ []) here can (omega arith) new' fit.1
    (more_room xs' x (length xs) most room) in (
      mid,
      one ns' xs' p n x at new.0 new.1 fit.0 (less_room xs' (length xs) most room),
      steps_to all mid (declared_rows row ns xs) make ((ns' ++ n ∷ []) ++ ns) (ns' ++ n ∷ ns) ((xs' ++ x ∷ []) ++ xs) (xs' ++ x ∷ xs)
          (place_after xs here here) here
          (append_assoc ns' (n ∷ []) ns) (append_assoc xs' (x ∷ []) xs) (stays xs here) more,
    )

-- ---- each part

abbrev pub after_isrs : Walk → List Isr → Place → Walk
after_isrs w xs p = record w { script = record (w.script) { isrs = xs }; place = p }

-- the line of an interrupt routine for a pair of processor and level that is free is read as that routine
isr_step : (all : NameLists) (w : Walk) (x : Isr) → AreRead all → HasWords all w.version → Between 2 5 w.place → w.script.cpus ≤ 64 →
    IsrFits all w.script.cpus x →
    is_none (isr_routine w.script.isrs x.cpu x.level) ≡ true → step all w (isr_row all x) ≡ Ok (with_isr w x)
isr_step all w x are has at le fit new = step_again all w keyword.Isr (isr_args all x) at has.from refl
    ∙ rw (isr_again all w.script.cpus are le x fit, new) refl

-- the rows of interrupt routines for different pairs of processor and level are read as these routines
pub isrs_run : (all : NameLists) → AreRead all → (w : Walk) → HasWords all w.version → w.script.cpus ≤ 64 → (xs xs' : List Isr) (p : Place) → Between 2 5 p →
    AllByRecursion (IsrFits all w.script.cpus) xs → isrs_differ (xs' ++ xs) ≡ true →
    Steps all (after_isrs w xs' p) (map (isr_row all) xs) (after_isrs w (xs' ++ xs) (place_after xs p InIsrs))
isrs_run all are w has le [] xs' p at fit apart = rw (append-nil xs') refl
isrs_run all are w has le (x ∷ xs) xs' p at fit apart =
    let mid = after_isrs w (xs' ++ x ∷ []) InIsrs in
    let apart' : isrs_differ ((xs' ++ x ∷ []) ++ xs) ≡ true = rw (append_assoc xs' (x ∷ []) xs) apart in
    let more = isrs_run all are w has le xs (xs' ++ x ∷ []) InIsrs (omega arith, omega arith) fit.1 apart' in (
      mid,
      isr_step all (after_isrs w xs' p) x are has at le fit.0 (no_pair xs' x xs apart),
      steps_to all mid (map (isr_row all) xs) (λ (ys : List Isr) (n : ℕ) (q : Place). after_isrs w ys q) ((xs' ++ x ∷ []) ++ xs) (xs' ++ x ∷ xs) 0 0
          (place_after xs InIsrs InIsrs) InIsrs
          (append_assoc xs' (x ∷ []) xs) refl (stays xs InIsrs) more,
    )

abbrev pub after_dpcs : Walk → List (List ℕ) → List DpcDecl → Place → Walk
after_dpcs w ns xs p = record w { script = record (w.script) { dpcs = xs }; names = record (w.names) { dpcs = ns }; place = p }

-- the line of a DPC with a new name is read as the DPC, if fewer than 256 were read
dpc_step : (all : NameLists) (w : Walk) (n : List ℕ) (x : DpcDecl) → AreRead all → HasWords all w.version → Between 2 6 w.place → is_name n ≡ true →
    meaning n w.names ≡ None →
    (DpcFits all) x → length w.script.dpcs < 256 → step all w (dpc_row all n x) ≡ Ok (with_dpc w n x)
dpc_step all w n x are has at named none fit room =
    let put : List ℕ → DpcDecl → Result Walk ScriptKind = λ name x. ok_if (nat_lt (length w.script.dpcs) 256) (with_dpc w name x) (TooMany what.Dpcs) in
    step_again all w (keyword.Dpc x.threaded) (n ∷ dpc_args all x) at has.from refl
    ∙ declaration_again w.names (dpc_of all x.threaded) put n (dpc_args all x) x named none (dpc_again all are x fit)
    ∙ rw (lt-ltb (length w.script.dpcs) 256 room) refl

-- the rows of up to 256 DPC objects with new names are read as these objects
pub dpcs_run : (all : NameLists) → AreRead all → (w : Walk) → HasWords all w.version → w.names.timers ≡ [] → w.names.threads ≡ [] → w.names.apcs ≡ [] →
    w.names.locks ≡ [] → w.names.routines ≡ [] →
    (ns : List (List ℕ)) (xs : List DpcDecl) (ns' : List (List ℕ)) (xs' : List DpcDecl) (p : Place) → Between 2 6 p → length ns ≡ length xs →
    AreNew ([] ++ ns') ns → AllByRecursion (DpcFits all) xs → length xs' + length xs ≤ 256
    → Steps all (after_dpcs w ns' xs' p) (declared_rows (dpc_row all) ns xs) (after_dpcs w (ns' ++ ns) (xs' ++ xs) (place_after xs p InDpcs))
dpcs_run all are w has nt nh na nk nr =
    part_run all (dpc_row all) (after_dpcs w) InDpcs 6 [] (DpcFits all) 256
    (λ ns xs p n x at named none fit room.
    let unknown : meaning n (record (w.names) { dpcs = ns }) ≡ None = rw (none, nt, nh, na, nk, nr) refl in
    dpc_step all (after_dpcs w ns xs p) n x are has at named unknown fit room)
    (omega arith, omega arith)

abbrev pub after_timers : Walk → List (List ℕ) → List TimerDecl → Place → Walk
after_timers w ns xs p = record w { script = record (w.script) { timers = xs }; names = record (w.names) { timers = ns }; place = p }

-- the line of a timer with a new name is read as the timer, if fewer than 64 were read
timer_step : (all : NameLists) (w : Walk) (n : List ℕ) (x : TimerDecl) → AreRead all → HasWords all w.version → Between 2 7 w.place → is_name n ≡ true →
    meaning n w.names ≡ None →
    (TimerFits all) x → length w.script.timers < 64 → step all w (timer_row all n x) ≡ Ok (with_timer w n x)
timer_step all w n x are has at named none fit room =
    let put : List ℕ → TimerDecl → Result Walk ScriptKind = λ name x. ok_if (nat_lt (length w.script.timers) 64) (with_timer w name x) (TooMany what.Timers) in
    step_again all w keyword.Timer (n ∷ timer_args all x) at has.from refl
    ∙ declaration_again w.names (timer_of all) put n (timer_args all x) x named none (timer_again all are x fit)
    ∙ rw (lt-ltb (length w.script.timers) 64 room) refl

-- the rows of up to 64 timers with new names are read as these timers
pub timers_run : (all : NameLists) → AreRead all → (w : Walk) → HasWords all w.version → w.names.threads ≡ [] → w.names.apcs ≡ [] → w.names.locks ≡ [] →
    w.names.routines ≡ [] →
    (ns : List (List ℕ)) (xs : List TimerDecl) (ns' : List (List ℕ)) (xs' : List TimerDecl) (p : Place) → Between 2 7 p → length ns ≡ length xs →
    AreNew (w.names.dpcs ++ ns') ns → AllByRecursion (TimerFits all) xs → length xs' + length xs ≤ 64
    → Steps all (after_timers w ns' xs' p) (declared_rows (timer_row all) ns xs) (after_timers w (ns' ++ ns) (xs' ++ xs) (place_after xs p InTimers))
timers_run all are w has nh na nk nr =
    part_run all (timer_row all) (after_timers w) InTimers 7 w.names.dpcs (TimerFits all) 64
    (λ ns xs p n x at named none fit room.
    let m1 = nowhere_both n w.names.dpcs ns 0 none in
    let unknown : meaning n (record (w.names) { timers = ns }) ≡ None = rw (m1.0, m1.1, nh, na, nk, nr) refl in
    timer_step all (after_timers w ns xs p) n x are has at named unknown fit room)
    (omega arith, omega arith)

abbrev pub after_threads : Walk → List (List ℕ) → List ThreadDecl → Place → Walk
after_threads w ns xs p = record w { script = record (w.script) { threads = xs }; names = record (w.names) { threads = ns }; place = p }

-- the line of a thread with a new name is read as the thread, if fewer than 64 were read
thread_step : (all : NameLists) (w : Walk) (n : List ℕ) (x : ThreadDecl) → AreRead all → HasWords all w.version → Between 2 8 w.place → w.script.cpus ≤ 64 →
    is_name n ≡ true →
    meaning n w.names ≡ None → (ThreadFits all w.script.cpus) x → length w.script.threads < 64 → step all w (thread_row all n x) ≡ Ok (with_thread w n x)
thread_step all w n x are has at le named none fit room =
    let put : List ℕ → ThreadDecl → Result Walk ScriptKind = λ name x. ok_if (nat_lt (length w.script.threads) 64) (with_thread w name x)
    (TooMany what.Threads) in
    step_again all w keyword.Thread (n ∷ thread_args all x) at has.from refl
    ∙ declaration_again w.names (thread_of all w.script.cpus) put n (thread_args all x) x named none (thread_again all w.script.cpus are le x fit)
    ∙ rw (lt-ltb (length w.script.threads) 64 room) refl

-- the rows of up to 64 threads with new names are read as these threads
pub threads_run : (all : NameLists) → AreRead all → (w : Walk) → HasWords all w.version → w.script.cpus ≤ 64 → w.names.apcs ≡ [] → w.names.locks ≡ [] →
    w.names.routines ≡ [] →
    (ns : List (List ℕ)) (xs : List ThreadDecl) (ns' : List (List ℕ)) (xs' : List ThreadDecl) (p : Place) → Between 2 8 p → length ns ≡ length xs →
    AreNew ((w.names.dpcs ++ w.names.timers) ++ ns') ns → AllByRecursion (ThreadFits all w.script.cpus) xs → length xs' + length xs ≤ 64
    → Steps all (after_threads w ns' xs' p) (declared_rows (thread_row all) ns xs) (after_threads w (ns' ++ ns) (xs' ++ xs) (place_after xs p InThreads))
threads_run all are w has le na nk nr =
    part_run all (thread_row all) (after_threads w) InThreads 8 (w.names.dpcs ++ w.names.timers) (ThreadFits all w.script.cpus) 64
    (λ ns xs p n x at named none fit room.
    let m2 = nowhere_both n (w.names.dpcs ++ w.names.timers) ns 0 none in
    let m1 = nowhere_both n w.names.dpcs w.names.timers 0 m2.0 in
    let unknown : meaning n (record (w.names) { threads = ns }) ≡ None = rw (m1.0, m1.1, m2.1, na, nk, nr) refl in
    thread_step all (after_threads w ns xs p) n x are has at le named unknown fit room)
    (omega arith, omega arith)

abbrev pub after_apcs : Walk → List (List ℕ) → List ApcDecl → Place → Walk
after_apcs w ns xs p = record w { script = record (w.script) { apcs = xs }; names = record (w.names) { apcs = ns }; place = p }

-- the line of an APC with a new name is read as the APC, if fewer than 256 were read
apc_step : (all : NameLists) (w : Walk) (n : List ℕ) (x : ApcDecl) → AreRead all → HasWords all w.version → Between 2 9 w.place → is_name n ≡ true →
    meaning n w.names ≡ None →
    (ApcFits all) x → length w.script.apcs < 256 → step all w (apc_row all n x) ≡ Ok (with_apc w n x)
apc_step all w n x are has at named none fit room =
    let put : List ℕ → ApcDecl → Result Walk ScriptKind = λ name x. ok_if (nat_lt (length w.script.apcs) 256) (with_apc w name x) (TooMany what.Apcs) in
    step_again all w (keyword.Apc x.kind) (n ∷ apc_args all x) at has.from (rw (apc_count all are x fit, apc_arity x.kind) refl)
    ∙ declaration_again w.names (apc_of all x.kind) put n (apc_args all x) x named none (apc_again all are x fit)
    ∙ rw (lt-ltb (length w.script.apcs) 256 room) refl

-- the rows of up to 256 APC objects with new names are read as these objects
pub apcs_run : (all : NameLists) → AreRead all → (w : Walk) → HasWords all w.version → w.names.locks ≡ [] → w.names.routines ≡ [] →
    (ns : List (List ℕ)) (xs : List ApcDecl) (ns' : List (List ℕ)) (xs' : List ApcDecl) (p : Place) → Between 2 9 p → length ns ≡ length xs →
    AreNew (((w.names.dpcs ++ w.names.timers) ++ w.names.threads) ++ ns') ns → AllByRecursion (ApcFits all) xs → length xs' + length xs ≤ 256
    → Steps all (after_apcs w ns' xs' p) (declared_rows (apc_row all) ns xs) (after_apcs w (ns' ++ ns) (xs' ++ xs) (place_after xs p InApcs))
apcs_run all are w has nk nr =
    part_run all (apc_row all) (after_apcs w) InApcs 9 ((w.names.dpcs ++ w.names.timers) ++ w.names.threads) (ApcFits all) 256
    (λ ns xs p n x at named none fit room.
    let m3 = nowhere_both n ((w.names.dpcs ++ w.names.timers) ++ w.names.threads) ns 0 none in
    let m2 = nowhere_both n (w.names.dpcs ++ w.names.timers) w.names.threads 0 m3.0 in
    let m1 = nowhere_both n w.names.dpcs w.names.timers 0 m2.0 in
    let unknown : meaning n (record (w.names) { apcs = ns }) ≡ None = rw (m1.0, m1.1, m2.1, m3.1, nk, nr) refl in
    apc_step all (after_apcs w ns xs p) n x are has at named unknown fit room)
    (omega arith, omega arith)

abbrev pub after_locks : Walk → List (List ℕ) → Place → Walk
after_locks w ns p = record w { script = record (w.script) { locks = length ns }; names = record (w.names) { locks = ns }; place = p }

-- these names of locks, and a count of them
abbrev with_count : Walk → List (List ℕ) → ℕ → Walk
with_count w ns k = record w { script = record (w.script) { locks = k }; names = record (w.names) { locks = ns }; place = InLocks }

abbrev read_as : Walk → Result Walk ScriptKind
read_as w = Ok w

-- the line of a lock with a new name is read as one more lock, if fewer than 64 were read
lock_step : (all : NameLists) (w : Walk) (ns : List (List ℕ)) (p : Place) (n : List ℕ) → 2 ≤ w.version → Between 2 10 p → is_name n ≡ true →
    meaning n (record (w.names) { locks = ns }) ≡ None → length ns < 64 → step all (after_locks w ns p) (lock_row n)
    ≡ Ok (after_locks w (ns ++ n ∷ []) InLocks)
lock_step all w ns p n two at named none room =
    let one : step all (after_locks w ns p) (lock_row n) ≡ Ok (with_lock (after_locks w ns p) n) =
    step_again all (after_locks w ns p) keyword.Spinlock (n ∷ []) at two refl
    ∙ rw (new_again (record (w.names) { locks = ns }) n named none, lt-ltb (length ns) 64 room) refl in
    one ∙ ap (λ (k : ℕ). read_as (with_count w (ns ++ n ∷ []) k)) (sym (length-append ns (n ∷ [])))

-- the rows of up to 64 locks with new names are read as these locks, from version 2 on
pub locks_run : (all : NameLists) (w : Walk) → w.names.routines ≡ [] → (ns ns' : List (List ℕ)) (p : Place) → (1 ≤ length ns → 2 ≤ w.version) →
    Between 2 10 p → AreNew ((((w.names.dpcs ++ w.names.timers) ++ w.names.threads) ++ w.names.apcs) ++ ns') ns → length ns' + length ns ≤ 64
    → Steps all (after_locks w ns' p) (map lock_row ns) (after_locks w (ns' ++ ns) (place_after ns p InLocks))
locks_run all w nr [] ns' p two at new room = rw (append-nil ns') refl
locks_run all w nr (n ∷ ns) ns' p two at new room =
    let m4 = nowhere_both n (((w.names.dpcs ++ w.names.timers) ++ w.names.threads) ++ w.names.apcs) ns' 0 new.1 in
    let m3 = nowhere_both n ((w.names.dpcs ++ w.names.timers) ++ w.names.threads) w.names.apcs 0 m4.0 in
    let m2 = nowhere_both n (w.names.dpcs ++ w.names.timers) w.names.threads 0 m3.0 in
    let m1 = nowhere_both n w.names.dpcs w.names.timers 0 m2.0 in
    let unknown : meaning n (record (w.names) { locks = ns' }) ≡ None = rw (m1.0, m1.1, m2.1, m3.1, m4.1, nr) refl in
    let mid = after_locks w (ns' ++ n ∷ []) InLocks in
    let new' : AreNew ((((w.names.dpcs ++ w.names.timers) ++ w.names.threads) ++ w.names.apcs) ++ (ns' ++ n ∷ [])) ns = subst
    (λ (b : List (List ℕ)). AreNew b ns) (append_assoc (((w.names.dpcs ++ w.names.timers) ++ w.names.threads) ++ w.names.apcs) ns' (n ∷ [])) new.2 in
    let more = locks_run all w nr ns (ns' ++ n ∷ []) InLocks (λ h. two (omega arith)) (omega arith, omega arith) new' (more_room ns' n (length ns) 64 room) in (
      mid,
      lock_step all w ns' p n (two (omega arith)) at new.0 unknown (less_room ns' (length ns) 64 room),
      steps_to all mid (map lock_row ns) (λ (ks : List (List ℕ)) (k : ℕ) (q : Place). after_locks w ks q) ((ns' ++ n ∷ []) ++ ns) (ns' ++ n ∷ ns) 0 0
          (place_after ns InLocks InLocks) InLocks
          (append_assoc ns' (n ∷ []) ns) refl (stays ns InLocks) more,
    )

-- ---- commands

abbrev after_commands : Walk → List Command → ℕ → Place → Walk
after_commands w cs n p = record w { body = cs; commands = n; place = p }

-- the line of a command in a routine is read as that command, if fewer than 8192 were read
command_step : (all : NameLists) (w : Walk) (c : Command) → AreRead all → HasWords all w.version → w.place ≡ InRoutine → w.script.cpus ≤ 64 →
    CommandFits all w.script.cpus c →
    w.commands < 8192 → step all w (command_row all c) ≡ Ok (with_command w c)
command_step all w c are has inside few fit room =
    let at : At w.place (command_keyword c) = rw inside (omega arith, omega arith) in
    step_again all w (command_keyword c) (command_args all c) at (command_since all w.script.cpus w.version has c fit) (args_count all c)
    ∙ rw (command_again all w.script.cpus are few c fit, lt-ltb w.commands 8192 room) refl

-- the lines of several commands in a routine are read as these commands, one after the other
commands_run : (all : NameLists) → AreRead all → (cs : List Command) (w : Walk) → HasWords all w.version → w.place ≡ InRoutine → w.script.cpus ≤ 64 →
    AllByRecursion (CommandFits all w.script.cpus) cs → w.commands + length cs ≤ 8192
    → Steps all w (map (command_row all) cs) (after_commands w (w.body ++ cs) (w.commands + length cs) w.place)
commands_run all are [] w has inside few fit room = rw (append-nil w.body, add-zero w.commands) refl
commands_run all are (c ∷ cs) w has inside few fit room =
    let mid = with_command w c in
    let one : step all w (command_row all c) ≡ Ok mid = command_step all w c are has inside few fit.0 (omega arith) in
    let more = commands_run all are cs mid has inside few fit.1 (omega arith) in (
      mid,
      one,
      steps_to all mid (map (command_row all) cs) (after_commands w) ((w.body ++ c ∷ []) ++ cs) (w.body ++ c ∷ cs) (w.commands + 1 + length cs)
          (w.commands + suc (length cs)) w.place w.place
          (append_assoc w.body (c ∷ []) cs) (omega arith) refl more,
    )

-- ---- routines

-- the rows are read, and then the script and the names are these
pub record Ran (all : NameLists) (w : Walk) (rows : List Row) (script : Script) (names : NameLists) : Type 0 where
  pub last : Walk
  pub steps : Steps all w rows last
  pub version_is : last.version ≡ w.version
  pub script_is : last.script ≡ script
  pub names_are : last.names ≡ names
  pub opens : Between 2 11 last.place

abbrev pub with_routines : Script → List Routine → Script
with_routines s rs = record s { routines = rs }

abbrev pub with_names : NameLists → List (List ℕ) → NameLists
with_names names ns = record names { routines = ns }

-- the first line of a routine with a new name opens it, if fewer than 256 were read
begin_step : (all : NameLists) (w : Walk) (n : List ℕ) → 1 ≤ w.version → Between 2 11 w.place → is_name n ≡ true → meaning n w.names ≡ None →
    length w.script.routines < 256 →
    step all w (text_of keyword.Routine ∷ n ∷ []) ≡ Ok (with_routine w n)
begin_step all w n old at named none room = step_again all w keyword.Routine (n ∷ []) at old refl
    ∙ rw (new_again w.names n named none, lt-ltb (length w.script.routines) 256 room) refl

-- the exit line closes the routine that is being read
exit_step : (all : NameLists) (w : Walk) → 1 ≤ w.version → w.place ≡ InRoutine → step all w exit_row ≡ Ok (with_exit w)
exit_step all w old inside = let at : At w.place keyword.Exit = rw inside (omega arith, omega arith) in step_again all w keyword.Exit [] at old refl

-- one routine
abbrev routine_read : Walk → List ℕ → List Command → Walk
routine_read w n cs = with_exit (after_commands (with_routine w n) ([] ++ cs) (w.commands + length cs) InRoutine)

-- the lines of a routine from its first to its exit are read as the routine
routine_run : (all : NameLists) → AreRead all → (w : Walk) (n : List ℕ) (cs : List Command) → HasWords all w.version → Between 2 11 w.place →
    is_name n ≡ true → meaning n w.names
    ≡ None → length w.script.routines < 256 → w.body ≡ [] → w.script.cpus ≤ 64
    → AllByRecursion (CommandFits all w.script.cpus) cs → w.commands + length cs ≤ 8192 →
    Steps all w (begun_rows all n cs ++ exit_row ∷ []) (routine_read w n cs)
routine_run all are w n cs has at named none room empty few fit count =
    let begun = with_routine w n in
    let ran : Steps all begun (map (command_row all) cs)
    (after_commands begun (w.body ++ cs) (w.commands + length cs) InRoutine) = commands_run all are cs begun has refl few fit count in
    let clean : Steps all begun (map (command_row all) cs) (after_commands begun ([] ++ cs) (w.commands + length cs) InRoutine) = subst
    (λ (b : List Command). Steps all begun (map (command_row all) cs) (after_commands begun (b ++ cs) (w.commands + length cs) InRoutine)) empty ran in
    let there = after_commands begun ([] ++ cs) (w.commands + length cs) InRoutine in (
      begun,
      begin_step all w n has.from at named none room,
      steps_then all begun (map (command_row all) cs) (exit_row ∷ []) there (with_exit there) clean
          (with_exit there, exit_step all there has.from refl, refl),
    )

-- the rows of routines with new names are read as these routines, within the limits of routines and commands
pub routines_run : (all : NameLists) → AreRead all → (ns : List (List ℕ)) (rs : List Routine) (w : Walk) → HasWords all w.version → length ns ≡ length rs →
    AreNew (((((w.names.dpcs ++ w.names.timers) ++ w.names.threads) ++ w.names.apcs) ++ w.names.locks) ++ w.names.routines) ns → w.body ≡ [] →
    w.script.cpus ≤ 64
    → AllByRecursion (λ r. AllByRecursion (CommandFits all w.script.cpus) r.commands) rs → w.commands + sum_by (λ r. length r.commands) rs ≤ 8192 →
    length w.script.routines + length rs ≤ 256 → Between 2 11 w.place
    → Ran all w (routine_rows all ns rs) (with_routines w.script (w.script.routines ++ rs)) (with_names w.names (w.names.routines ++ ns))
routines_run all are [] [] w has len new empty few fit count room at = record {
  last = w;
  steps = refl;
  version_is = refl;
  script_is = ap (with_routines w.script) (sym (append-nil w.script.routines));
  names_are = ap (with_names w.names) (sym (append-nil w.names.routines));
  opens = at;
}
routines_run all are [] (r ∷ rs) w has len new empty few fit count room at = absurd (omega arith)
routines_run all are (n ∷ ns) [] w has len new empty few fit count room at = absurd (omega arith)
routines_run all are (n ∷ ns) (r ∷ rs) w has len new empty few fit count room at =
    let m5 = nowhere_both n ((((w.names.dpcs ++ w.names.timers) ++ w.names.threads) ++ w.names.apcs) ++ w.names.locks) w.names.routines 0 new.1 in
    let m4 = nowhere_both n (((w.names.dpcs ++ w.names.timers) ++ w.names.threads) ++ w.names.apcs) w.names.locks 0 m5.0 in
    let m3 = nowhere_both n ((w.names.dpcs ++ w.names.timers) ++ w.names.threads) w.names.apcs 0 m4.0 in
    let m2 = nowhere_both n (w.names.dpcs ++ w.names.timers) w.names.threads 0 m3.0 in
    let m1 = nowhere_both n w.names.dpcs w.names.timers 0 m2.0 in
    let none : meaning n w.names ≡ None = rw (m1.0, m1.1, m2.1, m3.1, m4.1, m5.1) refl in
    let total : w.commands + (length r.commands + sum_by (λ (r : Routine). length r.commands) rs) ≤ 8192 = rw
    (← sum_by-cons (λ (r : Routine). length r.commands) r rs) count in
    let one = routine_run all are w n r.commands has at new.0 none (less_room w.script.routines (length rs) 256 room) empty few fit.0 (omega (arith, total)) in
    let mid = routine_read w n r.commands in
    let before = (((w.names.dpcs ++ w.names.timers) ++ w.names.threads) ++ w.names.apcs) ++ w.names.locks in
    let new' : AreNew (before ++ (w.names.routines ++ n ∷ [])) ns = subst
    (λ (before : List (List ℕ)). AreNew before ns) (append_assoc before w.names.routines (n ∷ [])) new.2 in
    let more = routines_run all are ns rs mid has (omega arith) new' refl few fit.1 (omega (arith, total)) (more_room w.script.routines r (length rs) 256 room)
    (omega arith, omega arith) in
    record {
      last = more.last;
      steps = steps_then all w (begun_rows all n r.commands ++ exit_row ∷ []) (routine_rows all ns rs) mid more.last one more.steps;
      version_is = more.version_is;
      script_is = more.script_is ∙ ap (with_routines w.script) (append_assoc w.script.routines (r ∷ []) rs);
      names_are = more.names_are ∙ ap (with_names w.names) (append_assoc w.names.routines (n ∷ []) ns);
      opens = more.opens;
    }

-- ---- the head

-- the version line is taken at the start of a text of version 2
pub version_step : (all : NameLists) (w : Walk) → Between 0 0 w.place → 2 ≤ w.version → step all w (number_row keyword.Version 2) ≡ Ok (with_version w)
version_step all w at two = step_again all w keyword.Version (decimal 2 ∷ []) at two refl
    ∙ ap (λ (r : Result ℕ ScriptKind). r >>= λ (n : ℕ). ok_if (n == 2) (with_version w) BadNumber) (number_again 4294967295 2 (lit< tt) (lit≤ tt))

-- a line of processors is taken after the version if their number is from 1 to the version's limit
pub cpus_step : (all : NameLists) (w : Walk) (n : ℕ) → 1 ≤ w.version → Between 1 1 w.place → 1 ≤ n → n ≤ most_cpus w.version →
    step all w (number_row keyword.Cpus n) ≡ Ok (with_cpus w n)
cpus_step all w n old at low high =
    let few = most_64 w.version n high in
    step_again all w keyword.Cpus (decimal n ∷ []) at old refl
    ∙ rw (number_again 4294967295 n (lit< tt) (omega (arith, few)), ne_eqb n 0 (λ z. omega arith), le-ltb (most_cpus w.version) n high) refl

-- a line of the depth is taken right after the processors if the depth is at most 256
pub depth_step : (all : NameLists) (w : Walk) (n : ℕ) → 1 ≤ w.version → Between 2 2 w.place → n ≤ 256 → step all w (number_row keyword.Depth n)
    ≡ Ok (with_depth w n)
depth_step all w n old at high = step_again all w keyword.Depth (decimal n ∷ []) at old refl ∙ rw (number_again 256 n (lit< tt) high) refl

-- a line that turns threaded DPCs on or off is taken after the processors or the depth
pub threaded_step : (all : NameLists) (w : Walk) (on : Bool) → 1 ≤ w.version → Between 2 3 w.place →
    step all w (text_of keyword.Threaded ∷ on_off_text on ∷ []) ≡ Ok (with_threaded w on)
threaded_step all w on old at = step_again all w keyword.Threaded (on_off_text on ∷ []) at old refl ∙ rw (on_off_again on) refl
