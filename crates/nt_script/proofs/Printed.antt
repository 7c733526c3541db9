-- What is put line by line is the whole text.
use Rattle.std.proofs.Common.{◌≡◌, ℕ, zero, suc, List, [], ◌∷◌, ◌++◌, map, sym, ◌∙◌, ap, refl, subst, append_assoc, arith}
use Rattle.std.specs.Prelude.{All}
use Rattle.std.specs.List.{AllByRecursion}
use Rattle.std.proofs.lemmas.Grind.{flat_map-append}
use Rattle.nt_text.specs.Lines.{row_text, rows_text}
use Rattle.nt_event.specs.declared.scripts.Isr.{Isr}
use Rattle.nt_event.specs.declared.scripts.DpcDecl.{DpcDecl}
use Rattle.nt_event.specs.declared.scripts.TimerDecl.{TimerDecl}
use Rattle.nt_event.specs.declared.scripts.ThreadDecl.{ThreadDecl}
use Rattle.nt_event.specs.declared.scripts.ApcDecl.{ApcDecl}
use Rattle.nt_event.specs.declared.scripts.Routine.{Routine}
use Rattle.nt_script.specs.declared.walk.Input.{Input}
use Rattle.nt_line.specs.Fits.{IsrFits, ThreadFits, ApcFits, CommandFits}
use Rattle.nt_text.specs.Lines.{Row}
use Rattle.nt_line.specs.Rows.{isr_row, dpc_row, timer_row, thread_row, apc_row, lock_row}
use Rattle.nt_script.specs.Text.{header_rows, declared_rows, routine_rows, text}
use Rattle.nt_script.specs.Sound.{IsSound}
use Rattle.nt_script.proofs.Soundness.{sound_fits}

-- what holds of all of a list by recursion holds at each place of it
pub all_at : {A : Type 0} (P : A → Type 0) (xs : List A) → AllByRecursion P xs → All P xs
all_at P [] h k d lt = absurd (omega arith)
all_at P (x ∷ xs) h zero d lt = h.0
all_at P (x ∷ xs) h (suc k) d lt = all_at P xs h.1 k d (omega arith)

-- ---- the things of a sound input fit

-- each interrupt routine of a sound input fits
pub isrs_at : (input : Input) (xs : List Isr) → IsSound input → xs ≡ input.script.isrs → All (IsrFits input.names input.script.cpus) xs
isrs_at input xs s e = subst (All (IsrFits input.names input.script.cpus)) (sym e)
    (all_at (IsrFits input.names input.script.cpus) input.script.isrs (sound_fits input s).isrs)

-- each thread of a sound input fits
pub threads_at : (input : Input) (xs : List ThreadDecl) → IsSound input → xs ≡ input.script.threads → All (ThreadFits input.names input.script.cpus) xs
threads_at input xs s e = subst (All (ThreadFits input.names input.script.cpus)) (sym e)
    (all_at (ThreadFits input.names input.script.cpus) input.script.threads (sound_fits input s).threads)

-- each APC object of a sound input fits
pub apcs_at : (input : Input) (xs : List ApcDecl) → IsSound input → xs ≡ input.script.apcs → All (ApcFits input.names) xs
apcs_at input xs s e = subst (All (ApcFits input.names)) (sym e) (all_at (ApcFits input.names) input.script.apcs (sound_fits input s).apcs)

-- each command of each routine of a sound input fits
pub routines_at : (input : Input) (xs : List Routine) → IsSound input → xs ≡ input.script.routines →
    All (λ r. All (CommandFits input.names input.script.cpus) r.commands) xs
routines_at input xs s e =
    let P : Routine → Type 0 = λ r. AllByRecursion (CommandFits input.names input.script.cpus) r.commands in
    let all : All P xs = subst (All P) (sym e) (all_at P input.script.routines (sound_fits input s).routines) in
    λ k d lt. all_at (CommandFits input.names input.script.cpus) _ (all k d lt)

-- ---- all parts

-- the text of rows and more rows is the text of the first and then that of the others
rows_both : (a b : List Row) → rows_text (a ++ b) ≡ rows_text a ++ rows_text b
rows_both a b = flat_map-append row_text a b

-- the text of the eight parts together is the texts of the parts, one after the other
parts_text : (h i d t s a k o : List Row) → rows_text (h ++ (i ++ (d ++ (t ++ (s ++ (a ++ (k ++ o)))))))
    ≡ ((((((rows_text h ++ rows_text i) ++ rows_text d) ++ rows_text t) ++ rows_text s) ++ rows_text a) ++ rows_text k) ++ rows_text o
parts_text h i d t s a k o = rw (
  rows_both h (i ++ (d ++ (t ++ (s ++ (a ++ (k ++ o)))))),
  rows_both i (d ++ (t ++ (s ++ (a ++ (k ++ o))))),
  rows_both d (t ++ (s ++ (a ++ (k ++ o)))),
  rows_both t (s ++ (a ++ (k ++ o))),
  rows_both s (a ++ (k ++ o)),
  rows_both a (k ++ o),
  rows_both k o,
) (simp append_assoc)

-- a text to which eight parts are added in turn is the eight parts, one after the other
joined : (o1 o2 o3 o4 o5 o6 o7 o8 h i d t s a k r : List ℕ) → o1 ≡ h → o2 ≡ o1 ++ i → o3 ≡ o2 ++ d → o4 ≡ o3 ++ t → o5 ≡ o4 ++ s → o6 ≡ o5 ++ a →
    o7 ≡ o6 ++ k → o8 ≡ o7 ++ r → o8 ≡ ((((((h ++ i) ++ d) ++ t) ++ s) ++ a) ++ k) ++ r
joined o1 o2 o3 o4 o5 o6 o7 o8 h i d t s a k r e1 e2 e3 e4 e5 e6 e7 e8 = rw (e8, e7, e6, e5, e4, e3, e2, e1) refl

-- if the header and then each part in order is put behind what was put, the whole is the text of the input
pub printed : (input : Input) (o0 o1 o2 o3 o4 o5 o6 o7 o8 : List ℕ) (is : List Isr) (ds : List DpcDecl) (ts : List TimerDecl) (hs : List ThreadDecl)
    (apcs : List ApcDecl) (rs : List Routine)
    → is ≡ input.script.isrs → ds ≡ input.script.dpcs → ts ≡ input.script.timers → hs ≡ input.script.threads → apcs ≡ input.script.apcs → rs
    ≡ input.script.routines
    → o0 ≡ [] → o1 ≡ o0 ++ rows_text (header_rows input.version input.script.cpus input.script.depth input.script.threaded) → o2 ≡ o1
    ++ rows_text (map (isr_row input.names) is) → o3 ≡ o2 ++ rows_text (declared_rows (dpc_row input.names) input.names.dpcs ds)
    → o4 ≡ o3 ++ rows_text (declared_rows (timer_row input.names) input.names.timers ts) → o5 ≡ o4
    ++ rows_text (declared_rows (thread_row input.names) input.names.threads hs) → o6 ≡ o5
    ++ rows_text (declared_rows (apc_row input.names) input.names.apcs apcs) → o7 ≡ o6 ++ rows_text (map lock_row input.names.locks)
    → o8 ≡ o7 ++ rows_text (routine_rows input.names input.names.routines rs) → o8 ≡ text input
printed input o0 o1 o2 o3 o4 o5 o6 o7 o8 is ds ts hs apcs rs ei ed et eh ea er e0 e1 e2 e3 e4 e5 e6 e7 e8 =
    let names = input.names in
    let h = header_rows input.version input.script.cpus input.script.depth input.script.threaded in
    let i = map (isr_row names) input.script.isrs in
    let d = declared_rows (dpc_row names) names.dpcs input.script.dpcs in
    let t = declared_rows (timer_row names) names.timers input.script.timers in
    let s = declared_rows (thread_row names) names.threads input.script.threads in
    let a = declared_rows (apc_row names) names.apcs input.script.apcs in
    let k = map lock_row names.locks in
    let r = routine_rows names names.routines input.script.routines in
    let whole = joined o1 o2 o3 o4 o5 o6 o7 o8 (rows_text h) (rows_text i) (rows_text d) (rows_text t) (rows_text s) (rows_text a) (rows_text k) (rows_text r)
    (e1 ∙ ap (λ (o : List ℕ). o ++ rows_text h) e0) (rw (← ei) e2) (rw (← ed) e3) (rw (← et) e4) (rw (← eh) e5) (rw (← ea) e6) e7 (rw (← er) e8) in
    rw (parts_text h i d t s a k r) whole
