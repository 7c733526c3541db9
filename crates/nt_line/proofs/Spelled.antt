-- Fields behind a keyword: what is read is spelled so, and what is spelled so is read.
use Rattle.std.proofs.Common.{◌≡◌, ℕ, ◌<◌, ◌≤◌, Bool, List, [], ◌∷◌, length, Option, Some, None, Result, Ok, refl, sym, subst, arith, lit<}
use Rattle.std.specs.Prelude.{IfSome}
use Rattle.nt_text.specs.declared.kind.ScriptKind.{ScriptKind}
use Rattle.nt_event.specs.declared.numbers.DpcNo.{DpcNo}
use Rattle.nt_event.specs.declared.numbers.TimerNo.{TimerNo}
use Rattle.nt_event.specs.declared.numbers.ThreadNo.{ThreadNo}
use Rattle.nt_event.specs.declared.numbers.ApcNo.{ApcNo}
use Rattle.nt_event.specs.declared.numbers.LockNo.{LockNo}
use Rattle.nt_event.specs.declared.numbers.RoutineNo.{RoutineNo}
use Rattle.nt_event.specs.declared.commands.ApcKind.{ApcKind}
use Rattle.nt_event.specs.declared.commands.ApcKind.TheVariants.{Special, Normal, User}
use Rattle.nt_event.specs.declared.commands.Command.{Command}
use Rattle.nt_event.specs.declared.commands.Command.TheVariants as cmd
use Rattle.nt_event.specs.declared.scripts.Isr.{Isr}
use Rattle.nt_event.specs.declared.scripts.DpcDecl.{DpcDecl}
use Rattle.nt_event.specs.declared.scripts.TimerDecl.{TimerDecl}
use Rattle.nt_event.specs.declared.scripts.ThreadDecl.{ThreadDecl}
use Rattle.nt_event.specs.declared.scripts.ApcDecl.{ApcDecl}
use Rattle.nt_line.specs.declared.keywords.Verb.{Verb}
use Rattle.nt_line.specs.declared.keywords.Verb.TheVariants as verb
use Rattle.nt_line.specs.declared.keywords.Keyword.{Keyword}
use Rattle.nt_line.specs.declared.keywords.Keyword.TheVariants as keyword
use Rattle.nt_line.specs.NameLists.{NameLists, show_dpc, show_timer, show_thread, show_apc, show_lock, show_routine}
use Rattle.nt_line.specs.Keywords.{verb_arity}
use Rattle.nt_line.specs.Results.{◌>>=◌}
use Rattle.nt_line.specs.Fields.{dash, read_dpc, read_timer, read_thread, read_apc, read_lock, read_routine, read_timer_dpc, read_rundown}
use Rattle.nt_line.specs.Commands.{read1, read2, read3, read4, command_of}
use Rattle.nt_line.specs.Declarations.{isr_of, dpc_of, timer_of, thread_of, apc_of}
use Rattle.nt_line.specs.Fits.{IsrFits, DpcFits, TimerFits, ThreadFits, ApcFits, CommandFits}
use Rattle.nt_text.specs.Lines.{Row}
use Rattle.nt_line.specs.Rows.{show_unless, command_verb, command_args, isr_args, dpc_args, timer_args, thread_args, apc_args}
use Rattle.nt_line.proofs.Results.{bind_ok}
use Rattle.nt_line.proofs.FieldTexts.{Takes, number_takes, level_takes, interrupt_takes, isr_level_takes, cpu_takes, target_takes, importance_takes, mode_takes}
use Rattle.nt_line.proofs.FieldTexts.{alertable_takes, number_again, importance_again, target_again, cpu_again, mode_again, alertable_again}
use Rattle.nt_line.proofs.UsedNames.{AreFew, dpc_takes, timer_takes, thread_takes, apc_takes, lock_takes, routine_takes, timer_dpc_takes, rundown_takes}

-- a keyword and the fields behind it, or behind the name, are those of a thing, which fits
pub record Spells {A : Type 0} (keyword_for : A → Keyword) (args_for : A → Row) (Fits : A → Type 0) (wd : Keyword) (args : Row) (x : A) : Type 0 where
  pub keyword : wd ≡ keyword_for x
  pub spelled : args ≡ args_for x
  pub fits : Fits x

-- ---- fields that are read from left to right

abbrev ok : {A : Type 0} → A → Result A ScriptKind
ok x = Ok x

-- a reader that succeeds with a value gives this value
ok_is : {C : Type 0} (x y : C) → ok x ≡ Ok y → x ≡ y
ok_is x y e = cc

-- case: the keyword has no fields after it, so what is made is the one command it stands for
takes0 : {C : Type 0} (P : Row → C → Type 0) (made : C) → P [] made → (args : Row) (c : C) → ok made ≡ Ok c → length args ≡ 0 → P args c
takes0 P made good [] c e len = subst (P []) (ok_is made c e) good
takes0 P made good (a ∷ args) c e len = absurd (omega arith)

-- what holds of the text of each value that fits holds of one field that is read as such a value
pub takes1 : {C A : Type 0} {read : List ℕ → Result A ScriptKind} {show : A → List ℕ} {Fits : A → Type 0} → Takes read show Fits
    → (P : Row → C → Type 0) (make : A → C)
    → ((x : A) → Fits x → P (show x ∷ []) (make x)) → (args : Row) (c : C) → read1 read make args ≡ Ok c → length args ≡ 1 → P args c
takes1 t P make good [] c e len = absurd (omega arith)
takes1 {C = C} {A = A} {read = read} {show = show} t P make good (a ∷ []) c e len =
    let b = bind_ok (read a) (λ (x : A). ok (make x)) c e in
    let made : C = make b.value in
    let s0 : P (show b.value ∷ []) made = good b.value (t.fits a b.value b.is) in
    let s1 : P (a ∷ []) made = subst (λ (f : List ℕ). P (f ∷ []) made) (sym (t.shown a b.value b.is)) s0 in
    subst (P (a ∷ [])) (ok_is made c b.then) s1
takes1 t P make good (a ∷ more ∷ args) c e len = absurd (omega arith)

-- what holds of the texts of two values that fit holds of two fields that are read as such values
pub takes2 : {C A B : Type 0} {read : List ℕ → Result A ScriptKind} {show : A → List ℕ} {Fits : A → Type 0} {read' : List ℕ → Result B ScriptKind} {show' : B →
    List ℕ} {Fits' : B → Type 0} → Takes read show Fits → Takes read' show' Fits'
    → (P : Row → C → Type 0) (make : A → B → C)
    → ((x : A) (y : B) → Fits x → Fits' y → P (show x ∷ show' y ∷ []) (make x y)) → (args : Row) (c : C) → read2 read read' make args ≡ Ok c → length args
    ≡ 2 → P args c
takes2 t u P make good [] c e len = absurd (omega arith)
takes2 t u P make good (a ∷ []) c e len = absurd (omega arith)
takes2 {C = C} {A = A} {B = B} {read = read} {show = show} {read' = read'} {show' = show'} t u P make good (a ∷ a' ∷ []) c e len =
    let b = bind_ok (read a) (λ (x : A). read' a' >>= λ (y : B). ok (make x y)) c e in
    let d = bind_ok (read' a') (λ (y : B). ok (make b.value y)) c b.then in
    let made : C = make b.value d.value in
    let s0 : P (show b.value ∷ show' d.value ∷ []) made = good b.value d.value (t.fits a b.value b.is) (u.fits a' d.value d.is) in
    let s1 : P (a ∷ show' d.value ∷ []) made = subst (λ (f : List ℕ). P (f ∷ show' d.value ∷ []) made) (sym (t.shown a b.value b.is)) s0 in
    let s2 : P (a ∷ a' ∷ []) made = subst (λ (f : List ℕ). P (a ∷ f ∷ []) made) (sym (u.shown a' d.value d.is)) s1 in
    subst (P (a ∷ a' ∷ [])) (ok_is made c d.then) s2
takes2 t u P make good (a ∷ a' ∷ more ∷ args) c e len = absurd (omega arith)

-- what holds of the texts of three values that fit holds of three fields that are read as such values
pub takes3 : {C A B D : Type 0} {read : List ℕ → Result A ScriptKind} {show : A → List ℕ} {Fits : A → Type 0} {read' : List ℕ →
    Result B ScriptKind} {show' : B → List ℕ} {Fits' : B → Type 0} {read'' : List ℕ → Result D ScriptKind} {show'' : D → List ℕ} {Fits'' : D → Type 0} →
    Takes read show Fits → Takes read' show' Fits' → Takes read'' show'' Fits''
    → (P : Row → C → Type 0) (make : A → B → D → C)
    → ((x : A) (y : B) (z : D) → Fits x → Fits' y → Fits'' z → P (show x ∷ show' y ∷ show'' z ∷ []) (make x y z)) → (args : Row) (c : C) →
    read3 read read' read'' make args ≡ Ok c → length args ≡ 3 → P args c
takes3 t u v P make good [] c e len = absurd (omega arith)
takes3 t u v P make good (a ∷ []) c e len = absurd (omega arith)
takes3 t u v P make good (a ∷ a' ∷ []) c e len = absurd (omega arith)
takes3 {C = C} {A = A} {B = B} {D = D} {read = read} {show = show} {read' = read'} {show' = show'} {read'' = read''} {show'' = show''} t u v P make good
    (a ∷ a' ∷ a'' ∷ []) c e len =
    let b = bind_ok (read a) (λ (x : A). read' a' >>= λ (y : B). read'' a'' >>= λ (z : D). ok (make x y z)) c e in
    let d = bind_ok (read' a') (λ (y : B). read'' a'' >>= λ (z : D). ok (make b.value y z)) c b.then in
    let g = bind_ok (read'' a'') (λ (z : D). ok (make b.value d.value z)) c d.then in
    let made : C = make b.value d.value g.value in
    let s0 : P (show b.value ∷ show' d.value ∷ show'' g.value ∷ []) made = good b.value d.value g.value (t.fits a b.value b.is) (u.fits a' d.value d.is)
    (v.fits a'' g.value g.is) in
    let s1 : P (a ∷ show' d.value ∷ show'' g.value ∷ []) made = subst (λ (f : List ℕ). P (f ∷ show' d.value ∷ show'' g.value ∷ []) made)
    (sym (t.shown a b.value b.is)) s0 in
    let s2 : P (a ∷ a' ∷ show'' g.value ∷ []) made = subst (λ (f : List ℕ). P (a ∷ f ∷ show'' g.value ∷ []) made) (sym (u.shown a' d.value d.is)) s1 in
    let s3 : P (a ∷ a' ∷ a'' ∷ []) made = subst (λ (f : List ℕ). P (a ∷ a' ∷ f ∷ []) made) (sym (v.shown a'' g.value g.is)) s2 in
    subst (P (a ∷ a' ∷ a'' ∷ [])) (ok_is made c g.then) s3
takes3 t u v P make good (a ∷ a' ∷ a'' ∷ more ∷ args) c e len = absurd (omega arith)

-- what holds of the texts of four values that fit holds of four fields that are read as such values
pub takes4 : {C A B D E : Type 0} {read : List ℕ → Result A ScriptKind} {show : A → List ℕ} {Fits : A → Type 0} {read' : List ℕ →
    Result B ScriptKind} {show' : B → List ℕ} {Fits' : B → Type 0} {read'' : List ℕ → Result D ScriptKind} {show'' : D → List ℕ} {Fits'' : D →
    Type 0} {read''' : List ℕ → Result E ScriptKind} {show''' : E → List ℕ} {Fits''' : E → Type 0} → Takes read show Fits → Takes read' show' Fits' →
    Takes read'' show'' Fits'' → Takes read''' show''' Fits'''
    → (P : Row → C → Type 0) (make : A → B → D → E → C)
    → ((x : A) (y : B) (z : D) (q : E) → Fits x → Fits' y → Fits'' z → Fits''' q → P (show x ∷ show' y ∷ show'' z ∷ show''' q ∷ []) (make x y z q)) →
    (args : Row) (c : C) → read4 read read' read'' read''' make args ≡ Ok c → length args ≡ 4 → P args c
takes4 t u v w P make good [] c e len = absurd (omega arith)
takes4 t u v w P make good (a ∷ []) c e len = absurd (omega arith)
takes4 t u v w P make good (a ∷ a' ∷ []) c e len = absurd (omega arith)
takes4 t u v w P make good (a ∷ a' ∷ a'' ∷ []) c e len = absurd (omega arith)
takes4 {C = C} {A = A} {B = B} {D = D} {E = E} {read = read} {show = show} {read' = read'} {show' = show'} {read'' = read''} {show'' = show''}
    {read''' = read'''} {show''' = show'''} t u v w P make good (a ∷ a' ∷ a'' ∷ a''' ∷ []) c e len =
    let b = bind_ok (read a) (λ (x : A). read' a' >>= λ (y : B). read'' a'' >>= λ (z : D). read''' a''' >>= λ (q : E). ok (make x y z q)) c e in
    let d = bind_ok (read' a') (λ (y : B). read'' a'' >>= λ (z : D). read''' a''' >>= λ (q : E). ok (make b.value y z q)) c b.then in
    let g = bind_ok (read'' a'') (λ (z : D). read''' a''' >>= λ (q : E). ok (make b.value d.value z q)) c d.then in
    let i = bind_ok (read''' a''') (λ (q : E). ok (make b.value d.value g.value q)) c g.then in
    let made : C = make b.value d.value g.value i.value in
    let s0 : P (show b.value ∷ show' d.value ∷ show'' g.value ∷ show''' i.value ∷ []) made = good b.value d.value g.value i.value (t.fits a b.value b.is)
    (u.fits a' d.value d.is) (v.fits a'' g.value g.is) (w.fits a''' i.value i.is) in
    let s1 : P (a ∷ show' d.value ∷ show'' g.value ∷ show''' i.value ∷ []) made = subst
    (λ (f : List ℕ). P (f ∷ show' d.value ∷ show'' g.value ∷ show''' i.value ∷ []) made) (sym (t.shown a b.value b.is)) s0 in
    let s2 : P (a ∷ a' ∷ show'' g.value ∷ show''' i.value ∷ []) made = subst (λ (f : List ℕ). P (a ∷ f ∷ show'' g.value ∷ show''' i.value ∷ []) made)
    (sym (u.shown a' d.value d.is)) s1 in
    let s3 : P (a ∷ a' ∷ a'' ∷ show''' i.value ∷ []) made = subst (λ (f : List ℕ). P (a ∷ a' ∷ f ∷ show''' i.value ∷ []) made)
    (sym (v.shown a'' g.value g.is)) s2 in
    let s4 : P (a ∷ a' ∷ a'' ∷ a''' ∷ []) made = subst (λ (f : List ℕ). P (a ∷ a' ∷ a'' ∷ f ∷ []) made) (sym (w.shown a''' i.value i.is)) s3 in
    subst (P (a ∷ a' ∷ a'' ∷ a''' ∷ [])) (ok_is made c i.then) s4
takes4 t u v w P make good (a ∷ a' ∷ a'' ∷ a''' ∷ more ∷ args) c e len = absurd (omega arith)

-- ---- what is read

abbrev pub command_keyword : Command → Keyword
command_keyword c = keyword.Call (command_verb c)

abbrev pub SpellsCommand : NameLists → ℕ → Keyword → Row → Command → Type 0
SpellsCommand names cpus = Spells command_keyword (command_args names) (CommandFits names cpus)

-- fields that are read as a command are the command's fields behind its verb, and the command fits
pub command_takes : (names : NameLists) (cpus : ℕ) → AreFew names → (v : Verb) (args : Row) (c : Command) → command_of names cpus v args ≡ Ok c → length args
    ≡ verb_arity v → SpellsCommand names cpus (keyword.Call v) args c
command_takes names cpus few verb.Raise = takes1 level_takes (SpellsCommand names cpus (keyword.Call verb.Raise)) cmd.Raise
    (λ x h. record { keyword = refl; spelled = refl; fits = h })
command_takes names cpus few verb.Lower = takes1 level_takes (SpellsCommand names cpus (keyword.Call verb.Lower)) cmd.Lower
    (λ x h. record { keyword = refl; spelled = refl; fits = h })
command_takes names cpus few verb.Queue = takes1 (dpc_takes names few) (SpellsCommand names cpus (keyword.Call verb.Queue)) cmd.Queue
    (λ x h. record { keyword = refl; spelled = refl; fits = h })
command_takes names cpus few verb.Unqueue = takes1 (dpc_takes names few) (SpellsCommand names cpus (keyword.Call verb.Unqueue)) cmd.Unqueue
    (λ x h. record { keyword = refl; spelled = refl; fits = h })
command_takes names cpus few verb.SetImportance = takes2 (dpc_takes names few) importance_takes
    (SpellsCommand names cpus (keyword.Call verb.SetImportance)) cmd.SetImportance (λ x y h k. record { keyword = refl; spelled = refl; fits = (h, k) })
command_takes names cpus few verb.SetTarget = takes2 (dpc_takes names few) (target_takes cpus)
    (SpellsCommand names cpus (keyword.Call verb.SetTarget)) cmd.SetTarget (λ x y h k. record { keyword = refl; spelled = refl; fits = (h, k) })
command_takes names cpus few verb.SetTimer = takes3 (timer_takes names few) (number_takes 4294967295 (lit< tt)) (number_takes 4294967295 (lit< tt))
    (SpellsCommand names cpus (keyword.Call verb.SetTimer)) cmd.SetTimer (λ x y z h k l. record { keyword = refl; spelled = refl; fits = (h, k, l) })
command_takes names cpus few verb.CancelTimer = takes1 (timer_takes names few) (SpellsCommand names cpus (keyword.Call verb.CancelTimer)) cmd.CancelTimer
    (λ x h. record { keyword = refl; spelled = refl; fits = h })
command_takes names cpus few verb.InsertApc = takes1 (apc_takes names few) (SpellsCommand names cpus (keyword.Call verb.InsertApc)) cmd.InsertApc
    (λ x h. record { keyword = refl; spelled = refl; fits = h })
command_takes names cpus few verb.RemoveApc = takes1 (apc_takes names few) (SpellsCommand names cpus (keyword.Call verb.RemoveApc)) cmd.RemoveApc
    (λ x h. record { keyword = refl; spelled = refl; fits = h })
command_takes names cpus few verb.EnterCrit = takes0 (SpellsCommand names cpus (keyword.Call verb.EnterCrit)) cmd.EnterCrit
    (record { keyword = refl; spelled = refl; fits = tt })
command_takes names cpus few verb.EnterGuard = takes0 (SpellsCommand names cpus (keyword.Call verb.EnterGuard)) cmd.EnterGuard
    (record { keyword = refl; spelled = refl; fits = tt })
command_takes names cpus few verb.LeaveCrit = takes0 (SpellsCommand names cpus (keyword.Call verb.LeaveCrit)) cmd.LeaveCrit
    (record { keyword = refl; spelled = refl; fits = tt })
command_takes names cpus few verb.LeaveGuard = takes0 (SpellsCommand names cpus (keyword.Call verb.LeaveGuard)) cmd.LeaveGuard
    (record { keyword = refl; spelled = refl; fits = tt })
command_takes names cpus few verb.StartWait = takes2 mode_takes alertable_takes (SpellsCommand names cpus (keyword.Call verb.StartWait)) cmd.StartWait
    (λ x y h k. record { keyword = refl; spelled = refl; fits = (h, k) })
command_takes names cpus few verb.Delay = takes3 mode_takes alertable_takes (number_takes 4294967295 (lit< tt))
    (SpellsCommand names cpus (keyword.Call verb.Delay)) cmd.Delay (λ x y z h k l. record { keyword = refl; spelled = refl; fits = (h, k, l) })
command_takes names cpus few verb.Release = takes1 (thread_takes names few) (SpellsCommand names cpus (keyword.Call verb.Release)) cmd.Release
    (λ x h. record { keyword = refl; spelled = refl; fits = h })
command_takes names cpus few verb.Alert = takes2 (thread_takes names few) mode_takes (SpellsCommand names cpus (keyword.Call verb.Alert)) cmd.Alert
    (λ x y h k. record { keyword = refl; spelled = refl; fits = (h, k) })
command_takes names cpus few verb.TestAlert = takes1 mode_takes (SpellsCommand names cpus (keyword.Call verb.TestAlert)) cmd.TestAlert
    (λ x h. record { keyword = refl; spelled = refl; fits = h })
command_takes names cpus few verb.Interrupt = takes2 (cpu_takes cpus) interrupt_takes (SpellsCommand names cpus (keyword.Call verb.Interrupt)) cmd.Interrupt
    (λ x y h k. record { keyword = refl; spelled = refl; fits = (h, k) })
command_takes names cpus few verb.Clock = takes1 (number_takes 4294967295 (lit< tt)) (SpellsCommand names cpus (keyword.Call verb.Clock)) cmd.Clock
    (λ x h. record { keyword = refl; spelled = refl; fits = h })
command_takes names cpus few verb.ToUser = takes0 (SpellsCommand names cpus (keyword.Call verb.ToUser)) cmd.ToUser
    (record { keyword = refl; spelled = refl; fits = tt })
command_takes names cpus few verb.Yield = takes0 (SpellsCommand names cpus (keyword.Call verb.Yield)) cmd.Yield
    (record { keyword = refl; spelled = refl; fits = tt })
command_takes names cpus few verb.Acquire = takes1 (lock_takes names few) (SpellsCommand names cpus (keyword.Call verb.Acquire)) cmd.Acquire
    (λ x h. record { keyword = refl; spelled = refl; fits = h })
command_takes names cpus few verb.Unlock = takes1 (lock_takes names few) (SpellsCommand names cpus (keyword.Call verb.Unlock)) cmd.Unlock
    (λ x h. record { keyword = refl; spelled = refl; fits = h })
command_takes names cpus few verb.Note = takes1 (number_takes 4294967295 (lit< tt)) (SpellsCommand names cpus (keyword.Call verb.Note)) cmd.Note
    (λ x h. record { keyword = refl; spelled = refl; fits = h })

abbrev pub isr_keyword : Isr → Keyword
isr_keyword isr = keyword.Isr

abbrev pub SpellsIsr : NameLists → ℕ → Keyword → Row → Isr → Type 0
SpellsIsr names cpus = Spells isr_keyword (isr_args names) (IsrFits names cpus)

-- fields that are read as an interrupt routine's line are the fields of it, and the routine fits
pub isr_takes : (names : NameLists) (cpus : ℕ) → AreFew names → (args : Row) (x : Isr) → isr_of names cpus args ≡ Ok x → length args ≡ 3 →
    SpellsIsr names cpus keyword.Isr args x
isr_takes names cpus few = takes3 (cpu_takes cpus) isr_level_takes (routine_takes names few) (SpellsIsr names cpus keyword.Isr)
    (λ cpu level routine. record { cpu = cpu; level = level; routine = routine })
    (λ x y z h k l. record { keyword = refl; spelled = refl; fits = (h, k.0, k.1, l) })

abbrev pub dpc_keyword : DpcDecl → Keyword
dpc_keyword d = keyword.Dpc d.threaded

abbrev pub SpellsDpc : NameLists → Keyword → Row → DpcDecl → Type 0
SpellsDpc names = Spells dpc_keyword (dpc_args names) (DpcFits names)

-- fields that are read as a DPC object's line are the fields of it, and the object fits
pub dpc_line_takes : (names : NameLists) → AreFew names → (threaded : Bool) (args : Row) (x : DpcDecl) → dpc_of names threaded args ≡ Ok x → length args ≡ 1 →
    SpellsDpc names (keyword.Dpc threaded) args x
dpc_line_takes names few threaded = takes1 (routine_takes names few) (SpellsDpc names (keyword.Dpc threaded))
    (λ routine. record { threaded = threaded; routine = routine }) (λ x h. record { keyword = refl; spelled = refl; fits = h })

abbrev pub timer_keyword : TimerDecl → Keyword
timer_keyword t = keyword.Timer

abbrev pub SpellsTimer : NameLists → Keyword → Row → TimerDecl → Type 0
SpellsTimer names = Spells timer_keyword (timer_args names) (TimerFits names)

-- fields that are read as a timer's line are the fields of it, and the timer fits
pub timer_line_takes : (names : NameLists) → AreFew names → (args : Row) (x : TimerDecl) → timer_of names args ≡ Ok x → length args ≡ 1 →
    SpellsTimer names keyword.Timer args x
timer_line_takes names few = takes1 (timer_dpc_takes names few) (SpellsTimer names keyword.Timer) (λ dpc. record { dpc = dpc })
    (λ x h. record { keyword = refl; spelled = refl; fits = h })

abbrev pub thread_keyword : ThreadDecl → Keyword
thread_keyword t = keyword.Thread

abbrev pub SpellsThread : NameLists → ℕ → Keyword → Row → ThreadDecl → Type 0
SpellsThread names cpus = Spells thread_keyword (thread_args names) (ThreadFits names cpus)

-- fields that are read as a thread's line are the fields of it, and the thread fits
pub thread_line_takes : (names : NameLists) (cpus : ℕ) → AreFew names → (args : Row) (x : ThreadDecl) → thread_of names cpus args ≡ Ok x → length args ≡ 2 →
    SpellsThread names cpus keyword.Thread args x
thread_line_takes names cpus few = takes2 (cpu_takes cpus) (routine_takes names few) (SpellsThread names cpus keyword.Thread)
    (λ cpu routine. record { cpu = cpu; routine = routine }) (λ x y h k. record { keyword = refl; spelled = refl; fits = (h, k) })

abbrev pub apc_keyword : ApcDecl → Keyword
apc_keyword a = keyword.Apc a.kind

abbrev pub SpellsApc : NameLists → Keyword → Row → ApcDecl → Type 0
SpellsApc names = Spells apc_keyword (apc_args names) (ApcFits names)

-- how many fields stand behind the name of an APC object
abbrev pub apc_fields : ApcKind → ℕ
apc_fields Special = 2
apc_fields Normal = 3
apc_fields User = 4

-- fields that are read as an APC object's line are the fields of it, and the object fits
pub apc_line_takes : (names : NameLists) → AreFew names → (k : ApcKind) (args : Row) (x : ApcDecl) → apc_of names k args ≡ Ok x → length args ≡ apc_fields k →
    SpellsApc names (keyword.Apc k) args x
apc_line_takes names few Special =
    takes2 (thread_takes names few) (routine_takes names few) (SpellsApc names (keyword.Apc Special))
    (λ thread kernel. record { kind = Special; thread = thread; kernel = kernel; normal = None; rundown = None })
    (λ x y h k. record { keyword = refl; spelled = refl; fits = record { thread = h; kernel = k; normal = tt; rundown = tt; routines = refl } })
apc_line_takes names few Normal =
    takes3 (thread_takes names few) (routine_takes names few) (routine_takes names few) (SpellsApc names (keyword.Apc Normal))
    (λ thread kernel normal. record { kind = Normal; thread = thread; kernel = kernel; normal = Some normal; rundown = None })
    (λ x y z h k l. record { keyword = refl; spelled = refl; fits = record { thread = h; kernel = k; normal = l; rundown = tt; routines = refl } })
apc_line_takes names few User =
    takes4 (thread_takes names few) (routine_takes names few) (routine_takes names few) (rundown_takes names few) (SpellsApc names (keyword.Apc User))
    (λ thread kernel normal rundown. record { kind = User; thread = thread; kernel = kernel; normal = Some normal; rundown = rundown })
    (λ x y z q h k l m. record { keyword = refl; spelled = refl; fits = record { thread = h; kernel = k; normal = l; rundown = m; routines = refl } })

-- ---- what is shown

-- things that are read by their names
pub record AreRead (names : NameLists) : Type 0 where
  pub dpcs : (x : DpcNo) → x.0 < length names.dpcs → read_dpc names (show_dpc names x) ≡ Ok x
  pub timers : (x : TimerNo) → x.0 < length names.timers → read_timer names (show_timer names x) ≡ Ok x
  pub threads : (x : ThreadNo) → x.0 < length names.threads → read_thread names (show_thread names x) ≡ Ok x
  pub apcs : (x : ApcNo) → x.0 < length names.apcs → read_apc names (show_apc names x) ≡ Ok x
  pub locks : (x : LockNo) → x.0 < length names.locks → read_lock names (show_lock names x) ≡ Ok x
  pub routines : (x : RoutineNo) → x.0 < length names.routines → read_routine names (show_routine names x) ≡ Ok x
  pub timer_dpcs : (o : Option DpcNo) → IfSome o (λ x. x.0 < length names.dpcs) → read_timer_dpc names (show_unless dash (show_dpc names) o) ≡ Ok o
  pub rundowns : (o : Option RoutineNo) → IfSome o (λ x. x.0 < length names.routines) → read_rundown names (show_unless dash (show_routine names) o) ≡ Ok o

-- the fields of a command that fits are read as that command
pub command_again : (names : NameLists) (cpus : ℕ) → AreRead names → cpus ≤ 64 → (c : Command) → CommandFits names cpus c →
    command_of names cpus (command_verb c) (command_args names c) ≡ Ok c
command_again names cpus are le (cmd.Raise level) h = rw (number_again 15 level (lit< tt) h) refl
command_again names cpus are le (cmd.Lower level) h = rw (number_again 15 level (lit< tt) h) refl
command_again names cpus are le (cmd.Queue d) h = rw (are.dpcs d h) refl
command_again names cpus are le (cmd.Unqueue d) h = rw (are.dpcs d h) refl
command_again names cpus are le (cmd.SetImportance d importance) h = rw (are.dpcs d h.0, importance_again importance) refl
command_again names cpus are le (cmd.SetTarget d target) h = rw (are.dpcs d h.0, target_again cpus target le h.1) refl
command_again names cpus are le (cmd.SetTimer t due period) h = rw
    (are.timers t h.0, number_again 4294967295 due (lit< tt) h.1, number_again 4294967295 period (lit< tt) h.2) refl
command_again names cpus are le (cmd.CancelTimer t) h = rw (are.timers t h) refl
command_again names cpus are le (cmd.InsertApc a) h = rw (are.apcs a h) refl
command_again names cpus are le (cmd.RemoveApc a) h = rw (are.apcs a h) refl
command_again names cpus are le cmd.EnterCrit h = refl
command_again names cpus are le cmd.EnterGuard h = refl
command_again names cpus are le cmd.LeaveCrit h = refl
command_again names cpus are le cmd.LeaveGuard h = refl
command_again names cpus are le (cmd.StartWait mode alertable) h = rw (mode_again mode, alertable_again alertable) refl
command_again names cpus are le (cmd.Delay mode alertable units) h = rw
    (mode_again mode, alertable_again alertable, number_again 4294967295 units (lit< tt) h.2) refl
command_again names cpus are le (cmd.Release t) h = rw (are.threads t h) refl
command_again names cpus are le (cmd.Alert t mode) h = rw (are.threads t h.0, mode_again mode) refl
command_again names cpus are le (cmd.TestAlert mode) h = rw (mode_again mode) refl
command_again names cpus are le (cmd.Interrupt cpu level) h = rw (cpu_again cpus cpu le h.0, number_again 15 level (lit< tt) h.1.0, h.1.1) refl
command_again names cpus are le (cmd.Clock units) h = rw (number_again 4294967295 units (lit< tt) h) refl
command_again names cpus are le cmd.ToUser h = refl
command_again names cpus are le cmd.Yield h = refl
command_again names cpus are le (cmd.Acquire k) h = rw (are.locks k h) refl
command_again names cpus are le (cmd.Unlock k) h = rw (are.locks k h) refl
command_again names cpus are le (cmd.Note number) h = rw (number_again 4294967295 number (lit< tt) h) refl

-- as many fields stand behind a command's keyword as it wants
pub args_count : (names : NameLists) (c : Command) → length (command_args names c) ≡ verb_arity (command_verb c)
args_count names (cmd.Raise level) = refl
args_count names c = refl

-- the fields of an interrupt routine that fits are read as that routine
pub isr_again : (names : NameLists) (cpus : ℕ) → AreRead names → cpus ≤ 64 → (x : Isr) → IsrFits names cpus x → isr_of names cpus (isr_args names x) ≡ Ok x
isr_again names cpus are le x h = rw (cpu_again cpus x.cpu le h.0, number_again 15 x.level (lit< tt) h.1, h.2, are.routines x.routine h.3) refl

-- the fields of a DPC object that fits are read as that object
pub dpc_again : (names : NameLists) → AreRead names → (x : DpcDecl) → DpcFits names x → dpc_of names x.threaded (dpc_args names x) ≡ Ok x
dpc_again names are x h = rw (are.routines x.routine h) refl

-- the fields of a timer that fits are read as that timer
pub timer_again : (names : NameLists) → AreRead names → (x : TimerDecl) → TimerFits names x → timer_of names (timer_args names x) ≡ Ok x
timer_again names are x h = rw (are.timer_dpcs x.dpc h) refl

-- the fields of a thread that fits are read as that thread
pub thread_again : (names : NameLists) (cpus : ℕ) → AreRead names → cpus ≤ 64 → (x : ThreadDecl) → ThreadFits names cpus x →
    thread_of names cpus (thread_args names x) ≡ Ok x
thread_again names cpus are le x h = rw (cpu_again cpus x.cpu le h.0, are.routines x.routine h.1) refl

-- the fields of an APC of a given kind are read as the APC, and there are as many as its kind has
apc_by : (names : NameLists) → AreRead names → (k : ApcKind) (t : ThreadNo) (r : RoutineNo) (n d : Option RoutineNo) →
    ApcFits names (record { kind = k; thread = t; kernel = r; normal = n; rundown = d })
    → (apc_of names k (apc_args names (record { kind = k; thread = t; kernel = r; normal = n; rundown = d }))
    ≡ Ok (record { kind = k; thread = t; kernel = r; normal = n; rundown = d })) ×
    (length (apc_args names (record { kind = k; thread = t; kernel = r; normal = n; rundown = d })) ≡ apc_fields k)
apc_by names are Special t r None None h = (rw (are.threads t h.thread, are.routines r h.kernel) refl, refl)
apc_by names are Special t r (Some n) d h = let e = h.routines in absurd cc
apc_by names are Special t r None (Some d) h = let e = h.routines in absurd cc
apc_by names are Normal t r (Some n) None h = (rw (are.threads t h.thread, are.routines r h.kernel, are.routines n h.normal) refl, refl)
apc_by names are Normal t r None d h = let e = h.routines in absurd cc
apc_by names are Normal t r (Some n) (Some d) h = let e = h.routines in absurd cc
apc_by names are User t r (Some n) d h = (rw (are.threads t h.thread, are.routines r h.kernel, are.routines n h.normal, are.rundowns d h.rundown) refl, refl)
apc_by names are User t r None d h = let e = h.routines in absurd cc

-- the fields of an APC object that fits are read as that object
pub apc_again : (names : NameLists) → AreRead names → (x : ApcDecl) → ApcFits names x → apc_of names x.kind (apc_args names x) ≡ Ok x
apc_again names are x h = (apc_by names are x.kind x.thread x.kernel x.normal x.rundown h).0

-- an APC object that fits has as many fields as its kind wants
pub apc_count : (names : NameLists) → AreRead names → (x : ApcDecl) → ApcFits names x → length (apc_args names x) ≡ apc_fields x.kind
apc_count names are x h = (apc_by names are x.kind x.thread x.kernel x.normal x.rundown h).1
