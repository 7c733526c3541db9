-- A line that is taken is the next row of what was read.
use Rattle.std.proofs.Common.{◌≡◌, ℕ, suc, ◌≤◌, List, [], ◌∷◌, ◌++◌, length, Result, Ok, refl, sym, ◌∙◌, ap, arith, lit<}
use Rattle.std.specs.Prelude.{nat_lt, is_none, ◌==◌, decimal}
use Rattle.std.proofs.lemmas.Bool.{eqb-true}
use Rattle.std.proofs.lemmas.List.{nil_from_length}
use Rattle.nt_text.specs.declared.kind.ScriptKind.{ScriptKind}
use Rattle.nt_text.specs.declared.kind.ScriptKind.TheVariants.{BadNumber, NameTwice, TooMany}
use Rattle.nt_text.specs.declared.kind.What10.TheVariants as what
use Rattle.nt_text.specs.Lines.{first, rest}
use Rattle.nt_event.specs.declared.commands.ApcKind.{ApcKind}
use Rattle.nt_event.specs.declared.commands.ApcKind.TheVariants.{Special, Normal, User}
use Rattle.nt_event.specs.declared.scripts.DpcDecl.{DpcDecl}
use Rattle.nt_event.specs.declared.scripts.TimerDecl.{TimerDecl}
use Rattle.nt_event.specs.declared.scripts.ThreadDecl.{ThreadDecl}
use Rattle.nt_event.specs.declared.scripts.ApcDecl.{ApcDecl}
use Rattle.nt_event.specs.Script.{isr_of as isr_routine}
use Rattle.nt_line.specs.declared.keywords.Keyword.{Keyword}
use Rattle.nt_line.specs.declared.keywords.Keyword.TheVariants as keyword
use Rattle.nt_script.specs.declared.walk.Walk.{Walk}
use Rattle.nt_line.specs.NameLists.{NameLists}
use Rattle.nt_line.specs.Keywords.{text_of, arity, since}
use Rattle.nt_line.specs.Results.{ok_if}
use Rattle.nt_line.specs.Fields.{read_number, read_on_off, new_name}
use Rattle.nt_line.specs.Commands.{command_of}
use Rattle.nt_line.specs.Declarations.{isr_of, dpc_of, timer_of, thread_of, apc_of}
use Rattle.nt_script.specs.Reading.{put_cpus, with_version, with_cpus, with_depth, with_threaded, with_isr, with_dpc, with_timer, with_thread, with_apc}
use Rattle.nt_script.specs.Reading.{with_lock, with_routine, with_exit, with_command, act, step}
use Rattle.nt_text.specs.Lines.{Row}
use Rattle.nt_line.specs.Rows.{isr_args, dpc_args, timer_args, thread_args, apc_args, command_args}
use Rattle.nt_line.proofs.Results.{bind_ok, ok_if_ok}
use Rattle.nt_line.proofs.FieldTexts.{number_takes, on_off_takes}
use Rattle.nt_line.proofs.UsedNames.{AreFew, new_name_takes}
use Rattle.nt_line.proofs.Spelled.{apc_fields, command_keyword, isr_keyword, dpc_keyword, timer_keyword, thread_keyword, apc_keyword, command_takes, isr_takes}
use Rattle.nt_line.proofs.Spelled.{dpc_line_takes, timer_line_takes, thread_line_takes, apc_line_takes}
use Rattle.nt_script.proofs.SoFar.{so_far}
use Rattle.nt_script.proofs.Taken.{At, declared_ok, args_parts, one_field, field_and, step_ok}
use Rattle.nt_script.proofs.Steps.{Good, put_cpus_ok, version_taken, cpus_taken, depth_taken, threaded_taken, isr_taken, dpc_taken, timer_taken, thread_taken}
use Rattle.nt_script.proofs.Steps.{apc_taken, lock_taken, routine_taken, exit_taken, command_taken}

abbrev pub ok : {A : Type 0} → A → Result A ScriptKind
ok x = Ok x

-- results without error that are equal have equal values
pub ok_is : {A : Type 0} (x y : A) → ok x ≡ Ok y → x ≡ y
ok_is x y e = cc

-- the keyword of an APC object wants one field more than its kind: the name
pub apc_arity : (k : ApcKind) → arity (keyword.Apc k) ≡ suc (apc_fields k)
apc_arity Special = refl
apc_arity Normal = refl
apc_arity User = refl

-- the same row, of an equal keyword with equal fields, and an equal walk
moved : (all : NameLists) (w : Walk) (wd wd' : Keyword) (args args' : Row) (new' new : Walk) → wd ≡ wd' → args ≡ args' → new' ≡ new → so_far all new'
    ≡ so_far all w ++ (text_of wd' ∷ args') ∷ [] → so_far all new ≡ so_far all w ++ (text_of wd ∷ args) ∷ []
moved all w wd wd' args args' new' new ew ea en h =
    let row : text_of wd' ∷ args' ≡ text_of wd ∷ args = ap (λ (v : Keyword). text_of v ∷ args') (sym ew) ∙ ap (λ (a : Row). text_of wd ∷ a) (sym ea) in
    ap (so_far all) (sym en) ∙ h ∙ ap (λ (r : Row). so_far all w ++ r ∷ []) row

-- a row of one field that is known is the row of that field
one_shown : (args : Row) (f : List ℕ) → length args ≡ 1 → first args ≡ f → args ≡ f ∷ []
one_shown args f len e = one_field args len ∙ ap (λ (g : List ℕ). g ∷ []) e

-- what a keyword does with its fields, if it is taken, adds their row to the rows read so far
pub act_taken : (all : NameLists) → AreFew all → (w : Walk) (wd : Keyword) (args : Row) (new : Walk) → At w.place wd → since wd ≤ w.version →
    length args ≡ arity wd →
    act all w wd args ≡ Ok new → Good w → so_far all new ≡ so_far all w ++ (text_of wd ∷ args) ∷ []
act_taken all few w keyword.Version args new at old len e good =
    let b = bind_ok (read_number 4294967295 (first args)) (λ n. ok_if (n == 2) (with_version w) BadNumber) new e in
    let o = ok_if_ok (b.value == 2) (with_version w) BadNumber new b.then in
    let shown = (number_takes 4294967295 (lit< tt)).shown (first args) b.value b.is in
    let two : w.version ≡ 2 = omega (arith, old, good.version) in
    moved all w keyword.Version keyword.Version args _ (with_version w) new refl
    (one_shown args _ len (shown ∙ ap decimal (eqb-true b.value 2 o.0))) o.1 (version_taken all w at two good)
act_taken all few w keyword.Cpus args new at old len e good =
    let b = bind_ok (read_number 4294967295 (first args)) (put_cpus w) new e in
    let shown = (number_takes 4294967295 (lit< tt)).shown (first args) b.value b.is in
    moved all w keyword.Cpus keyword.Cpus args _ (with_cpus w b.value) new refl (one_shown args _ len shown) (put_cpus_ok w b.value new b.then)
    (cpus_taken all w b.value at good)
act_taken all few w keyword.Depth args new at old len e good =
    let b = bind_ok (read_number 256 (first args)) (λ n. ok (with_depth w n)) new e in
    let shown = (number_takes 256 (lit< tt)).shown (first args) b.value b.is in
    moved all w keyword.Depth keyword.Depth args _ (with_depth w b.value) new refl (one_shown args _ len shown) (ok_is (with_depth w b.value) new b.then)
    (depth_taken all w b.value at good)
act_taken all few w keyword.Threaded args new at old len e good =
    let b = bind_ok (read_on_off (first args)) (λ on. ok (with_threaded w on)) new e in
    let shown = on_off_takes.shown (first args) b.value b.is in
    moved all w keyword.Threaded keyword.Threaded args _ (with_threaded w b.value) new refl (one_shown args _ len shown)
    (ok_is (with_threaded w b.value) new b.then) (threaded_taken all w b.value at good)
act_taken all few w keyword.Isr args new at old len e good =
    let b = bind_ok (isr_of all w.script.cpus args) (λ isr. ok_if (is_none (isr_routine w.script.isrs isr.cpu isr.level)) (with_isr w isr) NameTwice) new e in
    let o = ok_if_ok (is_none (isr_routine w.script.isrs b.value.cpu b.value.level)) (with_isr w b.value) NameTwice new b.then in
    let t = isr_takes all w.script.cpus few args b.value b.is len in
    moved all w keyword.Isr (isr_keyword b.value) args (isr_args all b.value) (with_isr w b.value) new t.keyword t.spelled o.1 (isr_taken all w b.value at good)
act_taken all few w (keyword.Dpc b) args new at old len e good =
    let put : List ℕ → DpcDecl → Result Walk ScriptKind = λ name x. ok_if (nat_lt (length w.script.dpcs) 256) (with_dpc w name x) (TooMany what.Dpcs) in
    let d = declared_ok w.names (dpc_of all b) put args new e in
    let o = ok_if_ok (nat_lt (length w.script.dpcs) 256) (with_dpc w d.name d.thing) (TooMany what.Dpcs) new d.made in
    let a = args_parts args 1 len in
    let t = dpc_line_takes all few b (rest args) d.thing d.read_is a.1 in
    moved all w (keyword.Dpc b) (dpc_keyword d.thing) args (d.name ∷ dpc_args all d.thing) (with_dpc w d.name d.thing) new t.keyword
    (field_and args d.name (dpc_args all d.thing) a.0 d.first_is t.spelled) o.1 (dpc_taken all w d.name d.thing at good)
act_taken all few w keyword.Timer args new at old len e good =
    let put : List ℕ → TimerDecl → Result Walk ScriptKind = λ name x. ok_if (nat_lt (length w.script.timers) 64) (with_timer w name x) (TooMany what.Timers) in
    let d = declared_ok w.names (timer_of all) put args new e in
    let o = ok_if_ok (nat_lt (length w.script.timers) 64) (with_timer w d.name d.thing) (TooMany what.Timers) new d.made in
    let a = args_parts args 1 len in
    let t = timer_line_takes all few (rest args) d.thing d.read_is a.1 in
    moved all w keyword.Timer (timer_keyword d.thing) args (d.name ∷ timer_args all d.thing) (with_timer w d.name d.thing) new t.keyword
    (field_and args d.name (timer_args all d.thing) a.0 d.first_is t.spelled) o.1 (timer_taken all w d.name d.thing at good)
act_taken all few w keyword.Thread args new at old len e good =
    let put : List ℕ → ThreadDecl → Result Walk ScriptKind = λ name x. ok_if (nat_lt (length w.script.threads) 64) (with_thread w name x)
    (TooMany what.Threads) in
    let d = declared_ok w.names (thread_of all w.script.cpus) put args new e in
    let o = ok_if_ok (nat_lt (length w.script.threads) 64) (with_thread w d.name d.thing) (TooMany what.Threads) new d.made in
    let a = args_parts args 2 len in
    let t = thread_line_takes all w.script.cpus few (rest args) d.thing d.read_is a.1 in
    moved all w keyword.Thread (thread_keyword d.thing) args (d.name ∷ thread_args all d.thing) (with_thread w d.name d.thing) new t.keyword
    (field_and args d.name (thread_args all d.thing) a.0 d.first_is t.spelled) o.1 (thread_taken all w d.name d.thing at good)
act_taken all few w (keyword.Apc k) args new at old len e good =
    let put : List ℕ → ApcDecl → Result Walk ScriptKind = λ name x. ok_if (nat_lt (length w.script.apcs) 256) (with_apc w name x) (TooMany what.Apcs) in
    let d = declared_ok w.names (apc_of all k) put args new e in
    let o = ok_if_ok (nat_lt (length w.script.apcs) 256) (with_apc w d.name d.thing) (TooMany what.Apcs) new d.made in
    let a = args_parts args (apc_fields k) (len ∙ apc_arity k) in
    let t = apc_line_takes all few k (rest args) d.thing d.read_is a.1 in
    moved all w (keyword.Apc k) (apc_keyword d.thing) args (d.name ∷ apc_args all d.thing) (with_apc w d.name d.thing) new t.keyword
    (field_and args d.name (apc_args all d.thing) a.0 d.first_is t.spelled) o.1 (apc_taken all w d.name d.thing at good)
act_taken all few w keyword.Spinlock args new at old len e good =
    let b = bind_ok (new_name w.names (first args)) (λ (name : List ℕ). ok_if (nat_lt w.script.locks 64) (with_lock w name)
    (TooMany what.Spinlocks)) new e in
    let o = ok_if_ok (nat_lt w.script.locks 64) (with_lock w b.value) (TooMany what.Spinlocks) new b.then in
    let shown = (new_name_takes w.names).shown (first args) b.value b.is in
    moved all w keyword.Spinlock keyword.Spinlock args (b.value ∷ []) (with_lock w b.value) new refl (one_shown args b.value len shown) o.1
    (lock_taken all w b.value at good)
act_taken all few w keyword.Routine args new at old len e good =
    let b = bind_ok (new_name w.names (first args)) (λ (name : List ℕ). ok_if (nat_lt (length w.script.routines) 256) (with_routine w name)
    (TooMany what.Routines)) new e in
    let o = ok_if_ok (nat_lt (length w.script.routines) 256) (with_routine w b.value) (TooMany what.Routines) new b.then in
    let shown = (new_name_takes w.names).shown (first args) b.value b.is in
    moved all w keyword.Routine keyword.Routine args (b.value ∷ []) (with_routine w b.value) new refl (one_shown args b.value len shown) o.1
    (routine_taken all w b.value at good)
act_taken all few w keyword.Exit args new at old len e good =
    moved all w keyword.Exit keyword.Exit args [] (with_exit w) new refl (nil_from_length args len) (ok_is (with_exit w) new e) (exit_taken all w at good)
act_taken all few w (keyword.Call verb) args new at old len e good =
    let b = bind_ok (command_of all w.script.cpus verb args) (λ c. ok_if (nat_lt w.commands 8192) (with_command w c) (TooMany what.Commands)) new e in
    let c = b.value in
    let t = command_takes all w.script.cpus few verb args c b.is len in
    let o = ok_if_ok (nat_lt w.commands 8192) (with_command w c) (TooMany what.Commands) new b.then in
    moved all w (keyword.Call verb) (command_keyword c) args (command_args all c) (with_command w c) new t.keyword t.spelled o.1
    (command_taken all w c at good)

-- a line that is taken adds its row to the rows read so far
pub step_taken : (all : NameLists) → AreFew all → (w : Walk) (row : Row) (new : Walk) → step all w row ≡ Ok new → Good w → so_far all new ≡ so_far all w
    ++ row ∷ []
step_taken all few w row new e good =
    let l = step_ok all w row new e in
    act_taken all few w l.keyword (rest row) new l.at l.since l.count l.acts good ∙ ap (λ (r : Row). so_far all w ++ r ∷ []) (sym l.row_is)
