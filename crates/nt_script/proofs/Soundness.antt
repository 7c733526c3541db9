-- An input is sound exactly where it fits.
use Rattle.std.proofs.Common.{◌≡◌, ℕ, ◌<◌, ◌≤◌, Bool, true, List, [], ◌∷◌, length, Option, Some, None, refl, sym, ◌∙◌, arith, inl, inr}
use Rattle.std.specs.Prelude.{◌&&◌, ◌==◌, nat_le, nat_lt, IfSome}
use Rattle.std.specs.List.{AllByRecursion, list_all}
use Rattle.std.proofs.lemmas.Bool.{and_parts, and_from, or_cases, ltb-true, lt-ltb, leb-true, le-leb, eqb-true}
use Rattle.nt_event.specs.declared.numbers.DpcNo.{DpcNo}
use Rattle.nt_event.specs.declared.numbers.RoutineNo.{RoutineNo}
use Rattle.nt_event.specs.declared.commands.Command.{Command}
use Rattle.nt_event.specs.declared.commands.Command.TheVariants as cmd
use Rattle.nt_event.specs.declared.scripts.Script.{Script}
use Rattle.nt_event.specs.declared.scripts.Routine.{Routine}
use Rattle.nt_event.specs.declared.scripts.Isr.{Isr}
use Rattle.nt_event.specs.declared.scripts.TimerDecl.{TimerDecl}
use Rattle.nt_event.specs.declared.scripts.ThreadDecl.{ThreadDecl}
use Rattle.nt_event.specs.declared.scripts.ApcDecl.{ApcDecl}
use Rattle.nt_event.specs.Script.{has_cpu, has_thread, has_dpc, has_routine, where_given, command_count, meets_limits, isr_fits, isrs_differ, dpc_fits}
use Rattle.nt_event.specs.Script.{timer_fits, thread_fits, apc_has_its_routines, apc_fits, command_fits, routine_fits}
use Rattle.nt_event.specs.Classes.{is_requested_level, is_isr_level}
use Rattle.nt_script.specs.declared.walk.Input.{Input}
use Rattle.nt_line.specs.NameLists.{NameLists}
use Rattle.nt_line.specs.Fits.{IsrFits, DpcFits, TimerFits, ThreadFits, ApcFits, CommandFits}
use Rattle.nt_line.specs.Fits.{HasRange}
use Rattle.nt_script.specs.Sound.{IsSound}
use Rattle.nt_line.proofs.Found.{names_fit, all_new}
use Rattle.nt_script.proofs.Fit.{Fit}

-- ---- tests and what they say

-- if the conjunction of eight tests holds, each of the eight holds
eight : (a b c d e f g h : Bool) → (a && b && c && d && e && f && g && h) ≡ true → (a ≡ true) × (b ≡ true) × (c ≡ true) × (d ≡ true) × (e ≡ true) ×
    (f ≡ true) × (g ≡ true) × (h ≡ true)
eight a b c d e f g h e0 =
    let p7 = and_parts (a && b && c && d && e && f && g) h e0 in
    let p6 = and_parts (a && b && c && d && e && f) g p7.0 in
    let p5 = and_parts (a && b && c && d && e) f p6.0 in
    let p4 = and_parts (a && b && c && d) e p5.0 in
    let p3 = and_parts (a && b && c) d p4.0 in
    let p2 = and_parts (a && b) c p3.0 in
    let p1 = and_parts (a) b p2.0 in
    (p1.0, p1.1, p2.1, p3.1, p4.1, p5.1, p6.1, p7.1)

-- if each of eight tests holds, their conjunction holds
eight_from : (a b c d e f g h : Bool) → a ≡ true → b ≡ true → c ≡ true → d ≡ true → e ≡ true → f ≡ true → g ≡ true → h ≡ true →
    (a && b && c && d && e && f && g && h) ≡ true
eight_from a b c d e f g h ea eb ec ed ee ef eg eh = rw (ea, eb, ec, ed, ee, ef, eg, eh) refl

-- if the conjunction of ten tests holds, each of the ten holds
ten : (a b c d e f g h i j : Bool) → (a && b && c && d && e && f && g && h && i && j) ≡ true → (a ≡ true) × (b ≡ true) × (c ≡ true) × (d ≡ true) ×
    (e ≡ true) × (f ≡ true) × (g ≡ true) × (h ≡ true) × (i ≡ true) × (j ≡ true)
ten a b c d e f g h i j e0 =
    let p9 = and_parts (a && b && c && d && e && f && g && h && i) j e0 in
    let p8 = and_parts (a && b && c && d && e && f && g && h) i p9.0 in
    let p7 = and_parts (a && b && c && d && e && f && g) h p8.0 in
    let p6 = and_parts (a && b && c && d && e && f) g p7.0 in
    let p5 = and_parts (a && b && c && d && e) f p6.0 in
    let p4 = and_parts (a && b && c && d) e p5.0 in
    let p3 = and_parts (a && b && c) d p4.0 in
    let p2 = and_parts (a && b) c p3.0 in
    let p1 = and_parts (a) b p2.0 in
    (p1.0, p1.1, p2.1, p3.1, p4.1, p5.1, p6.1, p7.1, p8.1, p9.1)

-- if each of ten tests holds, their conjunction holds
ten_from : (a b c d e f g h i j : Bool) → a ≡ true → b ≡ true → c ≡ true → d ≡ true → e ≡ true → f ≡ true → g ≡ true → h ≡ true → i ≡ true → j ≡ true →
    (a && b && c && d && e && f && g && h && i && j) ≡ true
ten_from a b c d e f g h i j ea eb ec ed ee ef eg eh ei ej = rw (ea, eb, ec, ed, ee, ef, eg, eh, ei, ej) refl

-- if the conjunction of three tests holds, each of the three holds
three : (a b c : Bool) → (a && b && c) ≡ true → (a ≡ true) × (b ≡ true) × (c ≡ true)
three a b c e0 =
    let p2 = and_parts (a && b) c e0 in
    let p1 = and_parts a b p2.0 in
    (p1.0, p1.1, p2.1)

-- if the conjunction of five tests holds, each of the five holds
five : (a b c d e : Bool) → (a && b && c && d && e) ≡ true → (a ≡ true) × (b ≡ true) × (c ≡ true) × (d ≡ true) × (e ≡ true)
five a b c d e e0 =
    let p4 = and_parts (a && b && c && d) e e0 in
    let p3 = and_parts (a && b && c) d p4.0 in
    let p2 = and_parts (a && b) c p3.0 in
    let p1 = and_parts a b p2.0 in
    (p1.0, p1.1, p2.1, p3.1, p4.1)

-- if a test means a property, a list whose members all pass the test has the property at each member
all_from : {A : Type 0} (p : A → Bool) (P : A → Type 0) → ((x : A) → p x ≡ true → P x) → (xs : List A) → list_all p xs ≡ true → AllByRecursion P xs
all_from p P f [] e = tt
all_from p P f (x ∷ xs) e = let b = and_parts (p x) (list_all p xs) e in (f x b.0, all_from p P f xs b.1)

-- if a property means that a test holds, a list with the property at each member passes the test at all
all_to : {A : Type 0} (p : A → Bool) (P : A → Type 0) → ((x : A) → P x → p x ≡ true) → (xs : List A) → AllByRecursion P xs → list_all p xs ≡ true
all_to p P f [] h = refl
all_to p P f (x ∷ xs) h = and_from (p x) (list_all p xs) (f x h.0) (all_to p P f xs h.1)

-- if a test means a property, an optional value that passes the test where it is given has the property
given_from : {A : Type 0} (has : A → Bool) (P : A → Type 0) → ((x : A) → has x ≡ true → P x) → (o : Option A) → where_given has o ≡ true → IfSome o P
given_from has P f None e = tt
given_from has P f (Some x) e = f x e

-- if a property means that a test holds, an optional value with the property passes the test where given
given_to : {A : Type 0} (has : A → Bool) (P : A → Type 0) → ((x : A) → P x → has x ≡ true) → (o : Option A) → IfSome o P → where_given has o ≡ true
given_to has P f None h = refl
given_to has P f (Some x) h = f x h

-- a number that passes the test against a bound is below the equal bound
below : (i n m : ℕ) → n ≡ m → nat_lt i m ≡ true → i < n
below i n m e h = let lt = ltb-true i m h in omega (arith, e, lt)

-- a number below a bound passes the test against the equal bound
below_test : (i n m : ℕ) → n ≡ m → i < n → nat_lt i m ≡ true
below_test i n m e h = lt-ltb i m (omega (arith, e, h))

-- a level that may be requested is at most 15
requested_low : (l : ℕ) → is_requested_level l ≡ true → l ≤ 15
requested_low l e =
    elim (or_cases (nat_le 3 l && nat_le l 11) (l == 14) e) [
      | inl between ↦ (let b = and_parts (nat_le 3 l) (nat_le l 11) between in let le = leb-true l 11 b.1 in omega arith)
      | inr is ↦ (let same = eqb-true l 14 is in omega (arith, same))
    ]

-- a level of an interrupt routine is at most 15
isr_level_low : (l : ℕ) → is_isr_level l ≡ true → l ≤ 15
isr_level_low l e =
    elim (or_cases (is_requested_level l) (l == 13) e) [
      | inl requested ↦ requested_low l requested
      | inr is ↦ (let same = eqb-true l 13 is in omega (arith, same))
    ]

-- ---- one thing

-- there are as many names as things
pub record Counts (s : Script) (names : NameLists) : Type 0 where
  pub dpcs : length names.dpcs ≡ length s.dpcs
  pub timers : length names.timers ≡ length s.timers
  pub threads : length names.threads ≡ length s.threads
  pub apcs : length names.apcs ≡ length s.apcs
  pub routines : length names.routines ≡ length s.routines
  pub locks : length names.locks ≡ s.locks

-- a routine that the script has is below the count of routine names
routine_from : (s : Script) (names : NameLists) → Counts s names → (r : RoutineNo) → has_routine s r ≡ true → r.0 < length names.routines
routine_from s names cs r e = below r.0 (length names.routines) (length s.routines) cs.routines e

-- a routine below the count of routine names is one that the script has
routine_to : (s : Script) (names : NameLists) → Counts s names → (r : RoutineNo) → r.0 < length names.routines → has_routine s r ≡ true
routine_to s names cs r h = below_test r.0 (length names.routines) (length s.routines) cs.routines h

-- a DPC that the script has is below the count of DPC names
dpc_no_from : (s : Script) (names : NameLists) → Counts s names → (d : DpcNo) → has_dpc s d ≡ true → d.0 < length names.dpcs
dpc_no_from s names cs d e = below d.0 (length names.dpcs) (length s.dpcs) cs.dpcs e

-- a DPC below the count of DPC names is one that the script has
dpc_no_to : (s : Script) (names : NameLists) → Counts s names → (d : DpcNo) → d.0 < length names.dpcs → has_dpc s d ≡ true
dpc_no_to s names cs d h = below_test d.0 (length names.dpcs) (length s.dpcs) cs.dpcs h

-- an interrupt routine that passes the test of the script fits its names and processors
isr_from : (s : Script) (names : NameLists) → Counts s names → (x : Isr) → isr_fits s x ≡ true → IsrFits names s.cpus x
isr_from s names cs x e =
    let t = three (has_cpu s x.cpu) (is_isr_level x.level) (has_routine s x.routine) e in
    (ltb-true x.cpu.0 s.cpus t.0, isr_level_low x.level t.1, t.1, routine_from s names cs x.routine t.2)

-- an interrupt routine that fits the names and processors passes the test of the script
isr_to : (s : Script) (names : NameLists) → Counts s names → (x : Isr) → IsrFits names s.cpus x → isr_fits s x ≡ true
isr_to s names cs x h = and_from (has_cpu s x.cpu && is_isr_level x.level) (has_routine s x.routine)
    (and_from (has_cpu s x.cpu) (is_isr_level x.level) (lt-ltb x.cpu.0 s.cpus h.0) h.2) (routine_to s names cs x.routine h.3)

-- a thread that passes the test of the script fits its names and processors
thread_from : (s : Script) (names : NameLists) → Counts s names → (x : ThreadDecl) → thread_fits s x ≡ true → ThreadFits names s.cpus x
thread_from s names cs x e = let b = and_parts (has_cpu s x.cpu) (has_routine s x.routine) e in
    (ltb-true x.cpu.0 s.cpus b.0, routine_from s names cs x.routine b.1)

-- a thread that fits the names and processors passes the test of the script
thread_to : (s : Script) (names : NameLists) → Counts s names → (x : ThreadDecl) → ThreadFits names s.cpus x → thread_fits s x ≡ true
thread_to s names cs x h = and_from (has_cpu s x.cpu) (has_routine s x.routine) (lt-ltb x.cpu.0 s.cpus h.0) (routine_to s names cs x.routine h.1)

-- a timer that passes the test of the script fits its names
timer_from : (s : Script) (names : NameLists) → Counts s names → (x : TimerDecl) → timer_fits s x ≡ true → TimerFits names x
timer_from s names cs x e = given_from (has_dpc s) (λ d. d.0 < length names.dpcs) (dpc_no_from s names cs) x.dpc e

-- a timer that fits the names passes the test of the script
timer_to : (s : Script) (names : NameLists) → Counts s names → (x : TimerDecl) → TimerFits names x → timer_fits s x ≡ true
timer_to s names cs x h = given_to (has_dpc s) (λ d. d.0 < length names.dpcs) (dpc_no_to s names cs) x.dpc h

-- an APC that passes the test of the script fits its names
apc_from : (s : Script) (names : NameLists) → Counts s names → (x : ApcDecl) → apc_fits s x ≡ true → ApcFits names x
apc_from s names cs x e =
    let f = five (has_thread s x.thread) (has_routine s x.kernel) (where_given (has_routine s) x.normal) (where_given (has_routine s) x.rundown)
    (apc_has_its_routines x.kind x.normal x.rundown) e in
    record {
      thread = below x.thread.0 (length names.threads) (length s.threads) cs.threads f.0;
      kernel = routine_from s names cs x.kernel f.1;
      normal = given_from (has_routine s) (λ r. r.0 < length names.routines) (routine_from s names cs) x.normal f.2;
      rundown = given_from (has_routine s) (λ r. r.0 < length names.routines) (routine_from s names cs) x.rundown f.3;
      routines = f.4;
    }

-- an APC that fits the names passes the test of the script
apc_to : (s : Script) (names : NameLists) → Counts s names → (x : ApcDecl) → ApcFits names x → apc_fits s x ≡ true
apc_to s names cs x h =
    let t = below_test x.thread.0 (length names.threads) (length s.threads) cs.threads h.thread in
    let k = routine_to s names cs x.kernel h.kernel in
    let n = given_to (has_routine s) (λ r. r.0 < length names.routines) (routine_to s names cs) x.normal h.normal in
    let d = given_to (has_routine s) (λ r. r.0 < length names.routines) (routine_to s names cs) x.rundown h.rundown in
    and_from (has_thread s x.thread && has_routine s x.kernel && where_given (has_routine s) x.normal && where_given (has_routine s) x.rundown)
    (apc_has_its_routines x.kind x.normal x.rundown)
    (and_from (has_thread s x.thread && has_routine s x.kernel && where_given (has_routine s) x.normal) (where_given (has_routine s) x.rundown)
    (and_from (has_thread s x.thread && has_routine s x.kernel) (where_given (has_routine s) x.normal)
    (and_from (has_thread s x.thread) (has_routine s x.kernel) t k) n) d) h.routines

-- a command that fits the script, with numbers in their ranges, has a line that fits the names
pub command_from : (s : Script) (names : NameLists) → Counts s names → (c : Command) → command_fits s c ≡ true → HasRange c → CommandFits names s.cpus c
command_from s names cs (cmd.Raise level) e h = h
command_from s names cs (cmd.Lower level) e h = h
command_from s names cs (cmd.Queue d) e h = below d.0 (length names.dpcs) (length s.dpcs) cs.dpcs e
command_from s names cs (cmd.Unqueue d) e h = below d.0 (length names.dpcs) (length s.dpcs) cs.dpcs e
command_from s names cs (cmd.SetImportance d importance) e h = (below d.0 (length names.dpcs) (length s.dpcs) cs.dpcs e, tt)
command_from s names cs (cmd.SetTarget d target) e h = (let b = and_parts (has_dpc s d) (where_given (has_cpu s) target) e in
    (below d.0 (length names.dpcs) (length s.dpcs) cs.dpcs b.0, given_from (has_cpu s) (λ p. p.0 < s.cpus) (λ p t. ltb-true p.0 s.cpus t) target b.1))
command_from s names cs (cmd.SetTimer t due period) e h = (below t.0 (length names.timers) (length s.timers) cs.timers e, h.0, h.1)
command_from s names cs (cmd.CancelTimer t) e h = below t.0 (length names.timers) (length s.timers) cs.timers e
command_from s names cs (cmd.InsertApc a) e h = below a.0 (length names.apcs) (length s.apcs) cs.apcs e
command_from s names cs (cmd.RemoveApc a) e h = below a.0 (length names.apcs) (length s.apcs) cs.apcs e
command_from s names cs cmd.EnterCrit e h = tt
command_from s names cs cmd.EnterGuard e h = tt
command_from s names cs cmd.LeaveCrit e h = tt
command_from s names cs cmd.LeaveGuard e h = tt
command_from s names cs (cmd.StartWait mode alertable) e h = (tt, tt)
command_from s names cs (cmd.Delay mode alertable units) e h = (tt, tt, h)
command_from s names cs (cmd.Release t) e h = below t.0 (length names.threads) (length s.threads) cs.threads e
command_from s names cs (cmd.Alert t mode) e h = (below t.0 (length names.threads) (length s.threads) cs.threads e, tt)
command_from s names cs (cmd.TestAlert mode) e h = tt
command_from s names cs (cmd.Interrupt cpu level) e h = (let b = and_parts (has_cpu s cpu) (is_requested_level level) e in
    (ltb-true cpu.0 s.cpus b.0, (requested_low level b.1, b.1)))
command_from s names cs (cmd.Clock units) e h = h
command_from s names cs cmd.ToUser e h = tt
command_from s names cs cmd.Yield e h = tt
command_from s names cs (cmd.Acquire k) e h = below k.0 (length names.locks) s.locks cs.locks e
command_from s names cs (cmd.Unlock k) e h = below k.0 (length names.locks) s.locks cs.locks e
command_from s names cs (cmd.Note number) e h = h

-- a command whose line fits the names fits the script, and its numbers are in their ranges
pub command_to : (s : Script) (names : NameLists) → Counts s names → (c : Command) → CommandFits names s.cpus c → (command_fits s c ≡ true) × HasRange c
command_to s names cs (cmd.Raise level) h = (refl, h)
command_to s names cs (cmd.Lower level) h = (refl, h)
command_to s names cs (cmd.Queue d) h = (below_test d.0 (length names.dpcs) (length s.dpcs) cs.dpcs h, tt)
command_to s names cs (cmd.Unqueue d) h = (below_test d.0 (length names.dpcs) (length s.dpcs) cs.dpcs h, tt)
command_to s names cs (cmd.SetImportance d importance) h = (below_test d.0 (length names.dpcs) (length s.dpcs) cs.dpcs h.0, tt)
command_to s names cs (cmd.SetTarget d target) h = (
  and_from (has_dpc s d) (where_given (has_cpu s) target)
      (below_test d.0 (length names.dpcs) (length s.dpcs) cs.dpcs h.0) (given_to (has_cpu s) (λ p. p.0 < s.cpus) (λ p t. lt-ltb p.0 s.cpus t) target h.1),
  tt,
)
command_to s names cs (cmd.SetTimer t due period) h = (below_test t.0 (length names.timers) (length s.timers) cs.timers h.0, (h.1, h.2))
command_to s names cs (cmd.CancelTimer t) h = (below_test t.0 (length names.timers) (length s.timers) cs.timers h, tt)
command_to s names cs (cmd.InsertApc a) h = (below_test a.0 (length names.apcs) (length s.apcs) cs.apcs h, tt)
command_to s names cs (cmd.RemoveApc a) h = (below_test a.0 (length names.apcs) (length s.apcs) cs.apcs h, tt)
command_to s names cs cmd.EnterCrit h = (refl, tt)
command_to s names cs cmd.EnterGuard h = (refl, tt)
command_to s names cs cmd.LeaveCrit h = (refl, tt)
command_to s names cs cmd.LeaveGuard h = (refl, tt)
command_to s names cs (cmd.StartWait mode alertable) h = (refl, tt)
command_to s names cs (cmd.Delay mode alertable units) h = (refl, h.2)
command_to s names cs (cmd.Release t) h = (below_test t.0 (length names.threads) (length s.threads) cs.threads h, tt)
command_to s names cs (cmd.Alert t mode) h = (below_test t.0 (length names.threads) (length s.threads) cs.threads h.0, tt)
command_to s names cs (cmd.TestAlert mode) h = (refl, tt)
command_to s names cs (cmd.Interrupt cpu level) h = (and_from (has_cpu s cpu) (is_requested_level level) (lt-ltb cpu.0 s.cpus h.0) h.1.1, tt)
command_to s names cs (cmd.Clock units) h = (refl, h)
command_to s names cs cmd.ToUser h = (refl, tt)
command_to s names cs cmd.Yield h = (refl, tt)
command_to s names cs (cmd.Acquire k) h = (below_test k.0 (length names.locks) s.locks cs.locks h, tt)
command_to s names cs (cmd.Unlock k) h = (below_test k.0 (length names.locks) s.locks cs.locks h, tt)
command_to s names cs (cmd.Note number) h = (refl, h)

-- commands that pass the test of the script and have their numbers in range fit the names and processors
commands_from : (s : Script) (names : NameLists) → Counts s names → (cs : List Command) → list_all (command_fits s) cs ≡ true → AllByRecursion HasRange cs →
    AllByRecursion (CommandFits names s.cpus) cs
commands_from s names n [] e h = tt
commands_from s names n (c ∷ cs) e h = let b = and_parts (command_fits s c) (list_all (command_fits s) cs) e in
    (command_from s names n c b.0 h.0, commands_from s names n cs b.1 h.1)

-- commands that fit the names and processors pass the test of the script and have their numbers in range
commands_to : (s : Script) (names : NameLists) → Counts s names → (cs : List Command) → AllByRecursion (CommandFits names s.cpus) cs →
    (list_all (command_fits s) cs ≡ true) × AllByRecursion HasRange cs
commands_to s names n [] h = (refl, tt)
commands_to s names n (c ∷ cs) h =
    let b = command_to s names n c h.0 in
    let r = commands_to s names n cs h.1 in
    (and_from (command_fits s c) (list_all (command_fits s) cs) b.0 r.0, (b.1, r.1))

-- routines that pass the test of the script, with numbers in range, have commands that fit the names
routines_from : (s : Script) (names : NameLists) → Counts s names → (rs : List Routine) → list_all (routine_fits s) rs ≡ true →
    AllByRecursion (λ r. AllByRecursion HasRange r.commands) rs → AllByRecursion (λ r. AllByRecursion (CommandFits names s.cpus) r.commands) rs
routines_from s names n [] e h = tt
routines_from s names n (r ∷ rs) e h = let b = and_parts (routine_fits s r) (list_all (routine_fits s) rs) e in
    (commands_from s names n r.commands b.0 h.0, routines_from s names n rs b.1 h.1)

-- routines whose commands fit the names pass the test of the script and have their numbers in range
routines_to : (s : Script) (names : NameLists) → Counts s names → (rs : List Routine) →
    AllByRecursion (λ r. AllByRecursion (CommandFits names s.cpus) r.commands) rs → (list_all (routine_fits s) rs ≡ true) ×
    AllByRecursion (λ r. AllByRecursion HasRange r.commands) rs
routines_to s names n [] h = (refl, tt)
routines_to s names n (r ∷ rs) h =
    let b = commands_to s names n r.commands h.0 in
    let m = routines_to s names n rs h.1 in
    (and_from (routine_fits s r) (list_all (routine_fits s) rs) b.0 m.0, (b.1, m.1))

-- ---- the whole input

-- a sound input fits
pub sound_fits : (input : Input) → IsSound input → Fit input
sound_fits input i =
    let s = input.script in
    let names = input.names in
    let cs : Counts s names = record { dpcs = i.dpcs; timers = i.timers; threads = i.threads; apcs = i.apcs; routines = i.routines; locks = i.locks } in
    let f = eight (meets_limits s) (list_all (isr_fits s) s.isrs) (isrs_differ s.isrs) (list_all (dpc_fits s) s.dpcs) (list_all (timer_fits s) s.timers)
    (list_all (thread_fits s) s.threads) (list_all (apc_fits s) s.apcs) (list_all (routine_fits s) s.routines) i.fits in
    let m = ten (nat_le 1 s.cpus) (nat_le s.cpus 64) (where_given (λ depth. nat_le depth 256) s.depth) (nat_le (length s.threads) 64)
    (nat_le (length s.timers) 64) (nat_le (length s.dpcs) 256) (nat_le (length s.apcs) 256) (nat_le s.locks 64) (nat_le (length s.routines) 256)
    (nat_le (command_count s.routines) 8192) f.0 in
    let at_most : (n most k : ℕ) → k ≡ n → nat_le n most ≡ true → k ≤ most = λ n most k e t. (let le = leb-true n most t in omega (arith, e, le)) in
    record {
      version = i.version;
      cpus = (leb-true 1 s.cpus m.0, leb-true s.cpus 64 m.1);
      most = i.cpus;
      words = record { from = i.version.0; no_locks = λ h. i.locks ∙ i.no_locks (omega (arith, h, i.version.0)) };
      depth = given_from (λ depth. nat_le depth 256) (λ n. n ≤ 256) (λ n t. leb-true n 256 t) s.depth m.2;
      few = record {
        dpcs = at_most (length s.dpcs) 256 (length names.dpcs) i.dpcs m.5;
        timers = at_most (length s.timers) 64 (length names.timers) i.timers m.4;
        threads = at_most (length s.threads) 64 (length names.threads) i.threads m.3;
        apcs = at_most (length s.apcs) 256 (length names.apcs) i.apcs m.6;
        locks = at_most s.locks 64 (length names.locks) i.locks m.7;
        routines = at_most (length s.routines) 256 (length names.routines) i.routines m.8;
      };
      dpc_count = i.dpcs;
      timer_count = i.timers;
      thread_count = i.threads;
      apc_count = i.apcs;
      lock_count = i.locks;
      routine_count = i.routines;
      command_count = leb-true (command_count s.routines) 8192 m.9;
      names = names_fit names i.names;
      apart = f.2;
      isrs = all_from (isr_fits s) (IsrFits names s.cpus) (isr_from s names cs) s.isrs f.1;
      dpcs = all_from (dpc_fits s) (DpcFits names) (λ d e. routine_from s names cs d.routine e) s.dpcs f.3;
      timers = all_from (timer_fits s) (TimerFits names) (timer_from s names cs) s.timers f.4;
      threads = all_from (thread_fits s) (ThreadFits names s.cpus) (thread_from s names cs) s.threads f.5;
      apcs = all_from (apc_fits s) (ApcFits names) (apc_from s names cs) s.apcs f.6;
      routines = routines_from s names cs s.routines f.7 i.ranges;
    }

-- an input that fits is sound
pub fit_sound : (input : Input) → Fit input → IsSound input
fit_sound input i =
    let s = input.script in
    let names = input.names in
    let cs : Counts s names = record {
      dpcs = i.dpc_count;
      timers = i.timer_count;
      threads = i.thread_count;
      apcs = i.apc_count;
      routines = i.routine_count;
      locks = i.lock_count;
    } in
    let at_most : (n most k : ℕ) → k ≡ n → k ≤ most → nat_le n most ≡ true = λ n most k e h. le-leb n most (omega (arith, e, h)) in
    let limits : meets_limits s ≡ true = ten_from (nat_le 1 s.cpus) (nat_le s.cpus 64) (where_given (λ depth. nat_le depth 256) s.depth)
    (nat_le (length s.threads) 64) (nat_le (length s.timers) 64) (nat_le (length s.dpcs) 256) (nat_le (length s.apcs) 256) (nat_le s.locks 64)
    (nat_le (length s.routines) 256)
    (nat_le (command_count s.routines) 8192)
    (le-leb 1 s.cpus i.cpus.0) (le-leb s.cpus 64 i.cpus.1)
    (given_to (λ depth. nat_le depth 256) (λ n. n ≤ 256) (λ n h. le-leb n 256 h) s.depth i.depth)
    (at_most (length s.threads) 64 (length names.threads) i.thread_count i.few.threads)
    (at_most (length s.timers) 64 (length names.timers) i.timer_count i.few.timers) (at_most (length s.dpcs) 256 (length names.dpcs) i.dpc_count i.few.dpcs)
    (at_most (length s.apcs) 256 (length names.apcs) i.apc_count i.few.apcs)
    (at_most s.locks 64 (length names.locks) i.lock_count i.few.locks) (at_most (length s.routines) 256 (length names.routines) i.routine_count i.few.routines)
    (le-leb (command_count s.routines) 8192 i.command_count) in
    let r = routines_to s names cs s.routines i.routines in
    record {
      fits = eight_from (meets_limits s) (list_all (isr_fits s) s.isrs) (isrs_differ s.isrs) (list_all (dpc_fits s) s.dpcs) (list_all (timer_fits s) s.timers)
          (list_all (thread_fits s) s.threads) (list_all (apc_fits s) s.apcs) (list_all (routine_fits s) s.routines)
          limits (all_to (isr_fits s) (IsrFits names s.cpus) (isr_to s names cs) s.isrs i.isrs) i.apart
          (all_to (dpc_fits s) (DpcFits names) (λ d h. routine_to s names cs d.routine h) s.dpcs i.dpcs)
          (all_to (timer_fits s) (TimerFits names) (timer_to s names cs) s.timers i.timers)
          (all_to (thread_fits s) (ThreadFits names s.cpus) (thread_to s names cs) s.threads i.threads)
          (all_to (apc_fits s) (ApcFits names) (apc_to s names cs) s.apcs i.apcs) r.0;
      version = i.version;
      cpus = i.most;
      no_locks = λ h. sym i.lock_count ∙ i.words.no_locks (omega (arith, h));
      ranges = r.1;
      dpcs = i.dpc_count;
      timers = i.timer_count;
      threads = i.thread_count;
      apcs = i.apc_count;
      locks = i.lock_count;
      routines = i.routine_count;
      names = all_new names i.names;
    }
