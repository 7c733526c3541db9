-- The script of the load fits, by what it has of each kind.
use Rattle.std.proofs.Common.{Bool, List, add-zero, ap, arith, length, lit<, lit≤, refl, suc, true, zero, ℕ, ◌*◌, ◌++◌, ◌+◌, ◌/◌, ◌<◌, ◌∙◌, ◌≡◌, ◌≤◌}
use Rattle.std.proofs.Math.Nat.{mod-lt}
use Rattle.std.proofs.lemmas.Bool.{le-leb, lt-ltb}
use Rattle.std.proofs.lemmas.List.Folds.{list_all-append}
use Rattle.std.proofs.lemmas.List.Sums.{sum_by-cons}
use Rattle.std.proofs.lemmas.List.{length-append}
use Rattle.std.specs.List.{AllByRecursion, list_all, sum_by}
use Rattle.std.specs.Prelude.{nat_le, nat_lt, ◌&&◌}
use Rattle.nt_event.proofs.Tables.{length-table_from}
use Rattle.nt_event.specs.Lists.{table, table_from}
use Rattle.nt_event.specs.Script.{apc_fits, command_count, command_fits, dpc_fits, fits, isr_fits, isrs_differ, meets_limits, routine_fits, thread_fits}
use Rattle.nt_event.specs.Script.{timer_fits}
use Rattle.nt_event.specs.declared.commands.ApcKind.TheVariants.{Normal, Special, User}
use Rattle.nt_event.specs.declared.commands.ApcKind.{ApcKind}
use Rattle.nt_event.specs.declared.scripts.Script.{Script}
use Rattle.nt_line.specs.Fits.{HasRange}
use Rattle.nt_load.specs.Commands.{command_at, command_of, row_at, begin}
use Rattle.nt_load.specs.Draws.{after, draw}
use Rattle.nt_load.specs.Load.{apc_decl, busy_routine, busy_thread, idle_dpc, idle_isr, idle_routine, load_script, timer_of_dpc}
use Rattle.nt_load.specs.declared.commands.Row.TheVariants as row
use Rattle.nt_load.specs.declared.commands.Row.{Row}

-- ---- what holds of each value of a table

-- a test that holds of each entry of a table from a number on holds of all its members
list_all_from : {A : Type 0} (test : A → Bool) (k n : ℕ) (f : ℕ → A) → ((i : ℕ) → i < n → test (f (k + i)) ≡ true) → list_all test (table_from k n f) ≡ true
unfolding table_from
list_all_from test k zero f h = refl
list_all_from test k (suc n) f h =
    let here : test (f k) ≡ true = rw add-zero at (h 0 (omega arith)) in
    rw here (list_all_from test (suc k) n f (λ i l. next i l))
  where
    next : (i : ℕ) → i < n → test (f (suc k + i)) ≡ true
    next i l = let e : k + suc i ≡ suc k + i = omega arith in rw e at (h (suc i) (omega arith))

-- a test that each value of a table passes holds of the whole table
pub list_all_table : {A : Type 0} (test : A → Bool) (n : ℕ) (f : ℕ → A) → ((i : ℕ) → i < n → test (f i) ≡ true) → list_all test (table n f) ≡ true
list_all_table test n f h = list_all_from test 0 n f (λ i l. let e : 0 + i ≡ i = omega arith in rw e (h i l))

-- a property of each entry of a table from a number on is one of all its members
all_from : {A : Type 0} (P : A → Type 0) (k n : ℕ) (f : ℕ → A) → ((i : ℕ) → P (f i)) → AllByRecursion P (table_from k n f)
unfolding table_from
all_from P k zero f h = tt
all_from P k (suc n) f h = (h k, all_from P (suc k) n f h)

-- the sum over a table of entries of equal weight is that weight times their number
sum_from : {A : Type 0} (weight : A → ℕ) (w k n : ℕ) (f : ℕ → A) → ((i : ℕ) → weight (f i) ≡ w) → sum_by weight (table_from k n f) ≡ n * w
unfolding table_from
sum_from weight w k zero f h = omega arith
sum_from weight w k (suc n) f h =
    sum_by-cons weight (f k) (table_from (suc k) n f) ∙ added (weight (f k)) (sum_by weight (table_from (suc k) n f)) (h k) (sum_from weight w (suc k) n f h)
  where
    added : (a b : ℕ) → a ≡ w → b ≡ n * w → a + b ≡ suc n * w
    added a b d e = grind arith

-- ---- how much of each kind there is

pub record HasLoad (s : Script) : Type 0 where
  pub cpus : s.cpus ≡ 4
  pub dpcs : length s.dpcs ≡ 32
  pub timers : length s.timers ≡ 8
  pub threads : length s.threads ≡ 32
  pub apcs : length s.apcs ≡ 96
  pub routines : length s.routines ≡ 33

-- two joined lists have the sum of their two lengths
pub both_lengths : {A : Type 0} (xs ys : List A) (a b : ℕ) → length xs ≡ a → length ys ≡ b → length (xs ++ ys) ≡ a + b
both_lengths xs ys a b e f = length-append xs ys ∙ omega (arith, e, f)

-- the load has 4 processors, 32 DPC objects, 8 timers, 32 threads, 96 APC objects and 33 routines
pub has_load : (seed : ℕ) → HasLoad (load_script seed)
has_load seed = record {
  cpus = refl;
  dpcs = length-table_from 0 32 idle_dpc;
  timers = length-table_from 0 8 timer_of_dpc;
  threads = length-table_from 0 32 busy_thread;
  apcs = both_lengths (table 32 (apc_decl Special) ++ table 32 (apc_decl Normal)) (table 32 (apc_decl User)) 64 32
      (both_lengths (table 32 (apc_decl Special)) (table 32 (apc_decl Normal)) 32 32
      (length-table_from 0 32 (apc_decl Special)) (length-table_from 0 32 (apc_decl Normal)))
      (length-table_from 0 32 (apc_decl User));
  routines = ap suc (length-table_from 0 32 (busy_routine seed));
}

-- a number below a count passes the test against the equal count
has : (k n m : ℕ) → n ≡ m → k < m → nat_lt k n ≡ true
has k n m e l = rw e (lt-ltb k m l)

-- a count equal to one within the limit passes the test of the limit
few : (n m most : ℕ) → n ≡ m → m ≤ most → nat_le n most ≡ true
few n m most e l = rw e (le-leb m most l)

-- two tests that hold have a true conjunction
and2 : (a b : Bool) → a ≡ true → b ≡ true → (a && b) ≡ true
and2 a b ea eb = rw (ea, eb) refl

-- a value drawn below a bound that is not 0 is below it
pub draw_less : (k m x : ℕ) → 0 < m → draw k m x < m
draw_less k m x h = mod-lt (after (k + 1) x / 65536) h

-- ---- commands

-- a command that is drawn fits each script that has what the load has
drawn_fits : (s : Script) → HasLoad s → (r : Row) (x : ℕ) → command_fits s (command_of r x) ≡ true
drawn_fits s h row.Raise x = refl
drawn_fits s h row.Lower x = refl
drawn_fits s h row.Queue x = has _ _ _ h.dpcs (draw_less 1 32 x (lit< tt))
drawn_fits s h row.Unqueue x = has _ _ _ h.dpcs (draw_less 1 32 x (lit< tt))
drawn_fits s h row.SetImportance x = has _ _ _ h.dpcs (draw_less 1 32 x (lit< tt))
drawn_fits s h row.SetTarget x =
    and2 _ _ (has _ _ _ h.dpcs (draw_less 1 32 x (lit< tt))) (has _ _ _ h.cpus (draw_less 2 4 x (lit< tt)))
drawn_fits s h row.SetTimer x = has _ _ _ h.timers (draw_less 1 8 x (lit< tt))
drawn_fits s h row.Clock x = refl
drawn_fits s h row.InsertSpecial x =
    let less = draw_less 1 32 x (lit< tt) in has _ _ _ h.apcs (omega (arith, less))
drawn_fits s h row.InsertNormal x =
    let less = draw_less 1 32 x (lit< tt) in has _ _ _ h.apcs (omega (arith, less))
drawn_fits s h row.InsertUser x =
    let less = draw_less 1 32 x (lit< tt) in has _ _ _ h.apcs (omega (arith, less))
drawn_fits s h row.EnterCrit x = refl
drawn_fits s h row.LeaveCrit x = refl
drawn_fits s h row.Interrupt x = and2 _ _ (has _ _ _ h.cpus (draw_less 1 4 x (lit< tt))) refl
drawn_fits s h row.ToUser x = refl

-- a command that is drawn has its numbers in range
drawn_range : (r : Row) (x : ℕ) → HasRange (command_of r x)
drawn_range row.Raise x = lit≤ tt
drawn_range row.Lower x = lit≤ tt
drawn_range row.Queue x = tt
drawn_range row.Unqueue x = tt
drawn_range row.SetImportance x = tt
drawn_range row.SetTarget x = tt
drawn_range row.SetTimer x = let less = draw_less 2 16 x (lit< tt) in (omega (arith, less), lit≤ tt)
drawn_range row.Clock x = lit≤ tt
drawn_range row.InsertSpecial x = tt
drawn_range row.InsertNormal x = tt
drawn_range row.InsertUser x = tt
drawn_range row.EnterCrit x = tt
drawn_range row.LeaveCrit x = tt
drawn_range row.Interrupt x = tt
drawn_range row.ToUser x = tt

-- a routine of drawn commands fits each script that has what the load has
busy_fits : (s : Script) → HasLoad s → (seed r : ℕ) → routine_fits s (busy_routine seed r) ≡ true
busy_fits s h seed r = list_all_table (command_fits s) 128 (λ i. command_at (128 * r + i) seed)
    (λ i l. drawn_fits s h (row_at (begin (128 * r + i) seed)) (begin (128 * r + i) seed))

-- all commands of a routine of drawn commands have their numbers in range
busy_range : (seed r : ℕ) → AllByRecursion HasRange ((busy_routine seed r).commands)
busy_range seed r = all_from HasRange 0 128 (λ i. command_at (128 * r + i) seed)
    (λ i. drawn_range (row_at (begin (128 * r + i) seed)) (begin (128 * r + i) seed))

-- the numbers of all commands of the load are in their ranges
pub load_ranges : (seed : ℕ) → AllByRecursion (λ r. AllByRecursion HasRange r.commands) ((load_script seed).routines)
load_ranges seed =
    (tt, all_from (λ r. AllByRecursion HasRange r.commands) 0 32 (busy_routine seed) (λ r. busy_range seed r))

-- ---- declarations

-- each of the 32 APCs of a kind fits a script that has what the load has
apc_declared : (s : Script) → HasLoad s → (k : ApcKind) (i : ℕ) → i < 32 → apc_fits s (apc_decl k i) ≡ true
apc_declared s h Special i l = rw (has i _ _ h.threads l, has 0 _ _ h.routines (lit< tt)) refl
apc_declared s h Normal i l = rw (has i _ _ h.threads l, has 0 _ _ h.routines (lit< tt)) refl
apc_declared s h User i l = rw (has i _ _ h.threads l, has 0 _ _ h.routines (lit< tt)) refl

-- all 32 APCs of a kind fit a script that has what the load has
apcs_fit : (s : Script) → HasLoad s → (k : ApcKind) → list_all (apc_fits s) (table 32 (apc_decl k)) ≡ true
apcs_fit s h k = list_all_table (apc_fits s) 32 (apc_decl k) (λ i l. apc_declared s h k i l)

-- each of the 32 threads fits a script that has what the load has
thread_declared : (s : Script) → HasLoad s → (i : ℕ) → i < 32 → thread_fits s (busy_thread i) ≡ true
thread_declared s h i l =
    and2 _ _ (has _ _ _ h.cpus (mod-lt i (lit< tt))) (has (i + 1) _ _ h.routines (omega arith))

-- each of the 8 timers fits a script that has what the load has
timer_declared : (s : Script) → HasLoad s → (i : ℕ) → i < 8 → timer_fits s (timer_of_dpc i) ≡ true
timer_declared s h i l = has i _ _ h.dpcs (omega arith)

-- each of the 32 DPCs fits a script that has what the load has
dpc_declared : (s : Script) → HasLoad s → (i : ℕ) → i < 32 → dpc_fits s (idle_dpc i) ≡ true
dpc_declared s h i l = has 0 _ _ h.routines (lit< tt)

-- each of the 4 interrupt routines fits a script that has what the load has
isr_declared : (s : Script) → HasLoad s → (i : ℕ) → i < 4 → isr_fits s (idle_isr i) ≡ true
isr_declared s h i l = rw (has i _ _ h.cpus l, has 0 _ _ h.routines (lit< tt)) refl

-- the interrupt routines of the four processors are for different pairs of processor and level
differ_by_cpu : isrs_differ (table 4 idle_isr) ≡ true
unfolding table_from
differ_by_cpu = refl

-- the load has 4096 commands in its routines, whatever its seed
commands_in_all : (seed : ℕ) → command_count ((load_script seed).routines) ≡ 4096
commands_in_all seed =
    in_all _ _ (sum_by-cons (λ r. length r.commands) idle_routine (table 32 (busy_routine seed)))
    (sum_from (λ r. length r.commands) 128 0 32 (busy_routine seed) (λ r. length-table_from 0 128 (λ i. command_at (128 * r + i) seed)))
  where
    in_all : (a b : ℕ) → a ≡ 0 + b → b ≡ 32 * 128 → a ≡ 4096
    in_all a b e f = omega (arith, e, f)

-- eight tests that hold have a true conjunction
and8 : (a b c d e f g h : Bool) → a ≡ true → b ≡ true → c ≡ true → d ≡ true → e ≡ true → f ≡ true → g ≡ true → h ≡ true →
    (a && b && c && d && e && f && g && h) ≡ true
and8 a b c d e f g h ea eb ec ed ee ef eg eh = rw (ea, eb, ec, ed, ee, ef, eg, eh) refl

-- the script of the load is within all limits, whatever its seed
load_meets_limits : (seed : ℕ) → meets_limits (load_script seed) ≡ true
load_meets_limits seed =
    let h = has_load seed in
    rw (
      few _ _ 64 h.threads (lit≤ tt),
      few _ _ 64 h.timers (lit≤ tt),
      few _ _ 256 h.dpcs (lit≤ tt),
      few _ _ 256 h.apcs (lit≤ tt),
      few _ _ 256 h.routines (lit≤ tt),
      few _ _ 8192 (commands_in_all seed) (lit≤ tt),
    ) refl

-- the script of the load fits, for each seed
pub load_fits : (seed : ℕ) → fits (load_script seed) ≡ true
load_fits seed =
    let s = load_script seed in
    let h = has_load seed in
    and8 (meets_limits s) (list_all (isr_fits s) s.isrs) (isrs_differ s.isrs) (list_all (dpc_fits s) s.dpcs)
    (list_all (timer_fits s) s.timers) (list_all (thread_fits s) s.threads) (list_all (apc_fits s) s.apcs)
    (list_all (routine_fits s) s.routines)
    (load_meets_limits seed)
    (list_all_table (isr_fits s) 4 idle_isr (λ i l. isr_declared s h i l))
    differ_by_cpu
    (list_all_table (dpc_fits s) 32 idle_dpc (λ i l. dpc_declared s h i l))
    (list_all_table (timer_fits s) 8 timer_of_dpc (λ i l. timer_declared s h i l))
    (list_all_table (thread_fits s) 32 busy_thread (λ i l. thread_declared s h i l))
    (both_fit (apc_fits s) _ _ (both_fit (apc_fits s) _ _ (apcs_fit s h Special) (apcs_fit s h Normal)) (apcs_fit s h User))
    (list_all_table (routine_fits s) 32 (busy_routine seed) (λ r l. busy_fits s h seed r))
  where
    both_fit : {A : Type 0} (test : A → Bool) (xs ys : List A) → list_all test xs ≡ true → list_all test ys ≡ true →
        list_all test (xs ++ ys) ≡ true
    both_fit test xs ys e f = list_all-append test xs ys ∙ and2 (list_all test xs) (list_all test ys) e f
