-- What the routines of a script that fits declare: few commands, and locks below 64.
use Rattle.std.proofs.Common.{ap, arith, subst, ◌∙◌}
use Rattle.std.proofs.lemmas.Bool.{leb-true, lt-ltb, ltb-true}
use Rattle.std.proofs.lemmas.List.Sums.{AllPass-from_list_all, get_or-le-sum_by}
use Rattle.std.proofs.lemmas.Option.{get_or_from_slice_get, slice_get_within}
use Rattle.std.specs.List.{AllPass, list_all}
use Rattle.std.specs.Option.{option_map_or}
use Rattle.std.specs.Prelude.{Bool, List, None, Option, Some, [], length, nat_lt, refl, slice_get, suc, take, true, zero, ℕ}
use Rattle.std.specs.Prelude.{◌∷◌, ◌≡◌, ◌≤◌}
use Rattle.nt_event.proofs.Booleans.{and_both}
use Rattle.nt_event.proofs.Options.{both}
use Rattle.nt_event.specs.declared.commands.Command.{Command}
use Rattle.nt_event.specs.declared.commands.Command.TheVariants.{Acquire, Unlock}
use Rattle.nt_event.specs.declared.numbers.LockNo.{LockNo}
use Rattle.nt_event.specs.declared.numbers.RoutineNo.{RoutineNo}
use Rattle.nt_event.specs.declared.scripts.Routine.{Routine}
use Rattle.nt_event.specs.declared.scripts.Script.{Script}
use Rattle.nt_event.specs.Routines.{commands_of}
use Rattle.nt_event.specs.Script.{command_count, command_fits, fits, meets_limits, routine_fits}
use Rattle.nt_runs.proofs.Declared.{each}
use Rattle.nt_verify.specs.Steps.{has_lock_below}

-- ---- the tests of a script that fits

-- a script that fits meets the limits
limits_hold : (s : Script) → fits s ≡ true → meets_limits s ≡ true
limits_hold s h = (both _ _ (both _ _ (both _ _ (both _ _ (both _ _ (both _ _ (both _ _ h).0).0).0).0).0).0).0

-- a script that fits has at most 64 locks
locks_few : (s : Script) → fits s ≡ true → s.locks ≤ 64
locks_few s h = leb-true s.locks 64 (both _ _ (both _ _ (both _ _ (limits_hold s h)).0).0).1

-- the routines of a script that fits have at most 8192 commands in all
commands_limited : (s : Script) → fits s ≡ true → command_count s.routines ≤ 8192
commands_limited s h = leb-true (command_count s.routines) 8192 (both _ _ (limits_hold s h)).1

-- ---- the commands of one routine

-- a routine of a script that fits has at most 8192 commands
pub commands_few : (s : Script) (r : Option RoutineNo) → fits s ≡ true → length (commands_of s r) ≤ 8192
commands_few s None h = omega arith
commands_few s (Some r) h = go (slice_get s.routines r.0) refl
  where
    go : (o : Option Routine) → slice_get s.routines r.0 ≡ o → length (option_map_or (λ x. x.commands) o []) ≤ 8192
    go None e = omega arith
    go (Some x) e =
        let within = slice_get_within s.routines r.0 x e in
        let one : length x.commands ≤ command_count s.routines =
        subst (λ (y : Routine). length y.commands ≤ command_count s.routines) (get_or_from_slice_get s.routines r.0 x x e)
        (get_or-le-sum_by (λ (y : Routine). length y.commands) s.routines r.0 x within) in
        let all = commands_limited s h in
        omega (arith, one, all)

-- a lock below the script's number of locks is below 64, if the script has at most 64
lock_low : (s : Script) (k : LockNo) → s.locks ≤ 64 → nat_lt k.0 s.locks ≡ true → nat_lt k.0 64 ≡ true
lock_low s k few h = let l = ltb-true k.0 s.locks h in lt-ltb k.0 64 (omega (arith, l, few))

-- a command that fits a script of at most 64 locks names only locks below 64
low_lock : (s : Script) (c : Command) → s.locks ≤ 64 → command_fits s c ≡ true → has_lock_below 64 c ≡ true
low_lock s (Acquire k) few h = lock_low s k few h
low_lock s (Unlock k) few h = lock_low s k few h
low_lock s c few h = refl

-- a command at any place of a routine of a script that fits names only a lock below 64
pub low_locks : (s : Script) (r : Option RoutineNo) (i : ℕ) (c : Command) → fits s ≡ true → slice_get (commands_of s r) i ≡ Some c →
    has_lock_below 64 c ≡ true
low_locks s None i c h e = absurd cc
low_locks s (Some r) i c h e = go (slice_get s.routines r.0) refl e
  where
    go : (o : Option Routine) → slice_get s.routines r.0 ≡ o → slice_get (option_map_or (λ x. x.commands) o []) i ≡ Some c → has_lock_below 64 c ≡ true
    go None p q = absurd cc
    go (Some x) p q =
        low_lock s c (locks_few s h) (each (command_fits s) x.commands i c (each (routine_fits s) s.routines r.0 x (both _ _ h).1 p) q)

-- if all of a list passes a test, all of it passes each weaker test
all_weaker : {A : Type 0} (p q : A → Bool) (xs : List A) → ((x : A) → p x ≡ true → q x ≡ true) → list_all p xs ≡ true → list_all q xs ≡ true
all_weaker p q [] k h = refl
all_weaker p q (x ∷ xs) k h =
    let b = both (p x) (list_all p xs) h in and_both (q x) (list_all q xs) (k x b.0) (all_weaker p q xs k b.1)

-- all commands of a routine of a script that fits pass the test that their locks are below 64
pub all_low : (s : Script) (r : Option RoutineNo) → fits s ≡ true → list_all (has_lock_below 64) (commands_of s r) ≡ true
all_low s None h = refl
all_low s (Some r) h = go (slice_get s.routines r.0) refl
  where
    go : (o : Option Routine) → slice_get s.routines r.0 ≡ o → list_all (has_lock_below 64) (option_map_or (λ x. x.commands) o []) ≡ true
    go None p = refl
    go (Some x) p =
        all_weaker (command_fits s) (has_lock_below 64) x.commands (λ c q. low_lock s c (locks_few s h) q)
        (each (routine_fits s) s.routines r.0 x (both _ _ h).1 p)

-- if all of a list passes a test, all of each beginning of it does
all_take : {A : Type 0} (p : A → Bool) (n : ℕ) (xs : List A) → list_all p xs ≡ true → list_all p (take n xs) ≡ true
all_take p zero xs h = refl
all_take p (suc n) [] h = refl
all_take p (suc n) (x ∷ xs) h = let b = both (p x) (list_all p xs) h in and_both (p x) (list_all p (take n xs)) b.0 (all_take p n xs b.1)

-- the first n of a routine's commands
pub low_prefix : (s : Script) (r : Option RoutineNo) (cs : List Command) (n : ℕ) → fits s ≡ true → cs ≡ commands_of s r →
    AllPass (has_lock_below 64) (take n cs)
low_prefix s r cs n h e =
    AllPass-from_list_all (has_lock_below 64) (take n cs)
    (all_take (has_lock_below 64) n cs (ap (λ (ds : List Command). list_all (has_lock_below 64) ds) e ∙ all_low s r h))
