-- In a script that fits, the thread of each of its APC objects is one of its threads.
use Rattle.std.proofs.Common.{ap, arith, ◌∙◌}
use Rattle.std.proofs.lemmas.Bool.{both_ways, ltb-true}
use Rattle.std.proofs.lemmas.List.Folds.{list_all_at}
use Rattle.std.proofs.lemmas.Option.{slice_get-get_or}
use Rattle.std.specs.List.{list_all, slice_get}
use Rattle.std.specs.Option.{option_map_or}
use Rattle.std.specs.Prelude.{Bool, List, Option, [], false, get_or, length, refl, true, ℕ, ◌&&◌, ◌<◌, ◌∷◌, ◌≡◌}
use Rattle.nt_event.specs.declared.numbers.ApcNo.{ApcNo}
use Rattle.nt_event.specs.declared.scripts.ApcDecl.{ApcDecl}
use Rattle.nt_event.specs.declared.scripts.Script.{Script}
use Rattle.nt_event.specs.Routines.{owner_of}
use Rattle.nt_event.specs.Script.{apc_fits, apc_has_its_routines, dpc_fits, fits, has_apc, has_routine, has_thread, isr_fits, isrs_differ, meets_limits}
use Rattle.nt_event.specs.Script.{routine_fits, thread_fits, timer_fits, where_given}
use Rattle.nt_event.specs.Numbers.{thread}
use Rattle.nt_event.proofs.Options.{both}

-- a conjunction of five parts has a true first part if it is true
first_of_five : (a b c d e : Bool) → (a && b && c && d && e) ≡ true → a ≡ true
first_of_five true b c d e h = refl
first_of_five false b c d e h = cc

-- an APC declaration that fits names a declared thread
apc_thread : (s : Script) (x : ApcDecl) → apc_fits s x ≡ true → has_thread s x.thread ≡ true
apc_thread s x h =
    first_of_five (has_thread s x.thread) (has_routine s x.kernel) (where_given (has_routine s) x.normal) (where_given (has_routine s) x.rundown)
    (apc_has_its_routines x.kind x.normal x.rundown) h

-- where each APC declaration of a list fits, the one at a place names a declared thread
fits_at : (s : Script) (xs : List ApcDecl) (i : ℕ) → list_all (apc_fits s) xs ≡ true → i < length xs →
    has_thread s (option_map_or (λ x. x.thread) (slice_get xs i) (thread 0)) ≡ true
fits_at s [] i h l = absurd (omega (arith, l))
fits_at s (y ∷ ys) i h l =
    ap (λ (o : Option ApcDecl). has_thread s (option_map_or (λ x. x.thread) o (thread 0))) (slice_get-get_or (y ∷ ys) i y l)
    ∙ apc_thread s (get_or (y ∷ ys) i y) (go (apc_fits s (get_or (y ∷ ys) i y)) (list_all_at (apc_fits s) (y ∷ ys) i y l))
  where
    go : (b : Bool) → (b ≡ false → list_all (apc_fits s) (y ∷ ys) ≡ false) → b ≡ true
    go true k = refl
    go false k = absurd (both_ways (list_all (apc_fits s) (y ∷ ys)) (k refl) h)

abbrev before_apcs : Script → Bool
before_apcs s =
    meets_limits s
    && list_all (isr_fits s) s.isrs
    && isrs_differ s.isrs
    && list_all (dpc_fits s) s.dpcs
    && list_all (timer_fits s) s.timers
    && list_all (thread_fits s) s.threads

-- in a script that fits, the thread of a declared APC is declared
pub apcs_have_their_threads : (s : Script) (a : ApcNo) → fits s ≡ true → has_apc s a ≡ true → has_thread s (owner_of s a) ≡ true
apcs_have_their_threads s a h has =
    let apcs = (both (before_apcs s && list_all (apc_fits s) s.apcs) (list_all (routine_fits s) s.routines) h).0 in
    fits_at s s.apcs a.0 (both (before_apcs s) (list_all (apc_fits s) s.apcs) apcs).1 (ltb-true a.0 (length s.apcs) has)
