-- The processors that pending inserts and threads name are the script's.
use Rattle.std.proofs.Common.{ap, arith, subst, ◌∙◌}
use Rattle.std.proofs.lemmas.Bool.{both_ways, ltb-true}
use Rattle.std.proofs.lemmas.List.Folds.{list_all_at}
use Rattle.std.proofs.lemmas.Option.{slice_get-get_or}
use Rattle.std.specs.List.{list_all, slice_get}
use Rattle.std.specs.Option.{option_map_or}
use Rattle.std.specs.Prelude.{Bool, List, None, Option, Some, [], false, get_or, if◌then◌else◌, length, refl, true, ℕ, ◌&&◌, ◌<◌, ◌==◌, ◌∷◌, ◌≡◌}
use Rattle.nt_event.specs.declared.commands.Command.TheVariants.{SetTarget}
use Rattle.nt_event.specs.declared.events.Event.{Event}
use Rattle.nt_event.specs.declared.events.What.{What}
use Rattle.nt_event.specs.declared.events.What.TheVariants.{Call}
use Rattle.nt_event.specs.declared.inserts.Standing.{Standing}
use Rattle.nt_event.specs.declared.numbers.CpuNo.{CpuNo}
use Rattle.nt_event.specs.declared.numbers.DpcNo.{DpcNo}
use Rattle.nt_event.specs.declared.numbers.ThreadNo.{ThreadNo}
use Rattle.nt_event.specs.declared.scripts.Script.{Script}
use Rattle.nt_event.specs.declared.scripts.ThreadDecl.{ThreadDecl}
use Rattle.nt_event.specs.Fitting.{what_fits}
use Rattle.nt_event.specs.Numbers.{cpu}
use Rattle.nt_event.specs.Objects.{inserted_dpc, is_dpc, queue_for, standing, target_after, target_of, used_up_dpc}
use Rattle.nt_event.specs.Replies.{is_done}
use Rattle.nt_event.specs.Routines.{cpu_of}
use Rattle.nt_event.specs.Script.{apc_fits, dpc_fits, fits, has_cpu, has_dpc, has_routine, has_thread, isr_fits, isrs_differ, meets_limits, routine_fits}
use Rattle.nt_event.specs.Script.{thread_fits, timer_fits, where_given}
use Rattle.nt_event.specs.Step.{IsRun}
use Rattle.nt_event.proofs.Options.{both}
use Rattle.nt_laws.specs.Named.{AllFit}
use Rattle.nt_laws.proofs.Named.EventsFit.{events_of_a_run_fit}

-- ---- queues

-- one of two targets is named, where both are
one_of : (s : Script) (b : Bool) (q old : Option CpuNo) → where_given (has_cpu s) q ≡ true → where_given (has_cpu s) old ≡ true →
    where_given (has_cpu s) (if b then q else old) ≡ true
one_of s true q old h k = h
one_of s false q old h k = k

-- the target of an object is a processor of the script
target_named : (s : Script) (d : DpcNo) (past : List Event) → AllFit s past → where_given (has_cpu s) (target_of d past) ≡ true
target_named s d [] a = refl
target_named s d (e ∷ past) a = go e.what a.0.what (target_named s d past a.1)
  where
    go : (w : What) → what_fits s w ≡ true → where_given (has_cpu s) (target_of d past) ≡ true →
        where_given (has_cpu s) (target_after d w (target_of d past)) ≡ true
    go (Call f (SetTarget x q) y) h ih =
        one_of s (is_done y && (x.0 == d.0)) q (target_of d past) (both (has_dpc s x) (where_given (has_cpu s) q) h).1 ih
    go w h ih = ih

-- so is the queue of an insert
queue_named : (s : Script) (o : Option CpuNo) (by : CpuNo) → where_given (has_cpu s) o ≡ true → has_cpu s by ≡ true → has_cpu s (queue_for o by) ≡ true
queue_named s None by h k = k
queue_named s (Some q) by h k = h

-- and where it stands
stands_named : (s : Script) (d : DpcNo) (past : List Event) (x : Standing) → AllFit s past → standing d past ≡ Some x → has_cpu s x.queue ≡ true
stands_named s d [] x a h = absurd cc
stands_named s d (e ∷ past) x a h =
    go (is_dpc (inserted_dpc e.what) d) (is_dpc (used_up_dpc e.what) d) h (λ k. stands_named s d past x a.1 k)
    (queue_named s (target_of d past) e.cpu (target_named s d past a.1) a.0.cpu)
  where
    go : (b c : Bool) →
        (if b then Some (record { queue = queue_for (target_of d past) e.cpu; number = length past }) else (if c then None else standing d past)) ≡ Some x →
        (standing d past ≡ Some x → has_cpu s x.queue ≡ true) → has_cpu s (queue_for (target_of d past) e.cpu) ≡ true → has_cpu s x.queue ≡ true
    go true c k ih q = subst (λ (p : CpuNo). has_cpu s p ≡ true) (same_queue _ x k) q
      where
        same_queue : (y z : Standing) → ◌≡◌ {A = Option Standing} (Some y) (Some z) → y.queue ≡ z.queue
        same_queue y z e = let same : y ≡ z = cc in ap (λ (y : Standing). y.queue) same
    go false true k ih q = absurd cc
    go false false k ih q = ih k

-- in a run of a script that fits, the queue of a pending insert is of a processor of the script
pub queue_is_named : (s : Script) (limit : ℕ) (d : DpcNo) (past : List Event) (x : Standing) → fits s ≡ true → IsRun s limit past →
    standing d past ≡ Some x → has_cpu s x.queue ≡ true
queue_is_named s limit d past x fit run h = stands_named s d past x (events_of_a_run_fit s limit past fit run) h

-- ---- threads

-- where each declaration of a list fits, the one at a place names a processor
fits_at : (s : Script) (xs : List ThreadDecl) (i : ℕ) → list_all (thread_fits s) xs ≡ true → i < length xs →
    has_cpu s (option_map_or (λ x. x.cpu) (slice_get xs i) (cpu 0)) ≡ true
fits_at s [] i h l = absurd (omega (arith, l))
fits_at s (y ∷ ys) i h l =
    ap (λ (o : Option ThreadDecl). has_cpu s (option_map_or (λ x. x.cpu) o (cpu 0))) (slice_get-get_or (y ∷ ys) i y l)
    ∙ (both (has_cpu s (get_or (y ∷ ys) i y).cpu) (has_routine s (get_or (y ∷ ys) i y).routine)
    (go (thread_fits s (get_or (y ∷ ys) i y)) (list_all_at (thread_fits s) (y ∷ ys) i y l))).0
  where
    go : (b : Bool) → (b ≡ false → list_all (thread_fits s) (y ∷ ys) ≡ false) → b ≡ true
    go true k = refl
    go false k = absurd (both_ways (list_all (thread_fits s) (y ∷ ys)) (k refl) h)

abbrev before_threads : Script → Bool
before_threads s =
    meets_limits s
    && list_all (isr_fits s) s.isrs
    && isrs_differ s.isrs
    && list_all (dpc_fits s) s.dpcs
    && list_all (timer_fits s) s.timers

-- in a script that fits, the processor of a thread is one of the script's
pub cpu_is_named : (s : Script) (t : ThreadNo) → fits s ≡ true → has_thread s t ≡ true → has_cpu s (cpu_of s t) ≡ true
cpu_is_named s t h has =
    let routines = both (before_threads s && list_all (thread_fits s) s.threads && list_all (apc_fits s) s.apcs) (list_all (routine_fits s) s.routines) h in
    let apcs = both (before_threads s && list_all (thread_fits s) s.threads) (list_all (apc_fits s) s.apcs) routines.0 in
    fits_at s s.threads t.0 (both (before_threads s) (list_all (thread_fits s) s.threads) apcs.0).1 (ltb-true t.0 (length s.threads) has)
