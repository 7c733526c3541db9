-- What is left at a quiet end, by the states of the lanes.
use Rattle.std.proofs.Common.{ap, sym, ◌∙◌}
use Rattle.std.proofs.lemmas.Bool.{ltb-true}
use Rattle.std.specs.List.{list_any}
use Rattle.std.specs.Prelude.{Bool, List, [], false, get_or, is_some, length, refl, suc, true, zero, ℕ, ◌∷◌, ◌≡◌}
use Rattle.nt_event.specs.declared.events.Event.{Event}
use Rattle.nt_event.specs.declared.numbers.ApcNo.{ApcNo}
use Rattle.nt_event.specs.declared.numbers.DpcNo.{DpcNo}
use Rattle.nt_event.specs.declared.numbers.LockNo.{LockNo}
use Rattle.nt_event.specs.declared.numbers.ThreadNo.{ThreadNo}
use Rattle.nt_event.specs.declared.scripts.Script.{Script}
use Rattle.nt_event.specs.Apcs.{is_inserted}
use Rattle.nt_event.specs.Lanes.{Lanes, facts_at, lanes_at, lock_at, object_at}
use Rattle.nt_event.specs.Locks.{LockState, lock_of}
use Rattle.nt_event.specs.Numbers.{cpu, dpc}
use Rattle.nt_event.specs.Objects.{is_queued, object_of, start_object}
use Rattle.nt_event.specs.Routines.{owner_of}
use Rattle.nt_event.specs.Script.{has_dpc, has_lock}
use Rattle.nt_event.specs.Threads.{waiting}
use Rattle.nt_event.proofs.Tables.{get_or-table}
use Rattle.nt_runs.proofs.LocksRun.{lock_there}
use Rattle.nt_runs.proofs.Robin.{or_yes}
use Rattle.nt_expect.specs.Meaning.{SpinsOn, apc_waits, dpc_waits, is_blocked}
use Rattle.nt_shows.specs.Tells.{Tells}
use Rattle.nt_shows.proofs.Telling.{tells_equal}
use Rattle.nt_shows.proofs.Together.{any_found}

module _ (s : Script) (l : Lanes) (past : List Event) (is : l ≡ lanes_at s past) where
  -- the object's state tells whether a declared DPC still waits in a queue after the history
  pub dpc_tells : (d : DpcNo) (b : Bool) → has_dpc s d ≡ true → b ≡ is_queued (object_at l d) → Tells b (dpc_waits d past ≡ true)
  dpc_tells d b low e =
      tells_equal b (dpc_waits d past)
      (e ∙ ap (λ (x : Lanes). is_queued (object_at x d)) is
      ∙ ap is_queued (get_or-table (length s.dpcs) d.0 (λ n. object_of (dpc n) past) start_object (ltb-true d.0 (length s.dpcs) low)))

  -- the APC queues of its thread tell whether an APC is still inserted after the history
  pub apc_tells : (a : ApcNo) (b : Bool) → b ≡ is_inserted a (facts_at l (owner_of s a)).apcs → Tells b (apc_waits s a past ≡ true)
  apc_tells a b e =
      tells_equal b (apc_waits s a past) (e ∙ ap (λ (x : Lanes). is_inserted a (facts_at x (owner_of s a)).apcs) is)

  -- what a thread is waiting for, if anything, tells whether it is blocked after the history
  pub blocked_tells : (t : ThreadNo) (b : Bool) → b ≡ is_some (waiting (facts_at l t)) → Tells b (is_blocked s t past ≡ true)
  blocked_tells t b e =
      tells_equal b (is_blocked s t past) (e ∙ ap (λ (x : Lanes). is_some (waiting (facts_at x t))) is)

  -- the spinner flags of a declared spin lock tell whether a processor spins on it after the history
  pub spins_tell : (k : LockNo) (b : Bool) → has_lock s k ≡ true → b ≡ list_any (λ f. f) (lock_at l k).spinners → Tells b (SpinsOn s k past)
  spins_tell k b low e =
      go b (e ∙ ap (λ (x : Lanes). list_any (λ f. f) (lock_at x k).spinners) is
      ∙ ap (λ (x : LockState). list_any (λ f. f) x.spinners) (lock_there s k past (ltb-true k.0 s.locks low)))
    where
      some : (bs : List Bool) (i : ℕ) → get_or bs i false ≡ true → list_any (λ f. f) bs ≡ true
      some [] i h = absurd cc
      some (f ∷ bs) zero h = rw h refl
      some (f ∷ bs) (suc i) h = or_yes f (list_any (λ f. f) bs) (some bs i h)

      clash : false ≡ true → ⊥
      clash q = cc

      go : (b : Bool) → b ≡ list_any (λ f. f) (lock_of s k past).spinners → Tells b (SpinsOn s k past)
      go true q = let r = any_found (λ f. f) (lock_of s k past).spinners false (sym q) in (cpu r.0, r.2)
      go false q = λ h. clash (q ∙ some (lock_of s k past).spinners h.0.0 h.1)
