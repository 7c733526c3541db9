-- What stands on processors and in lanes, in histories that are alike.
use Rattle.std.proofs.Common.{ap, arith, sym, ◌∙◌}
use Rattle.std.proofs.lemmas.Bool.{lt-leb, lt-ltb, ltb-true}
use Rattle.std.specs.List.{list_all, list_any}
use Rattle.std.specs.Prelude.{Bool, List, [], false, get_or, is_some, length, map, refl, suc, true, ℕ, ◌++◌, ◌<◌, ◌∷◌, ◌≡◌, ◌||◌}
use Rattle.nt_event.specs.declared.events.Event.{Event}
use Rattle.nt_event.specs.declared.frames.Body.{Body}
use Rattle.nt_event.specs.declared.numbers.CpuNo.{CpuNo}
use Rattle.nt_event.specs.declared.numbers.DpcNo.{DpcNo}
use Rattle.nt_event.specs.declared.numbers.LockNo.{LockNo}
use Rattle.nt_event.specs.declared.numbers.ThreadNo.{ThreadNo}
use Rattle.nt_event.specs.declared.scripts.Script.{Script}
use Rattle.nt_event.specs.declared.threads.Doing.{Doing}
use Rattle.nt_event.specs.declared.threads.Doing.TheVariants.{Blocked, Gone, Ready, Running}
use Rattle.nt_event.specs.Frame.{Frame}
use Rattle.nt_event.specs.Frames.{Frames, frames_of, thread_part}
use Rattle.nt_event.specs.Lanes.{facts_at, lanes_at, lock_at, object_at}
use Rattle.nt_event.specs.Locks.{LockState, lock_of, spins_at}
use Rattle.nt_event.specs.Numbers.{cpu, dpc, is_thread}
use Rattle.nt_event.specs.Objects.{is_queued, object_of, start_object}
use Rattle.nt_event.specs.Own.{made, own_of}
use Rattle.nt_event.specs.Robin.{is_done_with, is_settled}
use Rattle.nt_event.specs.Script.{has_dpc, has_lock}
use Rattle.nt_event.specs.Step.{is_cut}
use Rattle.nt_event.specs.Threads.{waiting_of}
use Rattle.nt_event.proofs.Tables.{get_or-table, table-same}
use Rattle.nt_runs.proofs.LocksRun.{lock_there}
use Rattle.nt_alike.specs.Alike.{Alike}
use Rattle.nt_alike.specs.Bare.{bare_doing, bare_frame, bare_frames}
use Rattle.nt_alike.specs.Ends.{is_quiet}
use Rattle.nt_alike.specs.Questions.{StandAlike}
use Rattle.nt_alike.proofs.Free.{made_length}
use Rattle.nt_alike.proofs.Frames.{part_bare}
use Rattle.nt_alike.proofs.Questions.{stand_alike}
use Rattle.nt_expect.specs.declared.expectations.Activity.{Activity}
use Rattle.nt_expect.specs.declared.expectations.Activity.TheVariants as act
use Rattle.nt_expect.specs.Meaning.{IsQuiet, SpinsOn, StandTogether, apc_in, dpc_in, dpc_waits, int_in, is_blocked, stands_on}

-- ---- open frames

module _ (test : Body → Bool) where
  any_bare : (xs : List Frame) → list_any (λ f. test f.body) (map bare_frame xs) ≡ list_any (λ f. test f.body) xs
  any_bare [] = refl
  any_bare (x ∷ xs) = ap (λ (b : Bool). test x.body || b) (any_bare xs)

  any_both : (xs ys : List Frame) → list_any (λ f. test f.body) (map bare_frame xs ++ map bare_frame ys) ≡ list_any (λ f. test f.body) (xs ++ ys)
  any_both [] ys = any_bare ys
  any_both (x ∷ xs) ys = ap (λ (b : Bool). test x.body || b) (any_both xs ys)

  open_bare : (x : Frames) → list_any (λ f. test f.body) (x.own ++ thread_part x)
      ≡ list_any (λ f. test f.body) ((bare_frames x).own ++ thread_part (bare_frames x))
  open_bare x =
      sym (any_both x.own (thread_part x))
      ∙ ap (λ (ys : List Frame). list_any (λ f. test f.body) (map bare_frame x.own ++ ys)) (sym (part_bare x))

  open_same : (x y : Frames) → bare_frames x ≡ bare_frames y →
      list_any (λ f. test f.body) (x.own ++ thread_part x) ≡ list_any (λ f. test f.body) (y.own ++ thread_part y)
  open_same x y q =
      open_bare x ∙ ap (λ (z : Frames). list_any (λ f. test f.body) (z.own ++ thread_part z)) q ∙ sym (open_bare y)

module _ (s : Script) (h k : List Event) (al : Alike s h k) where
  stand : StandAlike s h k
  stand = stand_alike s h k al

  on_same : (b : Activity) (p : CpuNo) → stands_on s b p h ≡ stands_on s b p k
  on_same (act.Int level) p = open_same (int_in level) (frames_of s p h) (frames_of s p k) (stand.frames p)
  on_same (act.Dpc d) p = open_same (dpc_in d) (frames_of s p h) (frames_of s p k) (stand.frames p)
  on_same (act.Apc a) p = open_same (apc_in a) (frames_of s p h) (frames_of s p k) (stand.frames p)
  on_same (act.Thread t) p = ap (λ r. is_thread r t) (stand.running p)

  -- what stands together stands so in both
  pub together_same : (b c : Activity) → StandTogether s b c h → StandTogether s b c k
  together_same b c x =
      record {
        p = x.p;
        q = x.q;
        apart = x.apart;
        here = sym (on_same b x.p) ∙ x.here;
        there = sym (on_same c x.q) ∙ x.there;
      }

  -- ---- what is left

  object_there : (d : DpcNo) (past : List Event) → has_dpc s d ≡ true → object_at (lanes_at s past) d ≡ object_of d past
  object_there d past l = get_or-table (length s.dpcs) d.0 (λ n. object_of (dpc n) past) start_object (ltb-true d.0 (length s.dpcs) l)

  -- in alike histories a declared DPC waits in a queue after both or after neither
  pub dpc_waits_same : (d : DpcNo) → has_dpc s d ≡ true → dpc_waits d h ≡ dpc_waits d k
  dpc_waits_same d l =
      ap is_queued (sym (object_there d h l)) ∙ stand.dpcs d ∙ ap is_queued (object_there d k l)

  waiting_bare : (x : Doing) → is_some (waiting_of (bare_doing x)) ≡ is_some (waiting_of x)
  waiting_bare (Ready level status) = refl
  waiting_bare Running = refl
  waiting_bare (Blocked w) = refl
  waiting_bare Gone = refl

  -- in alike histories a thread is blocked after both or after neither
  pub blocked_same : (t : ThreadNo) → is_blocked s t h ≡ is_blocked s t k
  blocked_same t =
      sym (waiting_bare (facts_at (lanes_at s h) t).doing)
      ∙ ap (λ (x : Doing). is_some (waiting_of x)) (stand.doing t)
      ∙ waiting_bare (facts_at (lanes_at s k) t).doing

  -- in alike histories a processor that spins on a declared lock after the one does so after the other
  pub spins_same : (x : LockNo) → has_lock s x ≡ true → SpinsOn s x h → SpinsOn s x k
  spins_same x l spins = (spins.0, sym same ∙ spins.1)
    where
      there : (past : List Event) → lock_at (lanes_at s past) x ≡ lock_of s x past
      there past = lock_there s x past (ltb-true x.0 s.locks l)

      same : spins_at (lock_of s x h) spins.0 ≡ spins_at (lock_of s x k) spins.0
      same =
          ap (λ (y : LockState). spins_at y spins.0) (sym (there h))
          ∙ ap (λ z. get_or z spins.0.0 false) (stand.spinners x)
          ∙ ap (λ (y : LockState). spins_at y spins.0) (there k)

-- ---- quiet ends

-- where no processor is cut, quiet and settled are one
quiet_settled : (s : Script) (limit : ℕ) (h : List Event) → ((p : ℕ) → p < s.cpus → is_cut limit (own_of s (cpu p) h) ≡ false) →
    is_quiet s h ≡ is_settled s limit h
quiet_settled s limit h uncut =
    ap (list_all (λ b. b)) (table-same {A = Bool} s.cpus _ (λ p. is_done_with s limit (cpu p) h) (λ p l. let u = uncut p l in rw u refl))

-- a history that is quiet under a turn limit passes the test of being quiet
pub quiet_is : (s : Script) (limit : ℕ) (h : List Event) → IsQuiet s limit h → is_quiet s h ≡ true
quiet_is s limit h q = quiet_settled s limit h (λ p l. q.uncut (cpu p) (lt-ltb p s.cpus l)) ∙ q.settled

-- at a limit that no processor comes to, a quiet history is settled
pub is_quiet_at : (s : Script) (h : List Event) → is_quiet s h ≡ true → IsQuiet s (suc (length h)) h
is_quiet_at s h q =
    record {
      settled = sym (quiet_settled s (suc (length h)) h (λ p l. none (cpu p))) ∙ q;
      uncut = λ p l. none p;
    }
  where
    none : (p : CpuNo) → is_cut (suc (length h)) (own_of s p h) ≡ false
    none p = let m = made_length p h in lt-leb (suc (length h)) (made p h) (omega (arith, m))
