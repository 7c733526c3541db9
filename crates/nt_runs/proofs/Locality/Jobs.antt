-- The event of a job is determined by the states of the lanes that it touches.
use Rattle.std.proofs.Common.{ap, arith, subst, sym, ◌∙◌}
use Rattle.std.proofs.lemmas.Bool.{eq-eqb, eqb-true, ltb-false, ltb-true}
use Rattle.std.proofs.lemmas.Option.{slice_get-get_or}
use Rattle.std.specs.Option.{option_map_or, option_or}
use Rattle.std.specs.Prelude.{Bool, List, None, Option, Some, [], false, get_or, if◌then◌else◌, is_none, is_some, length, nat_lt, not, option_and_then}
use Rattle.std.specs.Prelude.{option_map, refl, slice_get, suc, true, unwrap_or, zero, ℕ, ◌&&◌, ◌+◌, ◌<◌, ◌==◌, ◌∷◌, ◌≡◌, ◌≤◌}
use Rattle.nt_event.specs.declared.commands.Command.{Command}
use Rattle.nt_event.specs.declared.commands.Command.TheVariants.{Acquire, Alert, CancelTimer, Delay, InsertApc, Queue, Release, RemoveApc, SetTimer, StartWait}
use Rattle.nt_event.specs.declared.commands.Command.TheVariants.{TestAlert, ToUser, Unqueue}
use Rattle.nt_event.specs.declared.commands.Mode.{Mode}
use Rattle.nt_event.specs.declared.commands.Regions.{Regions}
use Rattle.nt_event.specs.declared.commands.Reply.{Reply}
use Rattle.nt_event.specs.declared.commands.Reply.TheVariants.{Blocked, Done, Spin, Status}
use Rattle.nt_event.specs.declared.commands.TimerKey.{TimerKey}
use Rattle.nt_event.specs.declared.commands.TimerKey.TheVariants.{Delay as OfDelay, Timer as OfTimer}
use Rattle.nt_event.specs.declared.events.Begun.TheVariants.{Apc, Dpc, Threaded}
use Rattle.nt_event.specs.declared.events.What.{What}
use Rattle.nt_event.specs.declared.events.What.TheVariants.{Begin, Call, Clean, Fire, Flush, Gone, Rest, Rewait, Switch}
use Rattle.nt_event.specs.declared.frames.Again.{Again}
use Rattle.nt_event.specs.declared.inserts.Insert.{Insert}
use Rattle.nt_event.specs.declared.inserts.Part.TheVariants.{Ordinary as OrdinaryPart, Threaded as ThreadedPart}
use Rattle.nt_event.specs.declared.inserts.Pick.{Pick}
use Rattle.nt_event.specs.declared.jobs.Job.{Job}
use Rattle.nt_event.specs.declared.jobs.Job.TheVariants.{Apcs as ApcsJob, Call as CallJob, Drain as DrainJob, Fire as FireJob, Free as FreeJob, Idle as IdleJob}
use Rattle.nt_event.specs.declared.jobs.Job.TheVariants.{Leave as LeaveJob, Pick as PickJob, Rewait as RewaitJob, Rundown as RundownJob, Switch as SwitchJob}
use Rattle.nt_event.specs.declared.jobs.Job.TheVariants.{Threaded as ThreadedJob, ToUser as ToUserJob, UserEnd as UserEndJob}
use Rattle.nt_event.specs.declared.jobs.Lane.{Lane}
use Rattle.nt_event.specs.declared.jobs.Lane.TheVariants.{Lock as LockLane, Object as ObjectLane, Queue as QueueLane, Threads as ThreadsLane}
use Rattle.nt_event.specs.declared.jobs.Lane.TheVariants.{Timers as TimersLane}
use Rattle.nt_event.specs.declared.jobs.Stand.{Stand}
use Rattle.nt_event.specs.declared.numbers.CpuNo.{CpuNo}
use Rattle.nt_event.specs.declared.numbers.DpcNo.{DpcNo}
use Rattle.nt_event.specs.declared.numbers.ThreadNo.{ThreadNo}
use Rattle.nt_event.specs.declared.numbers.TimerNo.{TimerNo}
use Rattle.nt_event.specs.declared.scripts.Script.{Script}
use Rattle.nt_event.specs.declared.scripts.ThreadDecl.{ThreadDecl}
use Rattle.nt_event.specs.Apcs.{deliverable, first_user, has_user, is_inserted, takes}
use Rattle.nt_event.specs.Commands.{is_reached, reply}
use Rattle.nt_event.specs.Jobs.{apcs_event, begin_apc, begin_dpc, begin_first, drain_event, expire_key, idle_event, job_event, may_take, ready, ready_from}
use Rattle.nt_event.specs.Jobs.{rewait_reply, rundown_event, switch_event, threaded_event, touser_event, user_due}
use Rattle.nt_event.specs.LaneStates.{OfLock, OfObject, OfQueue, OfThreads, OfTimers, content, threads_from}
use Rattle.nt_event.specs.Lanes.{Lanes, begin_lanes, clean_lanes, command_lanes, expire_lanes, facts_at, facts_of, lane_if, lock_at, object_at, queue_at}
use Rattle.nt_event.specs.Lanes.{what_lanes}
use Rattle.nt_event.specs.Objects.{ObjectState, is_queued}
use Rattle.nt_event.specs.Queues.{QueueState, first_dpc}
use Rattle.nt_event.specs.Routines.{cpu_of, owner_of}
use Rattle.nt_event.specs.Script.{has_thread}
use Rattle.nt_event.specs.Threads.{ThreadFacts, ended_status, ends_by_release, is_alerted, is_gone, is_ready, start_facts}
use Rattle.nt_event.specs.Timers.{SetKey, Timers, first_due, is_set_timer}
use Rattle.nt_event.specs.Waits.{is_satisfied, wait_reply}
use Rattle.nt_event.specs.Replies.{alerted, is_refused, is_user, kernel_apc, satisfied, user_apc, yes_if}
use Rattle.nt_event.specs.Numbers.{cpu, routine, thread}
use Rattle.nt_event.specs.Lists.{is_null, when}
use Rattle.nt_event.proofs.Options.{both, when_gives}
use Rattle.nt_event.specs.Locks.{LockState}
use Rattle.nt_event.specs.declared.numbers.LockNo.{LockNo}

-- the lanes have the same states in both
abbrev pub SameOn : Script → Lanes → Lanes → List Lane → Type 0
SameOn s l m [] = Unit {0}
SameOn s l m (x ∷ xs) = (content s l x ≡ content s m x) × SameOn s l m xs

-- ---- what a lane's state tells

-- equal states of an object's lane give equal objects
pub object_same : (s : Script) (la lb : Lanes) (d : DpcNo) → content s la (ObjectLane d) ≡ content s lb (ObjectLane d) → object_at la d ≡ object_at lb d
object_same s la lb d e = same _ _ e
  where
    same : (a b : ObjectState) → OfObject a ≡ OfObject b → a ≡ b
    same a b q = cc

-- equal states of a queue's lane give equal queues
pub queue_same : (s : Script) (la lb : Lanes) (p : CpuNo) → content s la (QueueLane p) ≡ content s lb (QueueLane p) → queue_at la p ≡ queue_at lb p
queue_same s la lb p e = same _ _ e
  where
    same : (a b : QueueState) → OfQueue a ≡ OfQueue b → a ≡ b
    same a b q = cc

-- equal states of the timers' lane give equal timers
pub timers_same : (s : Script) (la lb : Lanes) → content s la TimersLane ≡ content s lb TimersLane → la.timers ≡ lb.timers
timers_same s la lb e = same _ _ e
  where
    same : (a b : Timers) → OfTimers a ≡ OfTimers b → a ≡ b
    same a b q = cc

-- equal states of a lock's lane give equal locks
pub lock_same : (s : Script) (la lb : Lanes) (k : LockNo) → content s la (LockLane k) ≡ content s lb (LockLane k) → lock_at la k ≡ lock_at lb k
lock_same s la lb k e = same _ _ e
  where
    same : (a b : LockState) → OfLock a ≡ OfLock b → a ≡ b
    same a b q = cc

-- where the facts of a processor's threads are equal, those of each of its threads are
threads_at : (s : Script) (p : CpuNo) (n i : ℕ) (xs : List ThreadDecl) (x : ThreadDecl) (l m : Lanes) → threads_from p n xs l ≡ threads_from p n xs m →
    slice_get xs i ≡ Some x → x.cpu.0 ≡ p.0 → facts_at l (thread (n + i)) ≡ facts_at m (thread (n + i))
threads_at s p n i [] x l m e g c = cc
threads_at s p n zero (y ∷ ys) x l m e g c =
    let same : y ≡ x = cc in
    let own : (y.cpu.0 == p.0) ≡ true = eq-eqb y.cpu.0 p.0 (ap (λ (z : ThreadDecl). z.cpu.0) same ∙ c) in
    let both_sides : (facts_at l (thread n) ∷ threads_from p (suc n) ys l) ≡ (facts_at m (thread n) ∷ threads_from p (suc n) ys m) = rw own at e in
    let z : n + 0 ≡ n = omega arith in
    rw z (heads both_sides)
  where
    heads : {a b : ThreadFacts} {xs ys : List ThreadFacts} → (a ∷ xs) ≡ (b ∷ ys) → a ≡ b
    heads q = cc
threads_at s p n (suc i) (y ∷ ys) x l m e g c =
    let z : n + suc i ≡ suc n + i = omega arith in rw z (threads_at s p (suc n) i ys x l m (rest (y.cpu.0 == p.0) e) g c)
  where
    rest : (b : Bool) → (if b then (facts_at l (thread n) ∷ threads_from p (suc n) ys l) else threads_from p (suc n) ys l)
        ≡ (if b then (facts_at m (thread n) ∷ threads_from p (suc n) ys m) else threads_from p (suc n) ys m) → threads_from p (suc n) ys l
        ≡ threads_from p (suc n) ys m
    rest true q = tails q
      where
        tails : {a b : ThreadFacts} {xs ys : List ThreadFacts} → (a ∷ xs) ≡ (b ∷ ys) → xs ≡ ys
        tails q = cc
    rest false q = q

-- equal states of a processor's lane of threads give equal facts of its threads
threads_lane : (s : Script) (la lb : Lanes) (p : CpuNo) → content s la (ThreadsLane p) ≡ content s lb (ThreadsLane p) → threads_from p 0 s.threads la
    ≡ threads_from p 0 s.threads lb
threads_lane s la lb p e = same _ _ e
  where
    same : (a b : List ThreadFacts) → OfThreads a ≡ OfThreads b → a ≡ b
    same a b q = cc

-- reading a list at or after its end gives the default
past_end : {A : Type 0} (xs : List A) (i : ℕ) (d : A) → length xs ≤ i → get_or xs i d ≡ d
past_end [] i d h = refl
past_end (x ∷ xs) zero d h = absurd (omega arith)
past_end (x ∷ xs) (suc i) d h = past_end xs i d (omega arith)

-- the facts of each thread of the processor
pub facts_same : (s : Script) (la lb : Lanes) (wa : length la.threads ≡ length s.threads) (wb : length lb.threads ≡ length s.threads) (p : CpuNo)
    (t : ThreadNo) → content s la (ThreadsLane p) ≡ content s lb (ThreadsLane p) → (cpu_of s t).0 ≡ p.0 → facts_at la t ≡ facts_at lb t
facts_same s la lb wa wb p t e c = go (nat_lt t.0 (length s.threads)) refl
  where
    go : (b : Bool) → nat_lt t.0 (length s.threads) ≡ b → facts_at la t ≡ facts_at lb t
    go false q =
        let l = ltb-false t.0 (length s.threads) q in
        past_end la.threads t.0 start_facts (rw wa l) ∙ sym (past_end lb.threads t.0 start_facts (rw wb l))
    go true q =
        let l : t.0 < length s.threads = ltb-true t.0 (length s.threads) q in
        let d : ThreadDecl = record { cpu = cpu 0; routine = routine 0 } in
        let g : slice_get s.threads t.0 ≡ Some (get_or s.threads t.0 d) = slice_get-get_or s.threads t.0 d l in
        let own : (get_or s.threads t.0 d).cpu.0 ≡ p.0 = ap (λ (o : Option ThreadDecl). (option_map_or (λ (y : ThreadDecl). y.cpu) o (cpu 0)).0) (sym g) ∙ c in
        let z : 0 + t.0 ≡ t.0 = omega arith in
        rw z at (threads_at s p 0 t.0 s.threads (get_or s.threads t.0 d) la lb (threads_lane s la lb p e) g own)

abbrev pub is_pick : Job → Bool
is_pick (PickJob last) = true
is_pick j = false

-- false isn't true, so anything follows (for replies)
no_bool : {A : Type 0} → false ≡ true → A
no_bool h = cc

-- ---- the replies

-- an answer of yes or no is no refusal
not_refused_if : (b : Bool) → is_refused (yes_if b) ≡ false
not_refused_if true = refl
not_refused_if false = refl

-- a lock's answer of done or spin is no refusal
not_refused_spin : (b : Bool) → is_refused (if b then Done else Spin) ≡ false
not_refused_spin true = refl
not_refused_spin false = refl

-- the reply to a wait is no refusal
wait_accepted : (x : ThreadFacts) (r : Regions) (level : ℕ) (m : Mode) (a : Bool) (o : Option Bool) → is_refused (wait_reply x r level m a o) ≡ false
wait_accepted x r level m a o =
    ifs (is_some (deliverable x.apcs r level)) (is_satisfied x o) (a && is_alerted m x) (a && (is_user m && has_user x.apcs)) (a && x.alerted_kernel)
    (not a && (is_user m && x.user_pending))
  where
    ifs : (a b c d e f : Bool) → is_refused (if a then Status kernel_apc
        else (if b then Status satisfied else (if c then Status alerted
        else (if d then Status user_apc else (if e then Status alerted else (if f then Status user_apc else Blocked)))))) ≡ false
    ifs true b c d e f = refl
    ifs false true c d e f = refl
    ifs false false true d e f = refl
    ifs false false false true e f = refl
    ifs false false false false true f = refl
    ifs false false false false false true = refl
    ifs false false false false false false = refl

-- where two histories have the same states on the lanes of a command, the reply is the same
module _ (s : Script) (la lb : Lanes) (wa : length la.threads ≡ length s.threads) (wb : length lb.threads ≡ length s.threads) (st : Stand)
    (run : (t : ThreadNo) → st.thread ≡ Some t → (cpu_of s t).0 ≡ st.cpu.0) where
  -- equal states of the processor's lane of threads give equal facts of its running thread
  pub own_facts : content s la (ThreadsLane st.cpu) ≡ content s lb (ThreadsLane st.cpu) → facts_of la st.thread ≡ facts_of lb st.thread
  own_facts e = go st.thread refl
    where
      go : (o : Option ThreadNo) → st.thread ≡ o → facts_of la o ≡ facts_of lb o
      go None q = refl
      go (Some t) q = facts_same s la lb wa wb st.cpu t e (run t q)

  timer_set : (t : TimerNo) → content s la TimersLane ≡ content s lb TimersLane → is_set_timer la.timers t ≡ is_set_timer lb.timers t
  timer_set t e = ap (λ (x : Timers). is_set_timer x t) (timers_same s la lb e)

  reply_same : (c : Command) (y : Reply) → SameOn s la lb (command_lanes s st.cpu c y la) → reply s st la c ≡ reply s st lb c
  reply_same (Queue d) y q = ap (λ (o : ObjectState). yes_if (not (is_queued o))) (object_same s la lb d q.0)
  reply_same (Unqueue d) y q = ap (λ (o : ObjectState). yes_if (is_queued o)) (object_same s la lb d q.0)
  reply_same (SetTimer t due period) y q = ap yes_if (timer_set t q.0)
  reply_same (CancelTimer t) y q = ap yes_if (timer_set t q.0)
  reply_same (InsertApc a) y q =
      ap (λ (x : ThreadFacts). yes_if (takes a x.apcs)) (facts_same s la lb wa wb (cpu_of s (owner_of s a)) (owner_of s a) q.0 refl)
  reply_same (RemoveApc a) y q =
      ap (λ (x : ThreadFacts). yes_if (is_inserted a x.apcs)) (facts_same s la lb wa wb (cpu_of s (owner_of s a)) (owner_of s a) q.0 refl)
  reply_same (StartWait m a) y q =
      ap (λ (x : ThreadFacts). wait_reply x st.regions st.level m a None) (own_facts q.0)
  reply_same (Delay m a u) y q =
      ap (λ (x : ThreadFacts). wait_reply x st.regions st.level m a (Some (is_reached la.timers.now (la.timers.now + u)))) (own_facts q.0)
      ∙ ap (λ (z : Timers). wait_reply (facts_of lb st.thread) st.regions st.level m a (Some (is_reached z.now (z.now + u)))) (timers_same s la lb q.1.0)
  reply_same (Release t) y q =
      ap (λ (x : ThreadFacts). yes_if (ends_by_release x)) (facts_same s la lb wa wb (cpu_of s t) t q.0 refl)
  reply_same (Alert t m) y q =
      ap (λ (x : ThreadFacts). yes_if (not (is_gone x) && is_alerted m x)) (facts_same s la lb wa wb (cpu_of s t) t q.0 refl)
  reply_same (TestAlert m) y q = ap (λ (x : ThreadFacts). yes_if (is_alerted m x)) (own_facts q.0)
  reply_same (Acquire k) y q = ap (λ (x : LockState). if is_none x.holder then Done else Spin) (lock_same s la lb k q.0)
  reply_same c y q = refl

  -- ---- the jobs

  abbrev Same : What → Type 0
  Same w = SameOn s la lb (what_lanes s st w la)

  -- an event that a job gives after the one history is given after the other, where the lanes that it touches are the same
  abbrev pub Goes : Option What → Option What → Type 0
  Goes a b = (w : What) → a ≡ Some w → Same w → b ≡ Some w

  some_of : {A : Type 0} (x y : A) → ◌≡◌ {A = Option A} (Some x) (Some y) → x ≡ y
  some_of x y e = cc

  accepted_reply : (c : Command) → is_refused (reply s st la c) ≡ false
  accepted_reply (Queue d) = not_refused_if _
  accepted_reply (Unqueue d) = not_refused_if _
  accepted_reply (SetTimer t due period) = not_refused_if _
  accepted_reply (CancelTimer t) = not_refused_if _
  accepted_reply (InsertApc a) = not_refused_if _
  accepted_reply (RemoveApc a) = not_refused_if _
  accepted_reply (Release t) = not_refused_if _
  accepted_reply (Alert t m) = not_refused_if _
  accepted_reply (TestAlert m) = not_refused_if _
  accepted_reply (StartWait m a) = wait_accepted (facts_of la st.thread) st.regions st.level m a None
  accepted_reply (Delay m a u) = wait_accepted (facts_of la st.thread) st.regions st.level m a (Some (is_reached la.timers.now (la.timers.now + u)))
  accepted_reply (Acquire k) = not_refused_spin _
  accepted_reply c = refl

  call_goes : (c : Command) → Goes (job_event s st la (CallJob c)) (job_event s st lb (CallJob c))
  call_goes c w e q =
      let is : Call st.frame c (reply s st la c) ≡ w = some_of _ w e in
      let on : SameOn s la lb (what_lanes s st (Call st.frame c (reply s st la c)) la) = subst Same (sym is) q in
      let lanes : SameOn s la lb (command_lanes s st.cpu c (reply s st la c) la) = subst
      (λ (b : Bool). SameOn s la lb (if b then [] else command_lanes s st.cpu c (reply s st la c) la)) (accepted_reply c) on in
      ap (λ (y : Reply). Some (Call st.frame c y)) (sym (reply_same c (reply s st la c) lanes)) ∙ e

  fire_goes : (d : DpcNo) → Goes (job_event s st la (FireJob d)) (job_event s st lb (FireJob d))
  fire_goes d w e q =
      let is : Fire d (reply s st la (Queue d)) ≡ w = some_of _ w e in
      let on : SameOn s la lb (what_lanes s st (Fire d (reply s st la (Queue d))) la) = subst Same (sym is) q in
      ap (λ (y : Reply). Some (Fire d y)) (sym (reply_same (Queue d) (reply s st la (Queue d)) on)) ∙ e

  -- what the timers tell, where a sweep is owed and their lane is the same
  swept : (b : Bool) → SameOn s la lb (lane_if b TimersLane) → when b (first_due la.timers) ≡ when b (first_due lb.timers)
  swept true q = ap (λ (x : Timers). when true (first_due x)) (timers_same s la lb q.0)
  swept false q = refl

  abbrev Drained : Option SetKey → QueueState → What
  Drained keys q = unwrap_or (option_or (option_map expire_key keys) (begin_first OrdinaryPart q)) (Clean 2)

  timers_of_key : (key : TimerKey) → SameOn s la lb (expire_lanes s key) → content s la TimersLane ≡ content s lb TimersLane
  timers_of_key (OfTimer t) q = q.0
  timers_of_key (OfDelay t) q = q.1.0

  drain_goes : Goes (job_event s st la DrainJob) (job_event s st lb DrainJob)
  drain_goes w e q = keyed_so (when st.sweep (first_due la.timers)) refl
    where
      is : drain_event st la ≡ w
      is = some_of _ w e

      on : SameOn s la lb (what_lanes s st (drain_event st la) la)
      on = subst Same (sym is) q

      end : drain_event st la ≡ drain_event st lb → Some (drain_event st lb) ≡ Some w
      end x = ap (λ (v : What). Some v) (sym x ∙ is)

      keyed_so : (o : Option SetKey) → when st.sweep (first_due la.timers) ≡ o → Some (drain_event st lb) ≡ Some w
      keyed_so (Some x) z =
          let first : drain_event st la ≡ expire_key x = ap (λ (o : Option SetKey). Drained o (queue_at la st.cpu)) z in
          let there : SameOn s la lb (expire_lanes s x.key) = subst (λ (v : What). SameOn s la lb (what_lanes s st v la)) first on in
          let keys : when st.sweep (first_due lb.timers)
          ≡ Some x = ap (λ (y : Timers). when st.sweep (first_due y)) (sym (timers_same s la lb (timers_of_key x.key there))) ∙ z in
          end (first ∙ sym (ap (λ (o : Option SetKey). Drained o (queue_at lb st.cpu)) keys))
      keyed_so None z = queued (first_dpc OrdinaryPart (queue_at la st.cpu).pending) refl
        where
          none_keys : drain_event st la ≡ Drained None (queue_at la st.cpu)
          none_keys = ap (λ (o : Option SetKey). Drained o (queue_at la st.cpu)) z

          finish : queue_at la st.cpu ≡ queue_at lb st.cpu → SameOn s la lb (lane_if st.sweep TimersLane) → Some (drain_event st lb) ≡ Some w
          finish a c =
              let keys : when st.sweep (first_due lb.timers) ≡ None = sym (swept st.sweep c) ∙ z in
              end (none_keys ∙ (ap (Drained None) a ∙ sym (ap (λ (o : Option SetKey). Drained o (queue_at lb st.cpu)) keys)))

          queued : (o : Option Insert) → first_dpc OrdinaryPart (queue_at la st.cpu).pending ≡ o → Some (drain_event st lb) ≡ Some w
          queued (Some i) y =
              let first : drain_event st la ≡ Begin (Dpc i.dpc) i.number = none_keys
              ∙ ap (λ (o : Option Insert). unwrap_or (option_map (begin_dpc OrdinaryPart) o) (Clean 2)) y in
              let there : SameOn s la lb (begin_lanes st (Dpc i.dpc)) = subst (λ (v : What). SameOn s la lb (what_lanes s st v la)) first on in
              finish (queue_same s la lb st.cpu there.1.0) there.1.1
          queued None y =
              let first : drain_event st la ≡ Clean 2 = none_keys ∙ ap (λ (o : Option Insert). unwrap_or (option_map (begin_dpc OrdinaryPart) o) (Clean 2)) y in
              let there : SameOn s la lb (clean_lanes st 2) = subst (λ (v : What). SameOn s la lb (what_lanes s st v la)) first on in
              finish (queue_same s la lb st.cpu there.0) (owed st.sweep there.1)
            where
              owed : (b : Bool) → SameOn s la lb (lane_if (b && true) TimersLane) → SameOn s la lb (lane_if b TimersLane)
              owed true q = q
              owed false q = q

  apcs_goes : Goes (job_event s st la ApcsJob) (job_event s st lb ApcsJob)
  apcs_goes w e q = go (deliverable (facts_of la st.thread).apcs st.regions st.level) refl
    where
      is : apcs_event st la ≡ w
      is = some_of _ w e

      finish : content s la (ThreadsLane st.cpu) ≡ content s lb (ThreadsLane st.cpu) → Some (apcs_event st lb) ≡ Some w
      finish z =
          ap (λ (x : ThreadFacts). Some (unwrap_or (option_map begin_apc (deliverable x.apcs st.regions st.level)) (Clean 1))) (sym (own_facts z)) ∙ e

      go : (o : Option Pick) → deliverable (facts_of la st.thread).apcs st.regions st.level ≡ o → Some (apcs_event st lb) ≡ Some w
      go (Some x) z =
          let first : begin_apc x ≡ w = ap (λ (o : Option Pick). unwrap_or (option_map begin_apc o) (Clean 1)) (sym z) ∙ is in
          let there : SameOn s la lb (begin_lanes st (Apc x.apc)) = subst Same (sym first) q in finish there.0
      go None z =
          let first : Clean 1 ≡ w = ap (λ (o : Option Pick). unwrap_or (option_map begin_apc o) (Clean 1)) (sym z) ∙ is in
          let there : SameOn s la lb (clean_lanes st 1) = subst Same (sym first) q in finish there.0

  threaded_goes : Goes (job_event s st la ThreadedJob) (job_event s st lb ThreadedJob)
  threaded_goes w e q = go (first_dpc ThreadedPart (queue_at la st.cpu).pending) refl
    where
      is : threaded_event st la ≡ w
      is = some_of _ w e

      finish : content s la (QueueLane st.cpu) ≡ content s lb (QueueLane st.cpu) → Some (threaded_event st lb) ≡ Some w
      finish z = ap (λ (x : QueueState). Some (unwrap_or (begin_first ThreadedPart x) (Clean 0))) (sym (queue_same s la lb st.cpu z)) ∙ e

      go : (o : Option Insert) → first_dpc ThreadedPart (queue_at la st.cpu).pending ≡ o → Some (threaded_event st lb) ≡ Some w
      go (Some i) z =
          let first : Begin (Threaded i.dpc) i.number ≡ w = ap (λ (o : Option Insert). unwrap_or (option_map (begin_dpc ThreadedPart) o) (Clean 0)) (sym z)
          ∙ is in
          let there : SameOn s la lb (begin_lanes st (Threaded i.dpc)) = subst Same (sym first) q in finish there.1.0
      go None z =
          let first : Clean 0 ≡ w = ap (λ (o : Option Insert). unwrap_or (option_map (begin_dpc ThreadedPart) o) (Clean 0)) (sym z) ∙ is in
          let there : SameOn s la lb (clean_lanes st 0) = subst Same (sym first) q in finish there.0

  ready_same : (p : CpuNo) (n : ℕ) (xs : List ThreadDecl) → ((i : ℕ) → slice_get s.threads (n + i) ≡ slice_get xs i) →
      ((t : ThreadNo) → (cpu_of s t).0 ≡ p.0 → facts_at la t ≡ facts_at lb t) → ready_from p n xs la ≡ ready_from p n xs lb
  ready_same p n [] g f = refl
  ready_same p n (x ∷ xs) g f = go (x.cpu.0 == p.0) refl (ready_same p (suc n) xs next f)
    where
      next : (i : ℕ) → slice_get s.threads (suc n + i) ≡ slice_get xs i
      next i = let e : suc n + i ≡ n + suc i = omega arith in rw e (g (suc i))

      here : slice_get s.threads n ≡ Some x
      here = let e : n + 0 ≡ n = omega arith in rw e at (g 0)

      go : (b : Bool) → (x.cpu.0 == p.0) ≡ b → ready_from p (suc n) xs la ≡ ready_from p (suc n) xs lb →
          (if b && is_ready (facts_at la (thread n)) then (thread n ∷ ready_from p (suc n) xs la) else ready_from p (suc n) xs la)
          ≡ (if b && is_ready (facts_at lb (thread n)) then (thread n ∷ ready_from p (suc n) xs lb) else ready_from p (suc n) xs lb)
      go false z more = more
      go true z more =
          let own : cpu_of s (thread n) ≡ x.cpu = ap (λ (o : Option ThreadDecl). option_map_or (λ (y : ThreadDecl). y.cpu) o (cpu 0)) here in
          let same : facts_at la (thread n) ≡ facts_at lb (thread n) = f (thread n) (ap (λ (c : CpuNo). c.0) own ∙ eqb-true x.cpu.0 p.0 z) in
          ap (λ (y : ThreadFacts). if is_ready y then (thread n ∷ ready_from p (suc n) xs la) else ready_from p (suc n) xs la) same
          ∙ ap (λ (ts : List ThreadNo). if is_ready (facts_at lb (thread n)) then (thread n ∷ ts) else ts) more

  idle_goes : Goes (job_event s st la IdleJob) (job_event s st lb IdleJob)
  idle_goes w e q = go (first_dpc OrdinaryPart (queue_at la st.cpu).pending) refl
    where
      go : (o : Option Insert) → first_dpc OrdinaryPart (queue_at la st.cpu).pending ≡ o → idle_event s st lb ≡ Some w
      go (Some i) z =
          let head : idle_event s st la ≡ Some (Begin (Dpc i.dpc) i.number) = ap
          (λ (o : Option Insert). option_or (option_map (begin_dpc OrdinaryPart) o) (when (is_null (ready s st.cpu la)) (Some Rest))) z in
          let first : Begin (Dpc i.dpc) i.number ≡ w = some_of _ w (sym head ∙ e) in
          let there : SameOn s la lb (begin_lanes st (Dpc i.dpc)) = subst Same (sym first) q in
          let same : first_dpc OrdinaryPart (queue_at lb st.cpu).pending
          ≡ Some i = ap (λ (x : QueueState). first_dpc OrdinaryPart x.pending) (sym (queue_same s la lb st.cpu there.1.0)) ∙ z in
          ap (λ (o : Option Insert). option_or (option_map (begin_dpc OrdinaryPart) o) (when (is_null (ready s st.cpu lb)) (Some Rest))) same
          ∙ ap (λ (v : What). Some v) first
      go None z =
          let rest : when (is_null (ready s st.cpu la)) (Some Rest)
          ≡ Some w = ap (λ (o : Option Insert). option_or (option_map (begin_dpc OrdinaryPart) o) (when (is_null (ready s st.cpu la)) (Some Rest))) (sym z)
          ∙ e in
          let m = when_gives (is_null (ready s st.cpu la)) (Some Rest) w rest in
          let first : Rest ≡ w = some_of _ w m.1 in
          let there : SameOn s la lb (QueueLane st.cpu ∷ ThreadsLane st.cpu ∷ []) = subst Same (sym first) q in
          let same : first_dpc OrdinaryPart (queue_at lb st.cpu).pending
          ≡ None = ap (λ (x : QueueState). first_dpc OrdinaryPart x.pending) (sym (queue_same s la lb st.cpu there.0)) ∙ z in
          let ready_too : ready s st.cpu la ≡ ready s st.cpu lb = ready_same st.cpu 0 s.threads (λ i. let y : 0 + i ≡ i = omega arith in rw y refl)
          (λ t own. facts_same s la lb wa wb st.cpu t there.1.0 own) in
          ap (λ (o : Option Insert). option_or (option_map (begin_dpc OrdinaryPart) o) (when (is_null (ready s st.cpu lb)) (Some Rest))) same
          ∙ (ap (λ (ts : List ThreadNo). when (is_null ts) (Some Rest)) (sym ready_too) ∙ rest)

  switch_goes : (t : ThreadNo) → Goes (job_event s st la (SwitchJob t)) (job_event s st lb (SwitchJob t))
  switch_goes t w e q =
      let m = when_gives (may_take s st.cpu t la) (Some (switch_event t la)) w e in
      let first : switch_event t la ≡ w = some_of _ w m.1 in
      let there : SameOn s la lb (QueueLane st.cpu ∷ ThreadsLane st.cpu ∷ []) = subst Same (sym first) q in
      let own = both ((cpu_of s t).0 == st.cpu.0) _ (both (has_thread s t) _ m.0).1 in
      let same : facts_at la t ≡ facts_at lb t = facts_same s la lb wa wb st.cpu t there.1.0 (eqb-true (cpu_of s t).0 st.cpu.0 own.0) in
      ap (λ (x : ThreadFacts). when (has_thread s t && (((cpu_of s t).0 == st.cpu.0) && is_ready x)) (Some (Switch t (ended_status x)))) (sym same) ∙ e

  rewait_goes : Goes (job_event s st la RewaitJob) (job_event s st lb RewaitJob)
  rewait_goes w e q = go st.again refl
    where
      go : (o : Option Again) → st.again ≡ o → option_map (λ x. Rewait st.frame (rewait_reply st lb x)) st.again ≡ Some w
      go None z =
          let none : None ≡ Some w = ap (λ (o : Option Again). option_map (λ x. Rewait st.frame (rewait_reply st la x)) o) (sym z) ∙ e in cc
      go (Some x) z =
          let some : Some (Rewait st.frame (rewait_reply st la x))
          ≡ Some w = ap (λ (o : Option Again). option_map (λ x. Rewait st.frame (rewait_reply st la x)) o) (sym z) ∙ e in
          let first : Rewait st.frame (rewait_reply st la x) ≡ w = some_of _ w some in
          let there : SameOn s la lb (ThreadsLane st.cpu ∷ lane_if (is_some (option_and_then (λ w. w.due) st.again)) TimersLane) = subst Same (sym first) q in
          let timers : SameOn s la lb (lane_if (is_some x.due) TimersLane) = subst
          (λ (o : Option Again). SameOn s la lb (lane_if (is_some (option_and_then (λ w. w.due) o)) TimersLane)) z there.1 in
          let same : rewait_reply st la x ≡ rewait_reply st lb x = ap
          (λ (y : ThreadFacts). wait_reply y st.regions st.level x.mode x.alertable (option_map (is_reached la.timers.now) x.due)) (own_facts there.0)
          ∙ ap (λ (o : Option Bool). wait_reply (facts_of lb st.thread) st.regions st.level x.mode x.alertable o) (reached x.due timers) in
          ap (λ (o : Option Again). option_map (λ x. Rewait st.frame (rewait_reply st lb x)) o) z
          ∙ (ap (λ (y : Reply). Some (Rewait st.frame y)) (sym same) ∙ some)
        where
          reached : (o : Option ℕ) → SameOn s la lb (lane_if (is_some o) TimersLane) → option_map (is_reached la.timers.now) o
              ≡ option_map (is_reached lb.timers.now) o
          reached None q = refl
          reached (Some d) q = ap (λ (y : Timers). Some (is_reached y.now d)) (timers_same s la lb q.0)

  touser_goes : Goes (job_event s st la ToUserJob) (job_event s st lb ToUserJob)
  touser_goes w e q = go (user_due (facts_of la st.thread)) refl
    where
      is : touser_event st la ≡ w
      is = some_of _ w e

      finish : content s la (ThreadsLane st.cpu) ≡ content s lb (ThreadsLane st.cpu) → Some (touser_event st lb) ≡ Some w
      finish z =
          ap (λ (x : ThreadFacts). Some (unwrap_or (option_map begin_apc (user_due x)) (Call st.frame ToUser Done))) (sym (own_facts z)) ∙ e

      go : (o : Option Pick) → user_due (facts_of la st.thread) ≡ o → Some (touser_event st lb) ≡ Some w
      go (Some x) z =
          let first : begin_apc x ≡ w = ap (λ (o : Option Pick). unwrap_or (option_map begin_apc o) (Call st.frame ToUser Done)) (sym z) ∙ is in
          let there : SameOn s la lb (begin_lanes st (Apc x.apc)) = subst Same (sym first) q in finish there.0
      go None z =
          let first : Call st.frame ToUser Done ≡ w = ap (λ (o : Option Pick). unwrap_or (option_map begin_apc o) (Call st.frame ToUser Done)) (sym z) ∙ is in
          let there : SameOn s la lb (ThreadsLane st.cpu ∷ []) = subst Same (sym first) q in finish there.0

  rundown_goes : Goes (job_event s st la RundownJob) (job_event s st lb RundownJob)
  rundown_goes w e q = thread_so st.thread refl
    where
      thread_so : (o : Option ThreadNo) → st.thread ≡ o → option_map (rundown_event lb) st.thread ≡ Some w
      thread_so None z =
          let none : None ≡ Some w = ap (λ (o : Option ThreadNo). option_map (rundown_event la) o) (sym z) ∙ e in cc
      thread_so (Some t) z = go (first_user (facts_at la t).apcs) refl
        where
          some : Some (rundown_event la t) ≡ Some w
          some = ap (λ (o : Option ThreadNo). option_map (rundown_event la) o) (sym z) ∙ e

          is : rundown_event la t ≡ w
          is = some_of _ w some

          finish : content s la (ThreadsLane st.cpu) ≡ content s lb (ThreadsLane st.cpu) → option_map (rundown_event lb) st.thread ≡ Some w
          finish y =
              ap (λ (o : Option ThreadNo). option_map (rundown_event lb) o) z
              ∙ (ap (λ (x : ThreadFacts). Some (unwrap_or (option_map (λ x. Flush x.apc x.number) (first_user x.apcs)) (Gone t)))
              (sym (facts_same s la lb wa wb st.cpu t y (run t z))) ∙ some)

          go : (o : Option Pick) → first_user (facts_at la t).apcs ≡ o → option_map (rundown_event lb) st.thread ≡ Some w
          go (Some x) y =
              let first : Flush x.apc x.number ≡ w = ap (λ (o : Option Pick). unwrap_or (option_map (λ x. Flush x.apc x.number) o) (Gone t)) (sym y) ∙ is in
              let there : SameOn s la lb (ThreadsLane st.cpu ∷ []) = subst Same (sym first) q in finish there.0
          go None y =
              let first : Gone t ≡ w = ap (λ (o : Option Pick). unwrap_or (option_map (λ x. Flush x.apc x.number) o) (Gone t)) (sym y) ∙ is in
              let there : SameOn s la lb (ThreadsLane st.cpu ∷ []) = subst Same (sym first) q in finish there.0

  -- a job but a Pick, which no turn makes
  pub job_goes : (j : Job) → is_pick j ≡ false → Goes (job_event s st la j) (job_event s st lb j)
  job_goes (CallJob c) n = call_goes c
  job_goes (FireJob d) n = fire_goes d
  job_goes (FreeJob k) n = λ w e q. e
  job_goes DrainJob n = drain_goes
  job_goes ApcsJob n = apcs_goes
  job_goes ThreadedJob n = threaded_goes
  job_goes IdleJob n = idle_goes
  job_goes (PickJob last) n = λ w e q. no_bool (sym n)
  job_goes (SwitchJob t) n = switch_goes t
  job_goes RewaitJob n = rewait_goes
  job_goes ToUserJob n = touser_goes
  job_goes UserEndJob n = λ w e q. e
  job_goes LeaveJob n = λ w e q. e
  job_goes RundownJob n = rundown_goes
