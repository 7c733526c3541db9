-- What an event asks for, touches and leaves is determined by the states of the lanes that it touches.
use Rattle.std.proofs.Common.{ap, arith, ◌∙◌}
use Rattle.std.specs.Prelude.{Bool, List, Option, Some, [], false, if◌then◌else◌, length, not, option_map, refl, true, ℕ, ◌&&◌, ◌++◌, ◌+◌, ◌<◌, ◌==◌, ◌||◌, ◌∷◌}
use Rattle.std.specs.Prelude.{◌≡◌}
use Rattle.nt_event.specs.declared.commands.ApcKind.TheVariants.{Normal as NormalApc}
use Rattle.nt_event.specs.declared.commands.Command.{Command}
use Rattle.nt_event.specs.declared.commands.Command.TheVariants.{Alert, Clock, Delay, InsertApc, Interrupt, LeaveCrit, LeaveGuard, Queue, Release, Unlock}
use Rattle.nt_event.specs.declared.commands.Command.TheVariants.{Unqueue}
use Rattle.nt_event.specs.declared.commands.Reply.{Reply}
use Rattle.nt_event.specs.declared.commands.Reply.TheVariants.{Done, No, Refused, Yes}
use Rattle.nt_event.specs.declared.commands.TimerKey.TheVariants.{Delay as OfDelay}
use Rattle.nt_event.specs.declared.events.Begun.TheVariants.{Dpc, Threaded}
use Rattle.nt_event.specs.declared.events.Event.{Event}
use Rattle.nt_event.specs.declared.events.What.{What}
use Rattle.nt_event.specs.declared.events.What.TheVariants.{Begin, Call, End, Expire, Fire, Free, Switch}
use Rattle.nt_event.specs.declared.frames.Body.{Body}
use Rattle.nt_event.specs.declared.frames.Body.TheVariants.{Apc as OnApc, Base as OnBase}
use Rattle.nt_event.specs.Frame.{Frame}
use Rattle.nt_event.specs.declared.inserts.Insert.{Insert}
use Rattle.nt_event.specs.declared.jobs.Lane.{Lane}
use Rattle.nt_event.specs.declared.jobs.Lane.TheVariants.{Lock as LockLane, Object as ObjectLane, Queue as QueueLane, Threads as ThreadsLane}
use Rattle.nt_event.specs.declared.jobs.Lane.TheVariants.{Timers as TimersLane}
use Rattle.nt_event.specs.declared.jobs.Stand.{Stand}
use Rattle.nt_event.specs.declared.numbers.CpuNo.{CpuNo}
use Rattle.nt_event.specs.declared.numbers.DpcNo.{DpcNo}
use Rattle.nt_event.specs.declared.numbers.ThreadNo.{ThreadNo}
use Rattle.nt_event.specs.declared.scripts.Script.{Script}
use Rattle.nt_event.specs.Apcs.{has_kernel}
use Rattle.nt_event.specs.Frames.{Frames, due_of, frames_after, frames_in, own_after, running_after, thread_after, thread_if}
use Rattle.nt_event.specs.LaneStates.{OfLock, OfObject, OfQueue, OfThreads, OfTimers, content}
use Rattle.nt_event.specs.Lanes.{Lanes, command_lanes, end_lanes, facts_at, insert_lanes, lane_if, lanes_after, lock_at, object_at, queue_at, standing_lanes}
use Rattle.nt_event.specs.Lanes.{what_lanes}
use Rattle.nt_event.specs.Objects.{ObjectState, object_after, queue_for, start_object}
use Rattle.nt_event.specs.Own.{Own, fire_after, is_rest, own_after_event, took_after}
use Rattle.nt_event.specs.Queues.{QueueState, idle_after, is_queue, new_insert, pending_after, queue_after, start_queue, without_dpc}
use Rattle.nt_event.specs.Regions.{some_came_to_0, sweep_after}
use Rattle.nt_event.specs.Requests.{ask_if, dpc_asks, end_asks, queue_asks, seen_after, served_after, spinner_asks, what_asks}
use Rattle.nt_event.specs.Routines.{cpu_of, is_kernel_kind, kind_of, owner_of, part_of}
use Rattle.nt_event.specs.Threads.{ThreadFacts, ends_by_alert, ends_by_apc, ends_by_expiry, is_gone, start_facts}
use Rattle.nt_event.specs.Timers.{Timers, timers_after}
use Rattle.nt_event.specs.Waits.{facts_after, new_pick}
use Rattle.nt_event.specs.Numbers.{cpu, dpc, is_by, lock, thread}
use Rattle.nt_event.specs.Replies.{is_refused, is_yes}
use Rattle.nt_event.specs.Lists.{table, value_at}
use Rattle.nt_event.proofs.Tables.{table-same}
use Rattle.nt_runs.proofs.Untouched.{read_same, threads_same}
use Rattle.nt_runs.proofs.Locality.Jobs.{SameOn, facts_same, lock_same, object_same, own_facts, queue_same, timers_same}
use Rattle.nt_event.specs.Locks.{LockState, lock_after, start_lock}
use Rattle.nt_event.specs.declared.numbers.LockNo.{LockNo}

-- ---- lanes and asks

module _ (s : Script) (la lb : Lanes) (wa : length la.threads ≡ length s.threads) (wb : length lb.threads ≡ length s.threads) (st : Stand)
    (run : (t : ThreadNo) → st.thread ≡ Some t → (cpu_of s t).0 ≡ st.cpu.0) where
  insert_same : (p : CpuNo) (d : DpcNo) (y : Reply) → SameOn s la lb (insert_lanes p d y la) → insert_lanes p d y la ≡ insert_lanes p d y lb
  insert_same p d y q = ap (λ (o : ObjectState). ObjectLane d ∷ lane_if (is_yes y) (QueueLane (queue_for o.target p))) (object_same s la lb d q.0)

  commands_same : (c : Command) (y : Reply) → SameOn s la lb (command_lanes s st.cpu c y la) → command_lanes s st.cpu c y la ≡ command_lanes s st.cpu c y lb
  commands_same (Queue d) y q = insert_same st.cpu d y q
  commands_same (Unqueue d) y q = ap (λ (o : ObjectState). ObjectLane d ∷ standing_lanes o.standing) (object_same s la lb d q.0)
  commands_same c y q = refl

  if_lanes : (b : Bool) (c : Command) (y : Reply) → SameOn s la lb (if b then [] else command_lanes s st.cpu c y la) →
      (if b then [] else command_lanes s st.cpu c y la) ≡ (if b then [] else command_lanes s st.cpu c y lb)
  if_lanes true c y q = refl
  if_lanes false c y q = commands_same c y q

  -- an event touches the same lanes in two states that agree on the lanes it touches
  pub lanes_same : (w : What) → SameOn s la lb (what_lanes s st w la) → what_lanes s st w la ≡ what_lanes s st w lb
  lanes_same (Call f c y) q = if_lanes (is_refused y) c y q
  lanes_same (Fire d y) q = insert_same st.cpu d y q
  lanes_same w q = refl

  queue_asks_same : (d : DpcNo) → SameOn s la lb (insert_lanes st.cpu d Yes la) → queue_asks s d st.cpu la ≡ queue_asks s d st.cpu lb
  queue_asks_same d q =
      let o = object_same s la lb d q.0 in
      let u : CpuNo = queue_for (object_at la d).target st.cpu in
      ap (λ (x : QueueState). dpc_asks s (part_of s d) (object_at la d) st.cpu u x) (queue_same s la lb u q.1.0)
      ∙ ap (λ (z : ObjectState). dpc_asks s (part_of s d) z st.cpu (queue_for z.target st.cpu) (queue_at lb (queue_for z.target st.cpu))) o

  end_asks_same : (b : Option Body) → SameOn s la lb (end_lanes st.cpu b) → end_asks st b la ≡ end_asks st b lb
  end_asks_same (Some (OnApc a NormalApc)) q = refl
  end_asks_same (Some (OnBase t)) q =
      ap (λ (x : ThreadFacts). ask_if (some_came_to_0 st.regions st.below || has_kernel x.apcs) st.cpu 1) (own_facts s la lb wa wb st run q.0)
  end_asks_same b q = refl

  -- an event asks for the same in two states that agree on the lanes it touches
  pub asks_same : (w : What) → ((t : ThreadNo) (status : Option ℕ) → w ≡ Switch t status → (cpu_of s t).0 ≡ st.cpu.0) → SameOn s la lb (what_lanes s st w la) →
      what_asks s st w la ≡ what_asks s st w lb
  asks_same (Call f (Queue d) Yes) own q = queue_asks_same d q
  asks_same (Call f (InsertApc a) Yes) own q =
      ap (λ (x : ThreadFacts). ask_if (is_kernel_kind (kind_of s a)) (cpu_of s (owner_of s a)) 1
      ++ ask_if (ends_by_apc (new_pick s a 0) x) (cpu_of s (owner_of s a)) 2) (facts_same s la lb wa wb (cpu_of s (owner_of s a)) (owner_of s a) q.0 refl)
  asks_same (Call f (Alert t m) No) own q =
      ap (λ (x : ThreadFacts). ask_if (not (is_gone x) && ends_by_alert m x) (cpu_of s t) 2) (facts_same s la lb wa wb (cpu_of s t) t q.0 refl)
  asks_same (Call f LeaveCrit Done) own q = refl
  asks_same (Call f LeaveGuard Done) own q = refl
  asks_same (Call f (Release t) Yes) own q = refl
  asks_same (Call f (Interrupt p level) Done) own q = refl
  asks_same (Call f (Clock units) Done) own q = refl
  asks_same (Call f (Unlock k) Done) own q = ap (λ (x : LockState). spinner_asks 0 x.spinners) (lock_same s la lb k q.0)
  asks_same (Free f k) own q = ap (λ (x : LockState). spinner_asks 0 x.spinners) (lock_same s la lb k q.0)
  asks_same (Fire d Yes) own q = queue_asks_same d q
  asks_same (Expire (OfDelay t) from) own q =
      ap (λ (x : ThreadFacts). ask_if (ends_by_expiry from x) (cpu_of s t) 2) (facts_same s la lb wa wb (cpu_of s t) t q.0 refl)
  asks_same (Switch t status) own q =
      ap (λ (x : ThreadFacts). ask_if (has_kernel x.apcs) st.cpu 1) (facts_same s la lb wa wb st.cpu t q.1.0 (own t status refl))
  asks_same (End f) own q = end_asks_same st.body q
  asks_same w own q = refl

-- ---- what stands in a lane

-- a queue reads of the objects only the one that the event inserts or removes
pending_same : (s : Script) (la lb : Lanes) (st : Stand) (p : CpuNo) (n : ℕ) (w : What) (old : List Insert) → SameOn s la lb (what_lanes s st w la) →
    pending_after s p n st.cpu w la.objects old ≡ pending_after s p n st.cpu w lb.objects old
pending_same s la lb st p n (Call f (Queue d) Yes) old q =
    ap (λ (o : ObjectState). if (queue_for o.target st.cpu).0 == p.0 then (new_insert s d n o ∷ old) else old) (object_same s la lb d q.0)
pending_same s la lb st p n (Call f (Unqueue d) Yes) old q =
    ap (λ (o : ObjectState). if is_queue (option_map (λ x. x.queue) o.standing) p then without_dpc d old else old) (object_same s la lb d q.0)
pending_same s la lb st p n (Fire d Yes) old q =
    ap (λ (o : ObjectState). if (queue_for o.target st.cpu).0 == p.0 then (new_insert s d n o ∷ old) else old) (object_same s la lb d q.0)
pending_same s la lb st p n (Begin (Dpc d) from) old q = refl
pending_same s la lb st p n (Begin (Threaded d) from) old q = refl
pending_same s la lb st p n w old q = refl

-- ---- what an event leaves in a lane

module _ (s : Script) (la lb : Lanes) (wa : length la.threads ≡ length s.threads) (wb : length lb.threads ≡ length s.threads) (n : ℕ) (st : Stand) (e : Event)
    (by : e.cpu ≡ st.cpu) (q : SameOn s la lb (what_lanes s st e.what la)) where
  object_left : (d : DpcNo) → object_at la d ≡ object_at lb d → object_at (lanes_after s n st e la) d ≡ object_at (lanes_after s n st e lb) d
  object_left d a =
      read_same (length s.dpcs) d.0 (λ d. object_after (dpc d) n e.cpu e.what (object_at la (dpc d)))
      (λ d. object_after (dpc d) n e.cpu e.what (object_at lb (dpc d))) start_object (λ l. ap (object_after d n e.cpu e.what) a)

  queue_left : (p : CpuNo) → queue_at la p ≡ queue_at lb p → queue_at (lanes_after s n st e la) p ≡ queue_at (lanes_after s n st e lb) p
  queue_left p a =
      read_same s.cpus p.0 (λ p. queue_after s (cpu p) n e.cpu e.what la.objects (queue_at la (cpu p)))
      (λ p. queue_after s (cpu p) n e.cpu e.what lb.objects (queue_at lb (cpu p))) start_queue
      (λ l. ap (λ (x : QueueState). queue_after s p n e.cpu e.what la.objects x) a
      ∙ ap (λ (xs : List Insert). record { pending = xs; idle = if e.cpu.0 == p.0 then idle_after e.what (queue_at lb p).idle else (queue_at lb p).idle })
      (pending_here (queue_at lb p).pending))
    where
      pending_here : (old : List Insert) → pending_after s p n e.cpu e.what la.objects old ≡ pending_after s p n e.cpu e.what lb.objects old
      pending_here old = rw by (pending_same s la lb st p n e.what old q)

  facts_left : (t : ThreadNo) → facts_at la t ≡ facts_at lb t → facts_at (lanes_after s n st e la) t ≡ facts_at (lanes_after s n st e lb) t
  facts_left t a =
      read_same (length s.threads) t.0 (λ t. facts_after s (thread t) n st e (facts_at la (thread t)))
      (λ t. facts_after s (thread t) n st e (facts_at lb (thread t))) start_facts (λ l. ap (facts_after s t n st e) a)

  lock_left : (k : LockNo) → lock_at la k ≡ lock_at lb k → lock_at (lanes_after s n st e la) k ≡ lock_at (lanes_after s n st e lb) k
  lock_left k a =
      read_same s.locks k.0 (λ k. lock_after s (lock k) e (lock_at la (lock k))) (λ k. lock_after s (lock k) e (lock_at lb (lock k))) start_lock
      (λ l. ap (lock_after s k e) a)

  -- where a lane's states are equal before an event, they are equal after it
  pub content_left : (x : Lane) → content s la x ≡ content s lb x → content s (lanes_after s n st e la) x ≡ content s (lanes_after s n st e lb) x
  content_left (ObjectLane d) a = ap (λ (o : ObjectState). OfObject o) (object_left d (object_same s la lb d a))
  content_left (QueueLane p) a = ap (λ (o : QueueState). OfQueue o) (queue_left p (queue_same s la lb p a))
  content_left (ThreadsLane p) a =
      ap (λ (xs : List ThreadFacts). OfThreads xs) (threads_same s p 0 s.threads (lanes_after s n st e la) (lanes_after s n st e lb)
      (λ i. let z : 0 + i ≡ i = omega arith in rw z refl) (λ t own. facts_left t (facts_same s la lb wa wb p t a own)))
  content_left TimersLane a = ap (λ (o : Timers). OfTimers (timers_after s n st e o)) (timers_same s la lb a)
  content_left (LockLane k) a = ap (λ (o : LockState). OfLock o) (lock_left k (lock_same s la lb k a))

-- ---- what the processor keeps

-- a delay that isn't refused
abbrev pub delays : What → Bool
delays (Call f (Delay m a units) y) = not (is_refused y)
delays w = false

-- the due time matters to the own part only at an event that is an accepted delay
own_due : (n a b : ℕ) (w : What) (fs : List Frame) → (delays w ≡ true → a ≡ b) → own_after n (due_of w a) w fs ≡ own_after n (due_of w b) w fs
own_due n a b (Call f (Delay m al u) (Refused r)) fs h = refl
own_due n a b (Call f (Delay m al u) y) fs h =
    ap (λ (t : ℕ). own_after n (Some (t + u)) (Call f (Delay m al u) y) fs) (h refl)
own_due n a b w fs h = refl

-- the due time matters to a thread's frames only at an event that is an accepted delay
thread_due : (s : Script) (n a b : ℕ) (w : What) (by : Bool) (fs : List Frame) → (delays w ≡ true → a ≡ b) → thread_if by s n (due_of w a) w fs
    ≡ thread_if by s n (due_of w b) w fs
thread_due s n a b w false fs h = refl
thread_due s n a b (Call f (Delay m al u) (Refused r)) true fs h = refl
thread_due s n a b (Call f (Delay m al u) y) true fs h =
    ap (λ (t : ℕ). thread_after s n (Some (t + u)) (Call f (Delay m al u) y) fs) (h refl)
thread_due s n a b w true fs h = refl

-- the due time matters to all frames only at an event that is an accepted delay
frames_due : (s : Script) (n a b : ℕ) (e : Event) (x : Frames) → (delays e.what ≡ true → a ≡ b) → frames_after s n (due_of e.what a) e x
    ≡ frames_after s n (due_of e.what b) e x
frames_due s n a b e x h =
    λ i. record { own = own_due n a b e.what x.own h i; running = running_after e.what x.running; threads = t i }
  where
    t : table (length s.threads) (λ t. thread_if (is_by e (thread t)) s n (due_of e.what a) e.what (frames_in x.threads (thread t)))
        ≡ table (length s.threads) (λ t. thread_if (is_by e (thread t)) s n (due_of e.what b) e.what (frames_in x.threads (thread t)))
    t = table-same _ _ _ (λ k l. thread_due s n a b e.what (is_by e (thread k)) (frames_in x.threads (thread k)) h)

-- an accepted delay touches the timers
pub delay_timers : (s : Script) (la lb : Lanes) (st : Stand) (w : What) → SameOn s la lb (what_lanes s st w la) → delays w ≡ true → la.timers.now
    ≡ lb.timers.now
delay_timers s la lb st (Call f (Delay m a u) (Refused r)) q d = no_delay d
  where
    no_delay : {A : Type 0} → false ≡ true → A
    no_delay d = cc
delay_timers s la lb st (Call f (Delay m a u) y) q d = ap (λ (x : Timers). x.now) (timers_same s la lb q.1.0)
delay_timers s la lb st w q d = cc

-- what an event of a processor leaves of what it keeps, where it asks for the same and its lanes tell the same
pub keeps_same : (s : Script) (n : ℕ) (a b : ℕ) (e : Event) (ask1 ask2 : ℕ → Bool) (told1 told2 : ℕ → ℕ) (x : Own) → (delays e.what ≡ true → a ≡ b) →
    ((c : ℕ) → c < 16 → ask1 c ≡ ask2 c) → ((c : ℕ) → c < 16 → told1 c ≡ told2 c) → own_after_event s n (due_of e.what a) e ask1 told1 x
    ≡ own_after_event s n (due_of e.what b) e ask2 told2 x
keeps_same s n a b e ask1 ask2 told1 told2 x d f g = λ i. record {
  made = x.made + 1;
  frames = frames_due s n a b e x.frames d i;
  seen = seen_same i;
  served = served_same i;
  rested = is_rest e.what;
  took = took_after e.what x.took;
  fire = fire_after s e.what x.fire;
  sweep = sweep_after e.what x.sweep;
}
  where
    one : (c : ℕ) → c < 16 → seen_after n e.what c (ask1 c) (told1 c) (value_at x.seen c) ≡ seen_after n e.what c (ask2 c) (told2 c) (value_at x.seen c)
    one c l =
        ap (λ (q : Bool). seen_after n e.what c q (told1 c) (value_at x.seen c)) (f c l)
        ∙ ap (λ (q : ℕ). seen_after n e.what c (ask2 c) q (value_at x.seen c)) (g c l)

    seen_same : table 16 (λ c. seen_after n e.what c (ask1 c) (told1 c) (value_at x.seen c))
        ≡ table 16 (λ c. seen_after n e.what c (ask2 c) (told2 c) (value_at x.seen c))
    seen_same = table-same _ _ _ (λ c l. one c l)

    served_same : table 16 (λ c. served_after e.what c (seen_after n e.what c (ask1 c) (told1 c) (value_at x.seen c)) (value_at x.served c))
        ≡ table 16 (λ c. served_after e.what c (seen_after n e.what c (ask2 c) (told2 c) (value_at x.seen c)) (value_at x.served c))
    served_same =
        table-same _ _ _ (λ c l. ap (λ (q : ℕ). served_after e.what c q (value_at x.served c)) (one c l))
