-- An event that touches no lane leaves the states of the lanes.
use Rattle.std.proofs.Common.{ap, ◌∙◌}
use Rattle.std.specs.Prelude.{Bool, List, None, Option, Some, false, if◌then◌else◌, length, refl, true, ℕ, ◌==◌, ◌≡◌}
use Rattle.nt_event.specs.declared.commands.ApcKind.TheVariants.{User as UserApc}
use Rattle.nt_event.specs.declared.commands.Command.TheVariants.{Acquire, Alert, CancelTimer, Clock, Delay, InsertApc, Queue, Release, RemoveApc, SetImportance}
use Rattle.nt_event.specs.declared.commands.Command.TheVariants.{SetTarget, SetTimer, StartWait, TestAlert, Unlock, Unqueue, Yield}
use Rattle.nt_event.specs.declared.commands.Importance.{Importance}
use Rattle.nt_event.specs.declared.commands.Reply.TheVariants.{Blocked, Done, No, Spin, Status, Yes}
use Rattle.nt_event.specs.declared.commands.TimerKey.TheVariants.{Delay as OfDelay, Timer as OfTimer}
use Rattle.nt_event.specs.declared.events.Begun.TheVariants.{Apc, Dpc, Threaded}
use Rattle.nt_event.specs.declared.events.Event.{Event}
use Rattle.nt_event.specs.declared.events.What.{What}
use Rattle.nt_event.specs.declared.events.What.TheVariants.{Begin, Call, End, Expire, Fire, Flush, Free, Gone, Rest, Rewait, Switch}
use Rattle.nt_event.specs.declared.frames.Again.{Again}
use Rattle.nt_event.specs.declared.frames.Body.{Body}
use Rattle.nt_event.specs.declared.frames.Body.TheVariants.{Apc as OnApc, Base as OnBase}
use Rattle.nt_event.specs.declared.inserts.Setting.{Setting}
use Rattle.nt_event.specs.declared.jobs.Stand.{Stand}
use Rattle.nt_event.specs.declared.numbers.CpuNo.{CpuNo}
use Rattle.nt_event.specs.declared.numbers.DpcNo.{DpcNo}
use Rattle.nt_event.specs.declared.numbers.LockNo.{LockNo}
use Rattle.nt_event.specs.declared.numbers.ThreadNo.{ThreadNo}
use Rattle.nt_event.specs.declared.numbers.TimerNo.{TimerNo}
use Rattle.nt_event.specs.declared.scripts.Script.{Script}
use Rattle.nt_event.specs.Frames.{time_after}
use Rattle.nt_event.specs.Lanes.{Lanes, facts_at, lanes_after, lock_at, object_at, queue_at}
use Rattle.nt_event.specs.Locks.{LockMove, LockState, NoMove, lock_after, lock_move, lock_moved, start_lock}
use Rattle.nt_event.specs.Objects.{ObjectState, importance_after, inserted_dpc, object_after, start_object, target_after, used_up_dpc}
use Rattle.nt_event.specs.Queues.{QueueState, idle_after, queue_after, start_queue}
use Rattle.nt_event.specs.Threads.{ThreadFacts, start_facts}
use Rattle.nt_event.specs.Timers.{blocked_after, delay_after, expired_delay, setting_in, timer_after}
use Rattle.nt_event.specs.Waits.{facts_after, frame_ended, is_of_thread, made_facts, named_facts}
use Rattle.nt_event.specs.Numbers.{cpu, dpc, lock, thread, timer}
use Rattle.nt_event.specs.Lists.{table}
use Rattle.nt_event.proofs.Tables.{table-self}
use Rattle.nt_cpu.specs.Alone.{ends_alone, is_alone}
use Rattle.nt_cpu.specs.Turns.{HaveStates}

-- ---- one question after another

-- an event that touches no lane leaves each object's importance
keeps_importance : (b : Option Body) (w : What) (d : DpcNo) (x : Importance) → is_alone b w ≡ true → importance_after d w x ≡ x
keeps_importance b (Call f (SetImportance y i) Done) d x h = absurd cc
keeps_importance b _ d x h = refl

-- an event that touches no lane leaves each object's target
keeps_target : (b : Option Body) (w : What) (d : DpcNo) (x : Option CpuNo) → is_alone b w ≡ true → target_after d w x ≡ x
keeps_target b (Call f (SetTarget y t) Done) d x h = absurd cc
keeps_target b _ d x h = refl

-- an event that touches no lane inserts no DPC
inserts_none : (b : Option Body) (w : What) → is_alone b w ≡ true → inserted_dpc w ≡ None
inserts_none b (Call f (Queue d) Yes) h = absurd cc
inserts_none b (Fire d Yes) h = absurd cc
inserts_none b _ h = refl

-- an event that touches no lane uses up no DPC
uses_none : (b : Option Body) (w : What) → is_alone b w ≡ true → used_up_dpc w ≡ None
uses_none b (Begin (Dpc d) from) h = absurd cc
uses_none b (Begin (Threaded d) from) h = absurd cc
uses_none b (Call f (Unqueue d) Yes) h = absurd cc
uses_none b _ h = refl

-- an event that touches no lane leaves the idle flag
keeps_idle : (b : Option Body) (w : What) (x : Bool) → is_alone b w ≡ true → idle_after w x ≡ x
keeps_idle b Rest x h = absurd cc
keeps_idle b (Switch t st) x h = absurd cc
keeps_idle b _ x h = refl

-- an event that touches no lane leaves the time
keeps_time : (b : Option Body) (w : What) (x : ℕ) → is_alone b w ≡ true → time_after w x ≡ x
keeps_time b (Call f (Clock u) Done) x h = absurd cc
keeps_time b _ x h = refl

-- an event that touches no lane leaves each timer's setting
keeps_timer : (b : Option Body) (w : What) (t : TimerNo) (n now : ℕ) (x : Option Setting) → is_alone b w ≡ true → timer_after t n now w x ≡ x
keeps_timer b (Call f (SetTimer y due period) Yes) t n now x h = absurd cc
keeps_timer b (Call f (SetTimer y due period) No) t n now x h = absurd cc
keeps_timer b (Call f (CancelTimer y) Yes) t n now x h = absurd cc
keeps_timer b (Expire (OfTimer y) from) t n now x h = absurd cc
keeps_timer b _ t n now x h = refl

-- an event that touches no lane leaves the due time that a blocked delay would leave
keeps_delay : (b : Option Body) (w : What) (n now : ℕ) (again : Option Again) (x : Option Setting) → is_alone b w ≡ true → blocked_after n now again w x ≡ x
keeps_delay b (Call f (Delay m a u) Blocked) n now again x h = absurd cc
keeps_delay b (Rewait f Blocked) n now again x h = absurd cc
keeps_delay b _ n now again x h = refl

-- an event that touches no lane expires no delay
expires_none : (b : Option Body) (w : What) (t : ThreadNo) (x : Option Setting) → is_alone b w ≡ true → expired_delay t w x ≡ x
expires_none b (Expire (OfDelay u) from) t x h = absurd cc
expires_none b _ t x h = refl

-- the end of a frame that ends alone leaves the thread's state
ends_none : (b : Option Body) (x : ThreadFacts) → ends_alone b ≡ true → frame_ended b x ≡ x
ends_none (Some (OnBase t)) x h = absurd cc
ends_none (Some (OnApc a UserApc)) x h = absurd cc
ends_none _ x h = refl

-- an event that touches no lane leaves its maker's state
makes_none : (s : Script) (n : ℕ) (st : Stand) (w : What) (x : ThreadFacts) → is_alone st.body w ≡ true → made_facts s n st w x ≡ x
makes_none s n st (Switch t status) x h = absurd cc
makes_none s n st (Call f (StartWait m a) (Status v)) x h = absurd cc
makes_none s n st (Call f (StartWait m a) Blocked) x h = absurd cc
makes_none s n st (Call f (Delay m a u) (Status v)) x h = absurd cc
makes_none s n st (Call f (Delay m a u) Blocked) x h = absurd cc
makes_none s n st (Rewait f y) x h = absurd cc
makes_none s n st (Call f (TestAlert m) Yes) x h = absurd cc
makes_none s n st (Call f (TestAlert m) No) x h = absurd cc
makes_none s n st (Call f Yield Done) x h = absurd cc
makes_none s n st (Begin (Apc a) from) x h = absurd cc
makes_none s n st (End f) x h = ends_none st.body x h
makes_none s n st (Flush a from) x h = absurd cc
makes_none s n st (Gone t) x h = absurd cc
makes_none s n st _ x h = refl

-- an event that touches no lane leaves the state of the thread that it names
names_none : (b : Option Body) (s : Script) (t : ThreadNo) (n : ℕ) (w : What) (x : ThreadFacts) → is_alone b w ≡ true → named_facts s t n w x ≡ x
names_none b s t n (Call f (Release u) Yes) x h = absurd cc
names_none b s t n (Call f (Release u) No) x h = absurd cc
names_none b s t n (Call f (Alert u m) Yes) x h = absurd cc
names_none b s t n (Call f (Alert u m) No) x h = absurd cc
names_none b s t n (Call f (InsertApc a) Yes) x h = absurd cc
names_none b s t n (Call f (RemoveApc a) Yes) x h = absurd cc
names_none b s t n (Expire (OfDelay u) from) x h = absurd cc
names_none b s t n _ x h = refl

-- ---- lane after lane

-- an event that touches no lane leaves each DPC object
object_kept : (b : Option Body) (d : DpcNo) (n : ℕ) (p : CpuNo) (w : What) (x : ObjectState) → is_alone b w ≡ true → object_after d n p w x ≡ x
object_kept b d n p w x h =
    λ i. record { importance = keeps_importance b w d x.importance h i; target = keeps_target b w d x.target h i; standing = s i }
  where
    s : (object_after d n p w x).standing ≡ x.standing
    s = rw (inserts_none b w h, uses_none b w h) refl

-- an event that touches no lane leaves each DPC queue
queue_kept : (b : Option Body) (s : Script) (q : CpuNo) (n : ℕ) (p : CpuNo) (w : What) (objects : List ObjectState) (x : QueueState) → is_alone b w ≡ true →
    queue_after s q n p w objects x ≡ x
queue_kept b s q n p w objects x h =
    λ i. record { pending = k i; idle = m (p.0 == q.0) i }
  where
    k : (queue_after s q n p w objects x).pending ≡ x.pending
    k = rw (inserts_none b w h, uses_none b w h) refl

    m : (t : Bool) → (if t then idle_after w x.idle else x.idle) ≡ x.idle
    m true = keeps_idle b w x.idle h
    m false = refl

-- an event that touches no lane leaves each thread's state
facts_kept : (s : Script) (t : ThreadNo) (n : ℕ) (st : Stand) (e : Event) (x : ThreadFacts) → is_alone st.body e.what ≡ true → facts_after s t n st e x ≡ x
facts_kept s t n st e x h =
    names_none st.body s t n e.what (if is_of_thread s t e then made_facts s n st e.what x else x) h
    ∙ m (is_of_thread s t e)
  where
    m : (b : Bool) → (if b then made_facts s n st e.what x else x) ≡ x
    m true = makes_none s n st e.what x h
    m false = refl

-- an event that touches no lane leaves each thread's delay
delay_kept : (s : Script) (t : ThreadNo) (n now : ℕ) (st : Stand) (e : Event) (x : Option Setting) → is_alone st.body e.what ≡ true →
    delay_after s t n now st.again e x ≡ x
delay_kept s t n now st e x h =
    expires_none st.body e.what t (if is_of_thread s t e then blocked_after n now st.again e.what x else x) h
    ∙ m (is_of_thread s t e)
  where
    m : (b : Bool) → (if b then blocked_after n now st.again e.what x else x) ≡ x
    m true = keeps_delay st.body e.what n now st.again x h
    m false = refl

-- an event that touches no lane moves no lock
no_move : (b : Option Body) (w : What) → is_alone b w ≡ true → lock_move w ≡ NoMove
no_move b (Call f (Acquire k) Done) h = absurd cc
no_move b (Call f (Acquire k) Spin) h = absurd cc
no_move b (Call f (Unlock k) Done) h = absurd cc
no_move b (Free f k) h = absurd cc
no_move b _ h = refl

-- an event that touches no lane leaves each lock
lock_kept : (b : Option Body) (s : Script) (k : LockNo) (e : Event) (x : LockState) → is_alone b e.what ≡ true → lock_after s k e x ≡ x
lock_kept b s k e x h = ap (λ (m : LockMove). lock_moved s k e.cpu m x) (no_move b e.what h)

-- an event that touches no lane leaves the states of all lanes
pub lanes_kept : (s : Script) (n : ℕ) (st : Stand) (e : Event) (l : Lanes) → HaveStates s l → is_alone st.body e.what ≡ true → lanes_after s n st e l ≡ l
lanes_kept s n st e l a h = λ i. record {
  objects = o i;
  queues = q i;
  threads = t i;
  timers = record { now = keeps_time st.body e.what l.timers.now h i; timers = k i; delays = d i };
  locks = m i;
}
  where
    o : table (length s.dpcs) (λ d. object_after (dpc d) n e.cpu e.what (object_at l (dpc d))) ≡ l.objects
    o =
        table-self start_object (length s.dpcs) l.objects _ a.objects (λ i b. object_kept st.body (dpc i) n e.cpu e.what (object_at l (dpc i)) h)

    q : table s.cpus (λ p. queue_after s (cpu p) n e.cpu e.what l.objects (queue_at l (cpu p))) ≡ l.queues
    q =
        table-self start_queue s.cpus l.queues _ a.queues (λ i b. queue_kept st.body s (cpu i) n e.cpu e.what l.objects (queue_at l (cpu i)) h)

    t : table (length s.threads) (λ t. facts_after s (thread t) n st e (facts_at l (thread t))) ≡ l.threads
    t =
        table-self start_facts (length s.threads) l.threads _ a.threads (λ i b. facts_kept s (thread i) n st e (facts_at l (thread i)) h)

    m : table s.locks (λ k. lock_after s (lock k) e (lock_at l (lock k))) ≡ l.locks
    m =
        table-self start_lock s.locks l.locks _ a.locks (λ i b. lock_kept st.body s (lock i) e (lock_at l (lock i)) h)

    k : table (length s.timers) (λ t. timer_after (timer t) n l.timers.now e.what (setting_in l.timers.timers t)) ≡ l.timers.timers
    k =
        table-self None (length s.timers) l.timers.timers _ a.timers
        (λ i b. keeps_timer st.body e.what (timer i) n l.timers.now (setting_in l.timers.timers i) h)

    d : table (length s.threads) (λ t. delay_after s (thread t) n l.timers.now st.again e (setting_in l.timers.delays t)) ≡ l.timers.delays
    d =
        table-self None (length s.threads) l.timers.delays _ a.delays (λ i b. delay_kept s (thread i) n l.timers.now st e (setting_in l.timers.delays i) h)
