-- An event changes the states of its own lanes only.
use Rattle.std.proofs.Common.{ap, arith, inl, inr, sym, ◌∙◌}
use Rattle.std.proofs.lemmas.Bool.{eq-eqb, eqb-true, ltb-false, ltb-true}
use Rattle.std.specs.List.{list_any}
use Rattle.std.specs.Option.{option_map_or}
use Rattle.std.specs.Prelude.{Bool, List, None, Option, Some, [], false, get_or, if◌then◌else◌, is_some, length, nat_lt, option_and_then, option_map, refl}
use Rattle.std.specs.Prelude.{slice_get, suc, true, zero, ℕ, ◌&&◌, ◌+◌, ◌<◌, ◌==◌, ◌||◌, ◌∷◌, ◌≡◌, ◌≤◌, ◌⊎◌}
use Rattle.nt_event.specs.declared.commands.ApcKind.TheVariants.{User as UserApc}
use Rattle.nt_event.specs.declared.commands.Command.TheVariants.{Acquire, Alert, CancelTimer, Clock, Delay, InsertApc, Queue, Release, RemoveApc, SetImportance}
use Rattle.nt_event.specs.declared.commands.Command.TheVariants.{SetTarget, SetTimer, StartWait, TestAlert, Unlock, Unqueue, Yield}
use Rattle.nt_event.specs.declared.commands.Refusal.{Refusal}
use Rattle.nt_event.specs.declared.commands.Reply.TheVariants.{Blocked, Done, Refused, Spin, Yes}
use Rattle.nt_event.specs.declared.commands.TimerKey.TheVariants.{Delay as OfDelay, Timer as OfTimer}
use Rattle.nt_event.specs.declared.events.Begun.TheVariants.{Apc, Dpc, Threaded}
use Rattle.nt_event.specs.declared.events.Event.{Event}
use Rattle.nt_event.specs.declared.events.What.{What}
use Rattle.nt_event.specs.declared.events.What.TheVariants.{Begin, Call, End, Expire, Fire, Flush, Free, Gone, Rest, Rewait, Switch}
use Rattle.nt_event.specs.declared.frames.Body.{Body}
use Rattle.nt_event.specs.declared.frames.Body.TheVariants.{Apc as OnApc, Base as OnBase}
use Rattle.nt_event.specs.declared.inserts.Setting.{Setting}
use Rattle.nt_event.specs.declared.inserts.Standing.{Standing}
use Rattle.nt_event.specs.declared.jobs.Lane.{Lane}
use Rattle.nt_event.specs.declared.jobs.Lane.TheVariants.{Lock as LockLane, Object as ObjectLane, Queue as QueueLane, Threads as ThreadsLane}
use Rattle.nt_event.specs.declared.jobs.Lane.TheVariants.{Timers as TimersLane}
use Rattle.nt_event.specs.declared.jobs.Stand.{Stand}
use Rattle.nt_event.specs.declared.numbers.CpuNo.{CpuNo}
use Rattle.nt_event.specs.declared.numbers.DpcNo.{DpcNo}
use Rattle.nt_event.specs.declared.numbers.ThreadNo.{ThreadNo}
use Rattle.nt_event.specs.declared.numbers.TimerNo.{TimerNo}
use Rattle.nt_event.specs.declared.scripts.Script.{Script}
use Rattle.nt_event.specs.declared.scripts.ThreadDecl.{ThreadDecl}
use Rattle.nt_event.specs.Apcs.{without_apc}
use Rattle.nt_event.specs.Frames.{time, time_after}
use Rattle.nt_event.specs.LaneStates.{OfLock, OfObject, OfQueue, OfThreads, OfTimers, content, lane_state, threads_from, told_table}
use Rattle.nt_event.specs.Lanes.{Lanes, end_lanes, facts_at, lane_if, lanes_at, object_at, same_lane, standing_lanes, touches, what_lanes}
use Rattle.nt_event.specs.Objects.{ObjectState, object_after, object_of, queue_for, start_object}
use Rattle.nt_event.specs.Queues.{QueueState, is_queue, queue_after, queue_of, start_queue}
use Rattle.nt_event.specs.Regions.{stand_at}
use Rattle.nt_event.specs.Requests.{asks, raised, told_by}
use Rattle.nt_event.specs.Routines.{cpu_of, owner_of}
use Rattle.nt_event.specs.Threads.{ThreadFacts, start_facts}
use Rattle.nt_event.specs.Timers.{Timers, blocked_after, delay_set, delay_setting, expired_delay, timer_after, timer_setting, timers_at}
use Rattle.nt_event.specs.Waits.{alert_facts, expiry_facts, facts, frame_ended, insert_facts, is_of_thread, made_facts, named_facts, new_pick, release_facts}
use Rattle.nt_event.specs.Numbers.{cpu, dpc, is_of, lock, thread, timer}
use Rattle.nt_event.specs.Replies.{is_answer}
use Rattle.nt_event.specs.Lists.{table, table_from}
use Rattle.nt_event.proofs.Options.{both}
use Rattle.nt_event.proofs.Tables.{get_or-table, table-same}
use Rattle.nt_event.specs.Locks.{Frees, Gets, LockMove, LockState, Spins, lock_move, lock_moved, lock_of, start_lock}
use Rattle.nt_event.specs.declared.numbers.LockNo.{LockNo}

-- a table read at a number after its end gives the default
pub past_table : {A : Type 0} (k n i : ℕ) (f : ℕ → A) (d : A) → n ≤ i → get_or (table_from k n f) i d ≡ d
unfolding table_from
past_table k zero i f d h = refl
past_table k (suc n) zero f d h = absurd (omega (arith, h))
past_table k (suc n) (suc i) f d h = past_table (suc k) n i f d (omega (arith, h))

-- two tables are read alike at a place where their functions agree
pub read_same : {A : Type 0} (n i : ℕ) (f g : ℕ → A) (d : A) → (i < n → f i ≡ g i) → get_or (table n f) i d ≡ get_or (table n g) i d
read_same n i f g d h = go (nat_lt i n) refl
  where
    go : (b : Bool) → nat_lt i n ≡ b → get_or (table n f) i d ≡ get_or (table n g) i d
    go true e =
        let l : i < n = ltb-true i n e in get_or-table n i f d l ∙ (h l ∙ sym (get_or-table n i g d l))
    go false e =
        let l : n ≤ i = ltb-false i n e in past_table 0 n i f d l ∙ sym (past_table 0 n i g d l)

-- where neither of two lanes is touched, the first isn't
first_false : (a b : Bool) → (a || b) ≡ false → a ≡ false
first_false false b h = refl
first_false true b h = cc

-- where neither of two lanes is touched, the second isn't
second_false : (a b : Bool) → (a || b) ≡ false → b ≡ false
second_false false b h = h
second_false true b h = cc

-- a choice between two equal values is that value
cond_same : {A : Type 0} (b : Bool) (x : A) → (if b then x else x) ≡ x
cond_same true x = refl
cond_same false x = refl

-- ---- objects

-- an event that doesn't touch a DPC object's lane leaves the object
object_untouched : (s : Script) (st : Stand) (w : What) (l : Lanes) (d : DpcNo) (n : ℕ) (o : ObjectState) →
    list_any (same_lane (ObjectLane d)) (what_lanes s st w l) ≡ false → object_after d n st.cpu w o ≡ o
object_untouched s st (Call f (SetImportance x i) Done) l d n o h = rw (first_false (x.0 == d.0) _ h)
object_untouched s st (Call f (SetTarget x t) Done) l d n o h = rw (first_false (x.0 == d.0) _ h)
object_untouched s st (Call f (Queue x) Yes) l d n o h = rw (first_false (x.0 == d.0) _ h)
object_untouched s st (Call f (Unqueue x) Yes) l d n o h = rw (first_false (x.0 == d.0) _ h)
object_untouched s st (Begin (Dpc x) from) l d n o h = rw (first_false (x.0 == d.0) _ h)
object_untouched s st (Begin (Threaded x) from) l d n o h = rw (first_false (x.0 == d.0) _ h)
object_untouched s st (Fire x Yes) l d n o h = rw (first_false (x.0 == d.0) _ h)
object_untouched s st w l d n o h = refl

-- ---- queues

-- where the queue in which an object stands isn't touched, the object stands in another queue or none
left_false : (o : Option Standing) (q : CpuNo) → list_any (same_lane (QueueLane q)) (standing_lanes o) ≡ false → is_queue (option_map (λ x. x.queue) o) q
    ≡ false
left_false None q h = refl
left_false (Some x) q h = first_false (x.queue.0 == q.0) _ h

-- an event that doesn't touch a queue's lane leaves the queue
queue_untouched : (s : Script) (st : Stand) (w : What) (l : Lanes) (q : CpuNo) (n : ℕ) (x : QueueState) →
    list_any (same_lane (QueueLane q)) (what_lanes s st w l) ≡ false → queue_after s q n st.cpu w l.objects x ≡ x
queue_untouched s st (Call f (Queue d) Yes) l q n x h =
    simp (first_false ((queue_for (object_at l d).target st.cpu).0 == q.0) _ h, cond_same)
queue_untouched s st (Call f (Unqueue d) Yes) l q n x h =
    simp (left_false (object_at l d).standing q h, cond_same)
queue_untouched s st (Begin (Dpc d) from) l q n x h = simp (first_false (st.cpu.0 == q.0) _ h)
queue_untouched s st (Begin (Threaded d) from) l q n x h = simp (first_false (st.cpu.0 == q.0) _ h)
queue_untouched s st (Fire d Yes) l q n x h =
    simp (first_false ((queue_for (object_at l d).target st.cpu).0 == q.0) _ h, cond_same)
queue_untouched s st (Switch t status) l q n x h = simp (first_false (st.cpu.0 == q.0) _ h)
queue_untouched s st Rest l q n x h = simp (first_false (st.cpu.0 == q.0) _ h)
queue_untouched s st w l q n x h = simp cond_same

-- ---- threads

-- a lane of threads that is touched
lane_clash : {A : Type 0} (b c : Bool) → (b || c) ≡ false → b ≡ true → A
lane_clash true c h e = cc
lane_clash false c h e = cc

-- an event that a thread of q makes and that leaves q's threads untouched leaves its facts
made_untouched : (s : Script) (st : Stand) (w : What) (l : Lanes) (q : CpuNo) (n : ℕ) (x : ThreadFacts) → (st.cpu.0 == q.0) ≡ true →
    list_any (same_lane (ThreadsLane q)) (what_lanes s st w l) ≡ false → made_facts s n st w x ≡ x
made_untouched s st (Switch t status) l q n x e h = lane_clash (st.cpu.0 == q.0) _ h e
made_untouched s st (Call f (StartWait m a) (Refused r)) l q n x e h = refl
made_untouched s st (Call f (StartWait m a) y) l q n x e h = lane_clash (st.cpu.0 == q.0) _ h e
made_untouched s st (Call f (Delay m a u) (Refused r)) l q n x e h = refl
made_untouched s st (Call f (Delay m a u) y) l q n x e h = lane_clash (st.cpu.0 == q.0) _ h e
made_untouched s st (Call f (TestAlert m) (Refused r)) l q n x e h = refl
made_untouched s st (Call f (TestAlert m) y) l q n x e h = lane_clash (st.cpu.0 == q.0) _ h e
made_untouched s st (Call f Yield Done) l q n x e h = lane_clash (st.cpu.0 == q.0) _ h e
made_untouched s st (Rewait f y) l q n x e h = lane_clash (st.cpu.0 == q.0) _ h e
made_untouched s st (Begin (Apc a) from) l q n x e h = lane_clash (st.cpu.0 == q.0) _ h e
made_untouched s st (Flush a from) l q n x e h = lane_clash (st.cpu.0 == q.0) _ h e
made_untouched s st (Gone t) l q n x e h = lane_clash (st.cpu.0 == q.0) _ h e
made_untouched s st (End f) l q n x e h = go st.body h
  where
    go : (b : Option Body) → list_any (same_lane (ThreadsLane q)) (end_lanes st.cpu b) ≡ false → frame_ended b x ≡ x
    go (Some (OnBase t)) k = lane_clash (st.cpu.0 == q.0) _ k e
    go (Some (OnApc a UserApc)) k = lane_clash (st.cpu.0 == q.0) _ k e
    go b k = refl
made_untouched s st w l q n x e h = refl

-- a call or expiry that names a thread touches the threads of its processor
named_clash : (s : Script) (q : CpuNo) (u t : ThreadNo) (c : Bool) → (cpu_of s t).0 ≡ q.0 → (((cpu_of s u).0 == q.0) || c) ≡ false → (u.0 == t.0) ≡ false
named_clash s q u t c e h = go (u.0 == t.0) refl
  where
    go : (b : Bool) → (u.0 == t.0) ≡ b → b ≡ false
    go false k = refl
    go true k =
        let same : (cpu_of s u).0 ≡ (cpu_of s t).0 = ap (λ (n : ℕ). (cpu_of s (record { 0 = n })).0) (eqb-true u.0 t.0 k) in
        lane_clash ((cpu_of s u).0 == q.0) c h (eq-eqb (cpu_of s u).0 q.0 (same ∙ e))

-- a choice whose condition fails is the second value
no_answer : (b : Bool) → b ≡ false → {A : Type 0} (x y : A) → (if b then x else y) ≡ y
no_answer true h x y = cc
no_answer false h x y = refl

-- a conjunction whose second part fails is false
and_false : (a b : Bool) → b ≡ false → (a && b) ≡ false
and_false true b h = h
and_false false b h = refl

-- an event that doesn't touch the threads of a processor names none of them in a way that changes its facts
named_untouched : (s : Script) (st : Stand) (w : What) (l : Lanes) (q : CpuNo) (t : ThreadNo) (n : ℕ) (x : ThreadFacts) → (cpu_of s t).0 ≡ q.0 →
    list_any (same_lane (ThreadsLane q)) (what_lanes s st w l) ≡ false → named_facts s t n w x ≡ x
named_untouched s st (Call f (Release u) (Refused r)) l q t n x e h = refl
named_untouched s st (Call f (Release u) y) l q t n x e h =
    no_answer (is_answer y && (u.0 == t.0)) (and_false (is_answer y) (u.0 == t.0) (named_clash s q u t _ e h)) (release_facts x) x
named_untouched s st (Call f (Alert u m) (Refused r)) l q t n x e h = refl
named_untouched s st (Call f (Alert u m) y) l q t n x e h =
    no_answer (is_answer y && (u.0 == t.0)) (and_false (is_answer y) (u.0 == t.0) (named_clash s q u t _ e h)) (alert_facts m x) x
named_untouched s st (Call f (InsertApc a) Yes) l q t n x e h =
    no_answer ((owner_of s a).0 == t.0) (named_clash s q (owner_of s a) t _ e h) (insert_facts (new_pick s a n) x) x
named_untouched s st (Call f (RemoveApc a) Yes) l q t n x e h =
    no_answer ((owner_of s a).0 == t.0) (named_clash s q (owner_of s a) t _ e h) (record x { apcs = without_apc a x.apcs }) x
named_untouched s st (Expire (OfDelay u) from) l q t n x e h =
    no_answer (u.0 == t.0) (named_clash s q u t _ e h) (expiry_facts from x) x
named_untouched s st w l q t n x e h = refl

-- an event that doesn't touch the threads of a processor leaves the facts of each of them
facts_untouched : (s : Script) (q : CpuNo) (t : ThreadNo) (e : Event) (past : List Event) → (cpu_of s t).0 ≡ q.0 → touches s (ThreadsLane q) e past ≡ false →
    facts s t (e ∷ past) ≡ facts s t past
facts_untouched s q t e past own h =
    ap (named_facts s t (length past) e.what) (go (is_of_thread s t e) refl)
    ∙ named_untouched s (stand_at s e.cpu past) e.what (lanes_at s past) q t (length past) (facts s t past) own h
  where
    go : (b : Bool) → is_of_thread s t e ≡ b → (if b then made_facts s (length past) (stand_at s e.cpu past) e.what (facts s t past) else facts s t past)
        ≡ facts s t past
    go false k = refl
    go true k =
        let here : e.cpu.0 ≡ (cpu_of s t).0 = eqb-true e.cpu.0 (cpu_of s t).0 (both (is_of e (cpu_of s t)) _ k).0 in
        made_untouched s (stand_at s e.cpu past) e.what (lanes_at s past) q (length past) (facts s t past) (eq-eqb e.cpu.0 q.0 (here ∙ own)) h

-- the threads of a processor, one by one
pub threads_same : (s : Script) (p : CpuNo) (n : ℕ) (xs : List ThreadDecl) (l m : Lanes) → ((i : ℕ) → slice_get s.threads (n + i) ≡ slice_get xs i) →
    ((t : ThreadNo) → (cpu_of s t).0 ≡ p.0 → facts_at l t ≡ facts_at m t) → threads_from p n xs l ≡ threads_from p n xs m
threads_same s p n [] l m h k = refl
threads_same s p n (x ∷ xs) l m h k =
    go (x.cpu.0 == p.0) refl (threads_same s p (suc n) xs l m next k)
  where
    next : (i : ℕ) → slice_get s.threads (suc n + i) ≡ slice_get xs i
    next i = let e : suc n + i ≡ n + suc i = omega arith in rw e (h (suc i))

    here : slice_get s.threads n ≡ Some x
    here = let e : n + 0 ≡ n = omega arith in rw e at (h 0)

    go : (b : Bool) → (x.cpu.0 == p.0) ≡ b → threads_from p (suc n) xs l ≡ threads_from p (suc n) xs m →
        (if b then (facts_at l (thread n) ∷ threads_from p (suc n) xs l) else threads_from p (suc n) xs l)
        ≡ (if b then (facts_at m (thread n) ∷ threads_from p (suc n) xs m) else threads_from p (suc n) xs m)
    go false e more = more
    go true e more =
        let own : cpu_of s (thread n) ≡ x.cpu = ap (λ (o : Option ThreadDecl). option_map_or (λ (y : ThreadDecl). y.cpu) o (cpu 0)) here in
        let same : facts_at l (thread n) ≡ facts_at m (thread n) = k (thread n) (ap (λ (c : CpuNo). c.0) own ∙ eqb-true x.cpu.0 p.0 e) in
        cc

-- ---- timers

-- an event that doesn't touch the timers' lane leaves the time
time_untouched : (s : Script) (st : Stand) (w : What) (l : Lanes) (now : ℕ) → list_any (same_lane TimersLane) (what_lanes s st w l) ≡ false → time_after w now
    ≡ now
time_untouched s st (Call f (Clock u) Done) l now h = cc
time_untouched s st w l now h = refl

-- a refusal answers nothing
answer_refused : (r : Refusal) → is_answer (Refused r) ≡ false
answer_refused r = refl

-- an event that doesn't touch the timers' lane leaves the setting of each timer
timer_untouched : (s : Script) (st : Stand) (w : What) (l : Lanes) (t : TimerNo) (n now : ℕ) (old : Option Setting) →
    list_any (same_lane TimersLane) (what_lanes s st w l) ≡ false → timer_after t n now w old ≡ old
timer_untouched s st (Call f (SetTimer x due period) (Refused r)) l t n now old h = refl
timer_untouched s st (Call f (SetTimer x due period) y) l t n now old h = cc
timer_untouched s st (Call f (CancelTimer x) Yes) l t n now old h = cc
timer_untouched s st (Expire (OfTimer x) from) l t n now old h = cc
timer_untouched s st w l t n now old h = refl

-- a delay that is set touches the timers
set_untouched : (o : Option ℕ) (n : ℕ) (old : Option Setting) → is_some o ≡ false → delay_set n o old ≡ old
set_untouched None n old h = refl
set_untouched (Some d) n old h = cc

-- where a lane touched only under a condition isn't touched, the condition fails
lane_if_false : (b : Bool) (more : Bool) → (more || list_any (same_lane TimersLane) (lane_if b TimersLane)) ≡ false → b ≡ false
lane_if_false true true h = cc
lane_if_false true false h = cc
lane_if_false false more h = refl

-- an event that doesn't touch the timers' lane sets no delay of the thread that makes it
blocked_untouched : (s : Script) (st : Stand) (w : What) (l : Lanes) (n now : ℕ) (old : Option Setting) → list_any (same_lane TimersLane) (what_lanes s st w l)
    ≡ false → blocked_after n now st.again w old ≡ old
blocked_untouched s st (Call f (Delay m a u) Blocked) l n now old h = cc
blocked_untouched s st (Rewait f Blocked) l n now old h =
    set_untouched (option_and_then (λ w. w.due) st.again) n old (lane_if_false (is_some (option_and_then (λ w. w.due) st.again)) false h)
blocked_untouched s st w l n now old h = refl

-- an event that doesn't touch the timers' lane ends no thread's delay by expiry
expired_untouched : (s : Script) (st : Stand) (w : What) (l : Lanes) (t : ThreadNo) (old : Option Setting) →
    list_any (same_lane TimersLane) (what_lanes s st w l) ≡ false → expired_delay t w old ≡ old
expired_untouched s st (Expire (OfDelay u) from) l t old h = cc
expired_untouched s st w l t old h = refl

-- an event that doesn't touch the timers' lane leaves the delay of each thread
delay_untouched : (s : Script) (t : ThreadNo) (e : Event) (past : List Event) → touches s TimersLane e past ≡ false → delay_setting s t (e ∷ past)
    ≡ delay_setting s t past
delay_untouched s t e past h =
    ap (expired_delay t e.what) (go (is_of_thread s t e)) ∙ expired_untouched s (stand_at s e.cpu past) e.what (lanes_at s past) t (delay_setting s t past) h
  where
    go : (b : Bool) → (if b then blocked_after (length past) (time past) (stand_at s e.cpu past).again e.what (delay_setting s t past)
        else delay_setting s t past) ≡ delay_setting s t past
    go true =
        blocked_untouched s (stand_at s e.cpu past) e.what (lanes_at s past) (length past) (time past) (delay_setting s t past) h
    go false = refl

-- an event that doesn't touch the timers' lane leaves the time, the timers and the delays
timers_untouched : (s : Script) (e : Event) (past : List Event) → touches s TimersLane e past ≡ false → timers_at s (e ∷ past) ≡ timers_at s past
timers_untouched s e past h = λ i. record { now = n i; timers = t i; delays = d i }
  where
    n : time (e ∷ past) ≡ time past
    n = time_untouched s (stand_at s e.cpu past) e.what (lanes_at s past) (time past) h

    t : table (length s.timers) (λ t. timer_setting (timer t) (e ∷ past)) ≡ table (length s.timers) (λ t. timer_setting (timer t) past)
    t = table-same _ _ _ (λ k l. timer_untouched s (stand_at s e.cpu past) e.what (lanes_at s past) (timer k) (length past) (time past)
        (timer_setting (timer k) past) h)

    d : table (length s.threads) (λ t. delay_setting s (thread t) (e ∷ past)) ≡ table (length s.threads) (λ t. delay_setting s (thread t) past)
    d = table-same _ _ _ (λ k l. delay_untouched s (thread k) e past h)

-- ---- spin locks

-- a move of another lock leaves the lock
lock_other : (s : Script) (k : LockNo) (p : CpuNo) (m : LockMove) (x : LockNo) (old : LockState) → ((x.0 == k.0) || false) ≡ false →
    (m ≡ Gets x) ⊎ ((m ≡ Spins x) ⊎ (m ≡ Frees x)) → lock_moved s k p m old ≡ old
lock_other s k p m x old h (inl e) = let n : (x.0 == k.0) ≡ false = first_false _ false h in rw (e, n) refl
lock_other s k p m x old h (inr (inl e)) = let n : (x.0 == k.0) ≡ false = first_false _ false h in rw (e, n) refl
lock_other s k p m x old h (inr (inr e)) = let n : (x.0 == k.0) ≡ false = first_false _ false h in rw (e, n) refl

-- an event that doesn't touch a lock's lane leaves the lock
lock_untouched : (s : Script) (st : Stand) (w : What) (l : Lanes) (k : LockNo) (p : CpuNo) (old : LockState) →
    list_any (same_lane (LockLane k)) (what_lanes s st w l) ≡ false → lock_moved s k p (lock_move w) old ≡ old
lock_untouched s st (Call f (Acquire x) Done) l k p old h = lock_other s k p (Gets x) x old h (inl refl)
lock_untouched s st (Call f (Acquire x) Spin) l k p old h = lock_other s k p (Spins x) x old h (inr (inl refl))
lock_untouched s st (Call f (Unlock x) Done) l k p old h = lock_other s k p (Frees x) x old h (inr (inr refl))
lock_untouched s st (Free f x) l k p old h = lock_other s k p (Frees x) x old h (inr (inr refl))
lock_untouched s st w l k p old h = refl

-- ---- a lane's state

-- an event that doesn't touch a lane leaves its content
content_untouched : (s : Script) (x : Lane) (e : Event) (past : List Event) → touches s x e past ≡ false → content s (lanes_at s (e ∷ past)) x
    ≡ content s (lanes_at s past) x
content_untouched s (ObjectLane d) e past h =
    ap (λ (o : ObjectState). OfObject o) (read_same (length s.dpcs) d.0 (λ d. object_of (dpc d) (e ∷ past)) (λ d. object_of (dpc d) past) start_object
    (λ l. object_untouched s (stand_at s e.cpu past) e.what (lanes_at s past) d (length past) (object_of d past) h))
content_untouched s (QueueLane p) e past h =
    ap (λ (q : QueueState). OfQueue q) (read_same s.cpus p.0 (λ p. queue_of s (cpu p) (e ∷ past)) (λ p. queue_of s (cpu p) past) start_queue
    (λ l. queue_untouched s (stand_at s e.cpu past) e.what (lanes_at s past) p (length past) (queue_of s p past) h))
content_untouched s (ThreadsLane p) e past h =
    ap (λ (xs : List ThreadFacts). OfThreads xs) (threads_same s p 0 s.threads (lanes_at s (e ∷ past)) (lanes_at s past)
    (λ i. let z : 0 + i ≡ i = omega arith in rw z refl)
    (λ t own. read_same (length s.threads) t.0 (λ t. facts s (thread t) (e ∷ past)) (λ t. facts s (thread t) past) start_facts
    (λ l. facts_untouched s p t e past own h)))
content_untouched s TimersLane e past h = ap (λ (x : Timers). OfTimers x) (timers_untouched s e past h)
content_untouched s (LockLane k) e past h =
    ap (λ (x : LockState). OfLock x) (read_same s.locks k.0 (λ k. lock_of s (lock k) (e ∷ past)) (λ k. lock_of s (lock k) past) start_lock
    (λ l. lock_untouched s (stand_at s e.cpu past) e.what (lanes_at s past) k e.cpu (lock_of s k past) h))

-- an event that doesn't touch a lane leaves what the lane tells of requests
told_untouched : (s : Script) (x : Lane) (e : Event) (past : List Event) (p : CpuNo) (c : ℕ) → touches s x e past ≡ false → told_by s x p c (e ∷ past)
    ≡ told_by s x p c past
told_untouched s x e past p c h =
    ap (λ (b : Bool). raised (b && asks s p c e past) (length past) (told_by s x p c past)) h

-- an event that doesn't touch a lane leaves its state as it was
pub untouched : (s : Script) (x : Lane) (e : Event) (past : List Event) → touches s x e past ≡ false → lane_state s x (e ∷ past) ≡ lane_state s x past
untouched s x e past h =
    λ i. record { content = content_untouched s x e past h i; told = t i }
  where
    t : told_table s x (e ∷ past) ≡ told_table s x past
    t = table-same _ _ _ (λ p l. table-same _ _ _ (λ c m. told_untouched s x e past (cpu p) c h))
