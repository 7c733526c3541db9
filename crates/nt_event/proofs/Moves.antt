-- What a processor keeps, and the states of the lanes, move as the history does.
use Rattle.std.proofs.Common.{ap, sym, ◌∙◌}
use Rattle.std.specs.Prelude.{Bool, List, None, [], false, if◌then◌else◌, length, refl, true, ℕ, ◌+◌, ◌∷◌, ◌≡◌}
use Rattle.nt_event.specs.declared.events.Event.{Event}
use Rattle.nt_event.specs.declared.numbers.CpuNo.{CpuNo}
use Rattle.nt_event.specs.declared.scripts.Script.{Script}
use Rattle.nt_event.specs.Frames.{due_of, frames_after, frames_in, frames_of, own_after, own_frames, running, running_after, thread_frames, thread_if, time}
use Rattle.nt_event.specs.Frames.{time_after}
use Rattle.nt_event.specs.Lanes.{facts_at, lanes_after, lanes_at, lock_at, queue_at}
use Rattle.nt_event.specs.Locks.{lock_after, lock_of, start_lock}
use Rattle.nt_event.specs.Objects.{object_after, object_in, object_of, objects_at, start_object}
use Rattle.nt_event.specs.Own.{fire, fire_after, is_rest, made, own_after_event, own_of, rested, took, took_after}
use Rattle.nt_event.specs.Queues.{queue_after, queue_of, start_queue}
use Rattle.nt_event.specs.Regions.{owes_sweep, stand_at, sweep_after}
use Rattle.nt_event.specs.Requests.{asks, seen, seen_after, served, served_after, told}
use Rattle.nt_event.specs.Threads.{start_facts}
use Rattle.nt_event.specs.Timers.{delay_after, delay_setting, setting_in, timer_after, timer_setting, timers_after, timers_at}
use Rattle.nt_event.specs.Waits.{facts, facts_after}
use Rattle.nt_event.specs.Numbers.{cpu, dpc, is_by, is_of, lock, thread, timer}
use Rattle.nt_event.specs.Lists.{table, value_at}
use Rattle.nt_event.proofs.Tables.{get_or-table, table-same}

-- ---- lanes

-- after one more event the DPC objects are what the event makes of those before
pub object_moves : (s : Script) (e : Event) (past : List Event) → objects_at s (e ∷ past)
    ≡ table (length s.dpcs) (λ d. object_after (dpc d) (length past) e.cpu e.what (object_in (objects_at s past) (dpc d)))
object_moves s e past =
    table-same _ _ _ (λ d h. ap (object_after (dpc d) (length past) e.cpu e.what) (sym (get_or-table _ d (λ d. object_of (dpc d) past) start_object h)))

-- after one more event the DPC queues of all processors are what the event makes of those before
pub queue_moves : (s : Script) (e : Event) (past : List Event) → table s.cpus (λ p. queue_of s (cpu p) (e ∷ past))
    ≡ table s.cpus (λ p. queue_after s (cpu p) (length past) e.cpu e.what (objects_at s past) (queue_at (lanes_at s past) (cpu p)))
queue_moves s e past =
    table-same _ _ _ (λ p h. ap (queue_after s (cpu p) (length past) e.cpu e.what (objects_at s past))
    (sym (get_or-table _ p (λ p. queue_of s (cpu p) past) start_queue h)))

-- after one more event the facts of all threads are what the event makes of those before
pub thread_moves : (s : Script) (e : Event) (past : List Event) → table (length s.threads) (λ t. facts s (thread t) (e ∷ past))
    ≡ table (length s.threads) (λ t. facts_after s (thread t) (length past) (stand_at s e.cpu past) e (facts_at (lanes_at s past) (thread t)))
thread_moves s e past =
    table-same _ _ _ (λ t h. ap (facts_after s (thread t) (length past) (stand_at s e.cpu past) e)
    (sym (get_or-table _ t (λ t. facts s (thread t) past) start_facts h)))

-- after one more event the timers and the time are what the event makes of those before
pub timers_move : (s : Script) (e : Event) (past : List Event) → timers_at s (e ∷ past)
    ≡ timers_after s (length past) (stand_at s e.cpu past) e (timers_at s past)
timers_move s e past =
    let t : table (length s.timers) (λ t. timer_setting (timer t) (e ∷ past))
    ≡ table (length s.timers) (λ t. timer_after (timer t) (length past) (time past) e.what (setting_in (timers_at s past).timers t)) = table-same _ _ _
    (λ t h. ap (timer_after (timer t) (length past) (time past) e.what) (sym (get_or-table _ t (λ t. timer_setting (timer t) past) None h))) in
    let d : table (length s.threads) (λ t. delay_setting s (thread t) (e ∷ past))
    ≡ table (length s.threads) (λ t. delay_after s (thread t) (length past) (time past) (stand_at s e.cpu past).again e
    (setting_in (timers_at s past).delays t)) = table-same _ _ _
    (λ t h. ap (delay_after s (thread t) (length past) (time past) (stand_at s e.cpu past).again e)
    (sym (get_or-table _ t (λ t. delay_setting s (thread t) past) None h))) in
    λ i. record { now = time_after e.what (time past); timers = t i; delays = d i }

-- after one more event the spin locks are what the event makes of those before
pub lock_moves : (s : Script) (e : Event) (past : List Event) → table s.locks (λ k. lock_of s (lock k) (e ∷ past))
    ≡ table s.locks (λ k. lock_after s (lock k) e (lock_at (lanes_at s past) (lock k)))
lock_moves s e past =
    table-same _ _ _ (λ k h. ap (lock_after s (lock k) e) (sym (get_or-table _ k (λ k. lock_of s (lock k) past) start_lock h)))

-- after one more event the states of all lanes are what the event makes of those before
pub lanes_move : (s : Script) (e : Event) (past : List Event) → lanes_at s (e ∷ past) ≡ lanes_after s (length past) (stand_at s e.cpu past) e (lanes_at s past)
lanes_move s e past =
    λ i. record {
      objects = object_moves s e past i;
      queues = queue_moves s e past i;
      threads = thread_moves s e past i;
      timers = timers_move s e past i;
      locks = lock_moves s e past i;
    }

-- ---- a processor

-- an event of a processor moves this processor's frames by the rule for one event
pub frames_move : (s : Script) (p : CpuNo) (e : Event) (past : List Event) → is_of e p ≡ true → frames_of s p (e ∷ past)
    ≡ frames_after s (length past) (due_of e.what (time past)) e (frames_of s p past)
frames_move s p e past h =
    λ i. record { own = f i; running = r i; threads = t i }
  where
    f : own_frames p (e ∷ past) ≡ own_after (length past) (due_of e.what (time past)) e.what (own_frames p past)
    f = rw h

    r : running p (e ∷ past) ≡ running_after e.what (running p past)
    r = rw h

    t : table (length s.threads) (λ t. thread_frames s p (thread t) (e ∷ past))
        ≡ table (length s.threads) (λ t. thread_if (is_by e (thread t)) s (length past) (due_of e.what (time past)) e.what
        (frames_in (frames_of s p past).threads (thread t)))
    t = simp h (table-same _ _ _ (λ t l. ap (thread_if (is_by e (thread t)) s (length past) (due_of e.what (time past)) e.what)
        (sym (get_or-table _ t (λ t. thread_frames s p (thread t) past) [] l))))

-- an event of another processor leaves a processor's frames as they were
pub frames_stay : (s : Script) (p : CpuNo) (e : Event) (past : List Event) → is_of e p ≡ false → frames_of s p (e ∷ past) ≡ frames_of s p past
frames_stay s p e past h = simp h

-- an event of another processor leaves all that a processor keeps of its own as it was
pub own_stays : (s : Script) (p : CpuNo) (e : Event) (past : List Event) → is_of e p ≡ false → own_of s p (e ∷ past) ≡ own_of s p past
own_stays s p e past h = simp h

-- an event of a processor moves what this processor keeps of its own by the rule for one event
pub own_moves_here : (s : Script) (p : CpuNo) (e : Event) (past : List Event) → is_of e p ≡ true → own_of s p (e ∷ past)
    ≡ own_after_event s (length past) (due_of e.what (time past)) e (λ c. asks s p c e past) (λ c. told s p c e past) (own_of s p past)
own_moves_here s p e past h = λ i. record {
  made = m i;
  frames = frames_move s p e past h i;
  seen = n i;
  served = v i;
  rested = d i;
  took = k i;
  fire = f i;
  sweep = w i;
}
  where
    m : made p (e ∷ past) ≡ made p past + 1
    m = rw h

    seen_here : (c : ℕ) → seen s p c (e ∷ past) ≡ seen_after (length past) e.what c (asks s p c e past) (told s p c e past) (seen s p c past)
    seen_here c = rw h

    n : table 16 (λ c. seen s p c (e ∷ past)) ≡ table 16
        (λ c. seen_after (length past) e.what c (asks s p c e past) (told s p c e past) (value_at (own_of s p past).seen c))
    n = table-same _ _ _ (λ c l. seen_here c ∙ ap (seen_after (length past) e.what c (asks s p c e past) (told s p c e past))
        (sym (get_or-table 16 c (λ c. seen s p c past) 0 l)))

    served_here : (c : ℕ) → served s p c (e ∷ past) ≡ served_after e.what c (seen s p c (e ∷ past)) (served s p c past)
    served_here c = rw h

    v : table 16 (λ c. served s p c (e ∷ past)) ≡ table 16
        (λ c. served_after e.what c (seen_after (length past) e.what c (asks s p c e past) (told s p c e past) (value_at (own_of s p past).seen c))
        (value_at (own_of s p past).served c))
    v = table-same _ _ _ (λ c l. served_here c ∙ (ap (λ (x : ℕ). served_after e.what c x (served s p c past)) (seen_here c)
        ∙ rw (get_or-table 16 c (λ c. seen s p c past) 0 l, get_or-table 16 c (λ c. served s p c past) 0 l)))

    d : rested p (e ∷ past) ≡ is_rest e.what
    d = rw h

    k : took p (e ∷ past) ≡ took_after e.what (took p past)
    k = rw h

    f : fire s p (e ∷ past) ≡ fire_after s e.what (fire s p past)
    f = rw h

    w : owes_sweep p (e ∷ past) ≡ sweep_after e.what (owes_sweep p past)
    w = rw h

-- an event of p changes what p keeps as said, and another event doesn't
pub own_moves : (s : Script) (p : CpuNo) (e : Event) (past : List Event) → own_of s p (e ∷ past)
    ≡ (if is_of e p then own_after_event s (length past) (due_of e.what (time past)) e (λ c. asks s p c e past) (λ c. told s p c e past) (own_of s p past)
    else own_of s p past)
own_moves s p e past = go (is_of e p) refl
  where
    go : (b : Bool) → is_of e p ≡ b → own_of s p (e ∷ past)
        ≡ (if b then own_after_event s (length past) (due_of e.what (time past)) e (λ c. asks s p c e past) (λ c. told s p c e past) (own_of s p past)
        else own_of s p past)
    go true h = own_moves_here s p e past h
    go false h = own_stays s p e past h
