-- What stands in each lane before any event.
use Rattle.std.proofs.Common.{ap, subst, sym, ◌∙◌}
use Rattle.std.proofs.lemmas.Bool.{ltb-true}
use Rattle.std.specs.Prelude.{Bool, IsTrue, [], false, length, ℕ, ◌≡◌}
use Rattle.nt_event.specs.declared.numbers.CpuNo.{CpuNo}
use Rattle.nt_event.specs.declared.numbers.DpcNo.{DpcNo}
use Rattle.nt_event.specs.declared.numbers.LockNo.{LockNo}
use Rattle.nt_event.specs.declared.scripts.Script.{Script}
use Rattle.nt_event.specs.LaneStates.{OfLock, OfObject, OfQueue, OfTimers}
use Rattle.nt_event.specs.Lanes.{lanes_at, lock_at, object_at, queue_at}
use Rattle.nt_event.specs.Locks.{free_lock, lock_of, start_lock}
use Rattle.nt_event.specs.Numbers.{cpu, dpc, lock}
use Rattle.nt_event.specs.Objects.{object_of, start_object}
use Rattle.nt_event.specs.Queues.{queue_of, start_queue}
use Rattle.nt_event.specs.Script.{has_cpu, has_dpc, has_lock}
use Rattle.nt_event.specs.Timers.{Timers, timers_at}
use Rattle.nt_event.proofs.Tables.{get_or-table, length-table_from}
use Rattle.nt_dpc.specs.Objects.{ObjectFacts, new_object}
use Rattle.nt_dpc.specs.Queues.{QueueFacts, new_queue}
use Rattle.nt_timer.specs.Settings.{new_timers}
use Rattle.nt_timer.proofs.Events.{timer_calls_are_events}
use Rattle.nt_lane_record.specs.Held.{IsSpinThere, SpinFacts}

-- a new object is in the state that its lane has before any event
pub object_opens : (s : Script) (d : DpcNo) (threaded : Bool) (o : ObjectFacts) → IsTrue (has_dpc s d) → o ≡ new_object d threaded →
    OfObject (object_at (lanes_at s []) o.dpc) ≡ OfObject o.state
object_opens s d threaded o h e =
    let below = ltb-true d.0 (length s.dpcs) h in
    let at : object_at (lanes_at s []) d ≡ start_object = get_or-table (length s.dpcs) d.0 (λ k. object_of (dpc k) []) start_object below in
    ap (λ (x : ObjectFacts). OfObject (object_at (lanes_at s []) x.dpc)) e ∙ (ap OfObject at ∙ sym (ap (λ (x : ObjectFacts). OfObject x.state) e))

-- a new queue is in the state that its lane has before any event
pub queue_opens : (s : Script) (p : CpuNo) (count limit : ℕ) (q : QueueFacts) → IsTrue (has_cpu s p) → q ≡ new_queue p count limit →
    OfQueue (queue_at (lanes_at s []) q.cpu) ≡ OfQueue q.state
queue_opens s p count limit q h e =
    let below = ltb-true p.0 s.cpus h in
    let at : queue_at (lanes_at s []) p ≡ start_queue = get_or-table s.cpus p.0 (λ k. queue_of s (cpu k) []) start_queue below in
    ap (λ (x : QueueFacts). OfQueue (queue_at (lanes_at s []) x.cpu)) e ∙ (ap OfQueue at ∙ sym (ap (λ (x : QueueFacts). OfQueue x.state) e))

-- new timers are the content that the timers lane has before any event
pub timers_open : (s r : Script) (t : Timers) → r ≡ s → t ≡ new_timers (length r.timers) (length r.threads) → OfTimers (timers_at s []) ≡ OfTimers t
timers_open s r t same e =
    ap OfTimers (timer_calls_are_events.start s ∙ (ap (λ (x : Script). new_timers (length x.timers) (length x.threads)) (sym same) ∙ sym e))

-- a free spin lock is in the state that its lane has before any event
pub spin_opens : (s r : Script) (k : LockNo) (x : SpinFacts) → IsTrue (has_lock s k) → r ≡ s → x ≡ record { lock = k; state = free_lock r } →
    OfLock (lock_at (lanes_at s []) x.lock) ≡ OfLock x.state
spin_opens s r k x h same e =
    let below = ltb-true k.0 s.locks h in
    let at : lock_at (lanes_at s []) k ≡ free_lock s = get_or-table s.locks k.0 (λ i. lock_of s (lock i) []) start_lock below in
    ap (λ (y : SpinFacts). OfLock (lock_at (lanes_at s []) y.lock)) e
    ∙ (ap OfLock (at ∙ ap free_lock (sym same)) ∙ sym (ap (λ (y : SpinFacts). OfLock y.state) e))

-- a free spin lock of the script has a flag for each processor
pub spin_there : (s r : Script) (k : LockNo) (x : SpinFacts) → IsTrue (has_lock s k) → r ≡ s → x ≡ record { lock = k; state = free_lock r } → IsSpinThere s x
spin_there s r k x h same e =
    subst (λ (y : SpinFacts). IsSpinThere s y) (sym e)
    (record { named = h; flags = length-table_from 0 r.cpus (λ q. false) ∙ ap (λ (y : Script). y.cpus) same })
