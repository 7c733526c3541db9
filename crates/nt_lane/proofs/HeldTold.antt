-- What held lanes tell of the ones that are held.
use Rattle.std.proofs.Common.{ap, sym, ◌∙◌}
use Rattle.std.proofs.lemmas.Bool.{ltb-true}
use Rattle.std.proofs.lemmas.List.{get_or-replicate}
use Rattle.std.specs.Prelude.{IsTrue, Some, length, ◌≡◌}
use Rattle.nt_event.specs.declared.numbers.CpuNo.{CpuNo}
use Rattle.nt_event.specs.declared.numbers.DpcNo.{DpcNo}
use Rattle.nt_event.specs.declared.numbers.LockNo.{LockNo}
use Rattle.nt_event.specs.Lanes.{lock_at, object_at, queue_at}
use Rattle.nt_event.specs.Locks.{start_lock}
use Rattle.nt_event.specs.Objects.{start_object}
use Rattle.nt_event.specs.Queues.{start_queue}
use Rattle.nt_event.specs.Script.{has_cpu, has_dpc, has_lock}
use Rattle.nt_dpc.specs.Objects.{ObjectFacts}
use Rattle.nt_dpc.specs.Queues.{QueueFacts}
use Rattle.nt_lane.specs.Answers.{HeldStates, held_lanes, object_told, queue_told, spin_told}
use Rattle.nt_lane_record.specs.Held.{SpinFacts}

-- the state of the held object is what they tell of it
pub object_is_told : (h : HeldStates) (d : DpcNo) (o : ObjectFacts) → IsTrue (has_dpc h.script d) → h.object ≡ Some o → o.state ≡ object_at (held_lanes h) d
object_is_told h d o named e =
    let below = ltb-true d.0 (length h.script.dpcs) named in
    sym (get_or-replicate (length h.script.dpcs) d.0 (object_told h.object) start_object below ∙ ap object_told e)

-- the state of the held queue is what they tell of it
pub queue_is_told : (h : HeldStates) (p : CpuNo) (q : QueueFacts) → IsTrue (has_cpu h.script p) → h.queue ≡ Some q → q.state ≡ queue_at (held_lanes h) p
queue_is_told h p q named e =
    let below = ltb-true p.0 h.script.cpus named in
    sym (get_or-replicate h.script.cpus p.0 (queue_told h.queue) start_queue below ∙ ap queue_told e)

-- the state of the held spin lock is what they tell of it
pub spin_is_told : (h : HeldStates) (k : LockNo) (x : SpinFacts) → IsTrue (has_lock h.script k) → h.spin_lock ≡ Some x → x.state ≡ lock_at (held_lanes h) k
spin_is_told h k x named e =
    let below = ltb-true k.0 h.script.locks named in
    sym (get_or-replicate h.script.locks k.0 (spin_told h.spin_lock) start_lock below ∙ ap spin_told e)
