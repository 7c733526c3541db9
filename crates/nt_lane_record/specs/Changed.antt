-- When an event may be taken in by an object and a queue that are held, by what it changes, and what the change leaves.
use Rattle.std.specs.Prelude.{Some, false, option_map, true, ℕ, ◌<◌, ◌≡◌}
use Rattle.nt_event.specs.declared.numbers.CpuNo.{CpuNo}
use Rattle.nt_event.specs.Objects.{is_queued, queue_for}
use Rattle.nt_dpc.specs.Objects.{ObjectFacts, entry_of, queued_at, unqueued, with_importance, with_target}
use Rattle.nt_dpc.specs.Queues.{QueueFacts, StandsHereOrNowhere, first_entry, holds_dpc}
use Rattle.nt_dpc.specs.Queues.{with_entry, with_idle, without_entry}
use Rattle.nt_dpc_lanes.specs.declared.changes.Change.{Change}
use Rattle.nt_dpc_lanes.specs.declared.changes.Change.TheVariants.{Insert, Nothing, Remove, Rest, Run, SetImportance}
use Rattle.nt_dpc_lanes.specs.declared.changes.Change.TheVariants.{SetTarget, Take}

-- ---- when it may be taken in

-- the object isn't queued, and the queue is the one that the insert by p puts it into, and has room for it
pub record MayEnter (o : ObjectFacts) (q : QueueFacts) (p : CpuNo) : Type 0 where
  pub free : is_queued o.state ≡ false
  pub to : queue_for o.state.target p ≡ q.cpu
  pub new : holds_dpc o.dpc q.state.pending ≡ false
  pub room : o.dpc.0 < q.count

-- the object is inserted into the queue, removed from it, or taken from it
abbrev pub MayChangeBoth : ObjectFacts → QueueFacts → CpuNo → Change → Type 0
MayChangeBoth o q by (Insert d) = (d ≡ o.dpc) × MayEnter o q by
MayChangeBoth o q by (Remove d) = (d ≡ o.dpc) × (is_queued o.state ≡ true) × StandsHereOrNowhere q o
MayChangeBoth o q by (Take part d) = (d ≡ o.dpc) × (q.cpu ≡ by) ×
    (option_map (λ x. x.0) (first_entry part q) ≡ Some o.dpc)
MayChangeBoth o q by Nothing = ⊥
MayChangeBoth o q by (SetImportance d i) = ⊥
MayChangeBoth o q by (SetTarget d t) = ⊥
MayChangeBoth o q by Rest = ⊥
MayChangeBoth o q by Run = ⊥

-- the object is set, or nothing changes
abbrev pub MayChangeObject : ObjectFacts → Change → Type 0
MayChangeObject o (SetImportance d i) = d ≡ o.dpc
MayChangeObject o (SetTarget d t) = d ≡ o.dpc
MayChangeObject o Nothing = Unit {0}
MayChangeObject o (Insert d) = ⊥
MayChangeObject o (Remove d) = ⊥
MayChangeObject o (Take part d) = ⊥
MayChangeObject o Rest = ⊥
MayChangeObject o Run = ⊥

-- the processor rests or runs, or nothing changes
abbrev pub MayChangeQueue : Change → Type 0
MayChangeQueue Rest = Unit {0}
MayChangeQueue Run = Unit {0}
MayChangeQueue Nothing = Unit {0}
MayChangeQueue (SetImportance d i) = ⊥
MayChangeQueue (SetTarget d t) = ⊥
MayChangeQueue (Insert d) = ⊥
MayChangeQueue (Remove d) = ⊥
MayChangeQueue (Take part d) = ⊥

-- ---- what the change leaves

-- of an object that is inserted by the event of this number into the queue of p, removed or taken
abbrev pub object_moved : ℕ → CpuNo → Change → ObjectFacts → ObjectFacts
object_moved n p (Insert d) o = queued_at (record { queue = p; number = n }) o
object_moved n p (Remove d) o = unqueued o
object_moved n p (Take part d) o = unqueued o
object_moved n p (SetImportance d i) o = o
object_moved n p (SetTarget d t) o = o
object_moved n p Nothing o = o
object_moved n p Rest o = o
object_moved n p Run o = o

-- of the queue
abbrev pub queue_moved : ℕ → Change → ObjectFacts → QueueFacts → QueueFacts
queue_moved n (Insert d) o q = with_entry (entry_of n o) q
queue_moved n (Remove d) o q = without_entry o.dpc q
queue_moved n (Take part d) o q = without_entry o.dpc q
queue_moved n (SetImportance d i) o q = q
queue_moved n (SetTarget d t) o q = q
queue_moved n Nothing o q = q
queue_moved n Rest o q = q
queue_moved n Run o q = q

-- of an object that is set
abbrev pub object_set : Change → ObjectFacts → ObjectFacts
object_set (SetImportance d i) o = record o { state = with_importance i o.state }
object_set (SetTarget d t) o = record o { state = with_target t o.state }
object_set (Insert d) o = o
object_set (Remove d) o = o
object_set (Take part d) o = o
object_set Nothing o = o
object_set Rest o = o
object_set Run o = o

-- of the queue of a processor that rests or runs from now on
abbrev pub queue_idle : Change → QueueFacts → QueueFacts
queue_idle Rest q = with_idle true q
queue_idle Run q = with_idle false q
queue_idle Nothing q = q
queue_idle (Insert d) q = q
queue_idle (Remove d) q = q
queue_idle (Take part d) q = q
queue_idle (SetImportance d i) q = q
queue_idle (SetTarget d t) q = q
