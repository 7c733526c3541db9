-- DPC queues as contracts see them: what calls require, answer and leave.
use Rattle.std.specs.List.{list_any}
use Rattle.std.specs.Prelude.{Bool, List, None, Option, Some, [], false, if◌then◌else◌, length, nat_lt, option_map}
use Rattle.std.specs.Prelude.{true}
use Rattle.std.specs.Prelude.{ℕ, ◌+◌, ◌<◌, ◌==◌, ◌≡◌, ◌∷◌}
use Rattle.nt_event.specs.declared.inserts.Insert.{Insert}
use Rattle.nt_event.specs.declared.inserts.Part.{Part}
use Rattle.nt_event.specs.declared.inserts.Part.TheVariants.{Ordinary as OrdinaryPart, Threaded as ThreadedPart}
use Rattle.nt_event.specs.declared.inserts.Standing.{Standing}
use Rattle.nt_event.specs.declared.numbers.CpuNo.{CpuNo}
use Rattle.nt_event.specs.declared.numbers.DpcNo.{DpcNo}
use Rattle.nt_event.specs.Classes.{dispatch_class, threaded_class}
use Rattle.nt_event.specs.Objects.{is_queued, queue_for}
use Rattle.nt_event.specs.Queues.{QueueState, depth_of, first_dpc, insert_asks, is_of_dpc, start_queue, without_dpc}
use Rattle.nt_dpc.specs.Objects.{ObjectFacts, entry_of}

-- a DPC queue: its processor, for how many objects it has room, the depth limit, and its state
pub record QueueFacts : Type 0 where
  pub cpu : CpuNo
  pub count : ℕ
  pub limit : ℕ
  pub state : QueueState

abbrev pub new_queue : CpuNo → ℕ → ℕ → QueueFacts
new_queue p count limit = record { cpu = p; count = count; limit = limit; state = start_queue }

-- an entry of the object stands in the queue
abbrev pub holds_dpc : DpcNo → List Insert → Bool
holds_dpc d xs = list_any (is_of_dpc d) xs

-- how many entries the queue has, of both parts
abbrev pub entry_count : QueueFacts → ℕ
entry_count q = length q.state.pending

-- ---- what a change leaves of a queue's state

-- the entry is added
abbrev pub add_entry : Insert → QueueState → QueueState
add_entry x q = record q { pending = x ∷ q.pending }

-- the object's entry is taken out
abbrev pub drop_entry : DpcNo → QueueState → QueueState
drop_entry d q = record q { pending = without_dpc d q.pending }

abbrev pub set_idle : Bool → QueueState → QueueState
set_idle idle q = record q { idle = idle }

-- the same of the queue that contracts see
abbrev pub with_entry : Insert → QueueFacts → QueueFacts
with_entry x q = record q { state = add_entry x q.state }

abbrev pub without_entry : DpcNo → QueueFacts → QueueFacts
without_entry d q = record q { state = drop_entry d q.state }

abbrev pub with_idle : Bool → QueueFacts → QueueFacts
with_idle idle q = record q { state = set_idle idle q.state }

-- ---- what calls require

-- an insert of the object by p may be called here: it is queued somewhere, or this is the queue that the insert puts it
-- into, and has no entry of it
abbrev pub MayInsert : QueueFacts → ObjectFacts → CpuNo → Type 0
MayInsert q o p =
    is_queued o.state ≡ false → (queue_for o.state.target p ≡ q.cpu) × (holds_dpc o.dpc q.state.pending ≡ false)

abbrev pub StandsHere : QueueFacts → DpcNo → Option Standing → Type 0
StandsHere q d None = holds_dpc d q.state.pending ≡ false
StandsHere q d (Some x) = (x.queue ≡ q.cpu) × (holds_dpc d q.state.pending ≡ true)

-- the object stands here or nowhere, and the queue has an entry of it exactly where it stands here
abbrev pub StandsHereOrNowhere : QueueFacts → ObjectFacts → Type 0
StandsHereOrNowhere q o = StandsHere q o.dpc o.state.standing

-- each entry is of an object below the count, and no two are of one object
abbrev pub EachOnceBelow : ℕ → List Insert → Type 0
EachOnceBelow count [] = Unit {0}
EachOnceBelow count (x ∷ xs) = (x.dpc.0 < count) × (holds_dpc x.dpc xs ≡ false) × EachOnceBelow count xs

-- ---- what calls answer

-- the first entry of a part, by its object and number
abbrev pub first_entry : Part → QueueFacts → Option (DpcNo × ℕ)
first_entry part q = option_map (λ x. (x.dpc, x.number)) (first_dpc part q.state.pending)

abbrev pub class_in : Part → Bool → Option ℕ
class_in ThreadedPart asks = Some threaded_class
class_in OrdinaryPart asks = if asks then Some dispatch_class else None

-- whether an ordinary insert of the object by p asks for a dispatch interrupt
abbrev pub asks_dispatch : QueueFacts → ObjectFacts → CpuNo → Bool
asks_dispatch q o p =
    insert_asks o.state.importance (q.cpu.0 == p.0) (nat_lt q.limit (depth_of q.state.pending + 1)) q.state.idle

-- the class that an insert of the object by p asks for on the queue's processor; none where it is queued already
abbrev pub asked_class : QueueFacts → ObjectFacts → CpuNo → Option ℕ
asked_class q o p = if is_queued o.state then None else class_in o.part (asks_dispatch q o p)

-- ---- what calls leave

-- what an insert of the object by the event of this number leaves
abbrev pub queue_with : ℕ → ObjectFacts → QueueFacts → QueueFacts
queue_with n o q = if is_queued o.state then q else with_entry (entry_of n o) q
