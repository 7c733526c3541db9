-- What an event changes of objects and queues, as one change of an object, of a queue, or of both.
use Rattle.std.specs.Prelude.{Bool, IfSome, IsTrue, None, Option, Some, false, if◌then◌else◌, option_map, set, true, ℕ}
use Rattle.std.specs.Prelude.{◌≡◌}
use Rattle.nt_event.specs.declared.commands.Command.{Command}
use Rattle.nt_event.specs.declared.commands.Reply.{Reply}
use Rattle.nt_event.specs.declared.events.Begun.{Begun}
use Rattle.nt_event.specs.declared.events.Begun.TheVariants.{Apc, Dpc, Int, Threaded}
use Rattle.nt_event.specs.declared.events.What.{What}
use Rattle.nt_event.specs.declared.events.What.TheVariants.{Begin, Call, Clean, End, Expire, Fire, Flush, Free, Gone}
use Rattle.nt_event.specs.declared.events.What.TheVariants.{Look}
use Rattle.nt_event.specs.declared.events.What.TheVariants.{Normal, Rest as RestEvent, Rewait, Switch}
use Rattle.nt_event.specs.declared.inserts.Part.TheVariants.{Ordinary as OrdinaryPart, Threaded as ThreadedPart}
use Rattle.nt_event.specs.declared.inserts.Standing.{Standing}
use Rattle.nt_event.specs.declared.numbers.CpuNo.{CpuNo}
use Rattle.nt_event.specs.declared.numbers.DpcNo.{DpcNo}
use Rattle.nt_event.specs.Objects.{ObjectState, is_queued, object_in, queue_for}
use Rattle.nt_event.specs.Queues.{QueueState, first_dpc, new_insert}
use Rattle.nt_event.specs.Replies.{is_done, is_yes}
use Rattle.nt_event.specs.Script.{has_cpu, has_dpc}
use Rattle.nt_dpc.specs.Objects.{standing_at, standing_nowhere, with_importance, with_target}
use Rattle.nt_dpc.specs.Queues.{add_entry, drop_entry, set_idle}
use Rattle.nt_dpc_lanes.specs.declared.changes.Change.{Change}
use Rattle.nt_dpc_lanes.specs.declared.changes.Change.TheVariants.{Insert, Nothing, Remove, Rest, Run, SetImportance}
use Rattle.nt_dpc_lanes.specs.declared.changes.Change.TheVariants.{SetTarget, Take}
use Rattle.nt_states.specs.DpcLanes.{DpcLanes, queue_in}
use Rattle.nt_event.specs.Families.{DpcCall, GiveImportance, GiveTarget, InsertDpc, RemoveDpc, by_dpc_call}

-- the change where the test holds, else none
abbrev pub change_where : Bool → Change → Change
change_where holds c = if holds then c else Nothing

abbrev pub dpc_change : DpcCall → Reply → Change
dpc_change (InsertDpc d) y = change_where (is_yes y) (Insert d)
dpc_change (RemoveDpc d) y = change_where (is_yes y) (Remove d)
dpc_change (GiveImportance d i) y = change_where (is_done y) (SetImportance d i)
dpc_change (GiveTarget d t) y = change_where (is_done y) (SetTarget d t)

abbrev pub call_change : Command → Reply → Change
call_change c y = by_dpc_call (λ k. dpc_change k y) Nothing c

abbrev pub begin_change : Begun → Change
begin_change (Dpc d) = Take OrdinaryPart d
begin_change (Threaded d) = Take ThreadedPart d
begin_change (Int l) = Nothing
begin_change (Apc a) = Nothing

-- what an event changes
abbrev pub change_of : What → Change
change_of (Call f c y) = call_change c y
change_of (Look r) = Nothing
change_of (Begin b from) = begin_change b
change_of (Normal f) = Nothing
change_of (End f) = Nothing
change_of (Expire k from) = Nothing
change_of (Fire d y) = change_where (is_yes y) (Insert d)
change_of (Clean c) = Nothing
change_of (Switch t status) = Run
change_of (Rewait f y) = Nothing
change_of (Flush a from) = Nothing
change_of (Gone t) = Nothing
change_of (Free f k) = Nothing
change_of RestEvent = Rest

-- ---- what a change leaves, by what it leaves of an object and of a queue (nt_dpc)

abbrev pub with_object : DpcNo → ObjectState → DpcLanes → DpcLanes
with_object d o x = record x { objects = set x.objects d.0 o }

abbrev pub with_queue : CpuNo → QueueState → DpcLanes → DpcLanes
with_queue p q x = record x { queues = set x.queues p.0 q }

-- the object's entry of this number stands in the queue of p
abbrev pub inserted_at : ℕ → CpuNo → DpcNo → DpcLanes → DpcLanes
inserted_at n p d x =
    with_object d (standing_at (record { queue = p; number = n }) (object_in x.objects d))
    (with_queue p (add_entry (new_insert x.script d n (object_in x.objects d)) (queue_in x.queues p)) x)

-- the object isn't queued, and the queue of p has no entry of it
abbrev pub removed_at : CpuNo → DpcNo → DpcLanes → DpcLanes
removed_at p d x =
    with_object d (standing_nowhere (object_in x.objects d)) (with_queue p (drop_entry d (queue_in x.queues p)) x)

abbrev pub removed_from : Option Standing → DpcNo → DpcLanes → DpcLanes
removed_from None d x = x
removed_from (Some at) d x = removed_at at.queue d x

-- what a change by the processor in the event of this number leaves
abbrev pub changed : ℕ → CpuNo → Change → DpcLanes → DpcLanes
changed n by Nothing x = x
changed n by (Insert d) x = inserted_at n (queue_for (object_in x.objects d).target by) d x
changed n by (Remove d) x = removed_from (object_in x.objects d).standing d x
changed n by (Take part d) x = removed_at by d x
changed n by (SetImportance d i) x = with_object d (with_importance i (object_in x.objects d)) x
changed n by (SetTarget d t) x = with_object d (with_target t (object_in x.objects d)) x
changed n by Rest x = with_queue by (set_idle true (queue_in x.queues by)) x
changed n by Run x = with_queue by (set_idle false (queue_in x.queues by)) x

-- ---- when a change may be made

-- the change may be made by this processor in these states. An event that may leave this (`MayLeave`) says what its
-- reply has to be; its change says only which things there have to be and how they have to stand

abbrev pub MayChange : DpcLanes → CpuNo → Change → Type 0
MayChange x by (Insert d) = IsTrue (has_dpc x.script d) × (is_queued (object_in x.objects d) ≡ false)
MayChange x by (Remove d) = IsTrue (has_dpc x.script d) × (is_queued (object_in x.objects d) ≡ true)
MayChange x by (Take part d) =
    IsTrue (has_dpc x.script d) × (option_map (λ i. i.dpc) (first_dpc part (queue_in x.queues by).pending) ≡ Some d)
MayChange x by (SetImportance d i) = IsTrue (has_dpc x.script d)
MayChange x by (SetTarget d t) = IsTrue (has_dpc x.script d) × IfSome t (λ p. IsTrue (has_cpu x.script p))
MayChange x by Nothing = Unit {0}
MayChange x by Rest = Unit {0}
MayChange x by Run = Unit {0}
