-- What an event leaves of objects and queues is what its change leaves.
use Rattle.std.proofs.Common.{inl, inr, Bool, List, None, Option, Some, ap, arith, cond, eqb, false, length, not, option_map, refl, set, subst}
use Rattle.std.proofs.Common.{sym, true, ℕ, ◌<◌, ◌∙◌, ◌≡◌}
use Rattle.std.specs.Option.{is_some}
use Rattle.std.specs.Prelude.{IsTrue}
use Rattle.std.proofs.lemmas.Bool.{cases_lt, eqb-true, false≢true, lt-ltb}
use Rattle.std.proofs.lemmas.List.{get_or_past}
use Rattle.nt_event.proofs.Booleans.{either_way}
use Rattle.nt_dpc.proofs.Events.{object_calls_are_events, queue_calls_are_events}
use Rattle.nt_dpc.specs.Laws.{IsObject}
use Rattle.nt_event.specs.Routines.{depth_limit, part_of}
use Rattle.nt_event.proofs.Tables.{table-self}
use Rattle.nt_dpc.specs.Objects.{ObjectFacts, standing_at, standing_nowhere, with_importance, with_target}
use Rattle.nt_dpc.specs.Queues.{QueueFacts, add_entry, drop_entry, set_idle}
use Rattle.nt_event.specs.declared.commands.Command.TheVariants.{Queue, SetImportance as SetImportanceCall, SetTarget as SetTargetCall, Unqueue}
use Rattle.nt_event.specs.declared.commands.Importance.{Importance}
use Rattle.nt_event.specs.declared.commands.Reply.TheVariants.{Done, Yes}
use Rattle.nt_event.specs.declared.events.Begun.TheVariants.{Dpc, Threaded}
use Rattle.nt_event.specs.declared.events.What.{What}
use Rattle.nt_event.specs.declared.events.What.TheVariants.{Begin, Call, Fire, Rest as RestEvent, Switch}
use Rattle.nt_event.specs.declared.inserts.Insert.{Insert}
use Rattle.nt_event.specs.declared.inserts.Part.{Part}
use Rattle.nt_event.specs.declared.inserts.Part.TheVariants.{Ordinary as OrdinaryPart, Threaded as ThreadedPart}
use Rattle.nt_event.specs.declared.inserts.Standing.{Standing}
use Rattle.nt_event.specs.declared.numbers.CpuNo.{CpuNo}
use Rattle.nt_event.specs.declared.numbers.DpcNo.{DpcNo}
use Rattle.nt_event.specs.declared.numbers.ThreadNo.{ThreadNo}
use Rattle.nt_event.specs.Jobs.{begin_dpc, begin_first}
use Rattle.nt_event.specs.Objects.{ObjectState, is_queued, object_after, object_in, queue_for, start_object}
use Rattle.nt_event.specs.Queues.{QueueState, first_dpc, is_queue, new_insert, queue_after, start_queue}
use Rattle.nt_event.specs.Script.{has_dpc}
use Rattle.nt_event.specs.Numbers.{cpu, dpc}
use Rattle.nt_event.specs.Lists.{table}
use Rattle.nt_event.specs.Replies.{yes_if}
use Rattle.nt_dpc.specs.Queues.{holds_dpc}
use Rattle.nt_dpc_lanes.proofs.Holding.{first_holds}
use Rattle.nt_event.proofs.Written.{table_set}
use Rattle.nt_dpc_lanes.specs.Agree.{Agrees}
use Rattle.nt_dpc_lanes.specs.Changes.{MayChange, change_of, changed, inserted_at, removed_at, removed_from, with_object, with_queue}
use Rattle.nt_dpc_lanes.specs.declared.changes.Change.TheVariants.{Take}
use Rattle.nt_states.specs.DpcLanes.{DpcLanes, MayLeave, left, queue_in}

abbrev objects_left : ℕ → CpuNo → What → DpcLanes → List ObjectState
objects_left n by w x = table (length x.script.dpcs) (λ d. object_after (dpc d) n by w (object_in x.objects (dpc d)))

abbrev queues_left : ℕ → CpuNo → What → DpcLanes → List QueueState
queues_left n by w x =
    table x.script.cpus (λ p. queue_after x.script (cpu p) n by w x.objects (queue_in x.queues (cpu p)))

-- ---- objects

-- an event that changes no object's state leaves all objects as they were
objects_stay : (x : DpcLanes) (n : ℕ) (by : CpuNo) (w : What) → Agrees x → ((d : DpcNo) (o : ObjectState) → object_after d n by w o ≡ o) →
    objects_left n by w x ≡ x.objects
objects_stay x n by w a stays =
    table-self start_object (length x.script.dpcs) x.objects (λ d. object_after (dpc d) n by w (object_in x.objects (dpc d))) a.objects
    (λ i l. stays (dpc i) (object_in x.objects (dpc i)))

-- an event that changes one object's state alone leaves the objects with that one set
object_left : (x : DpcLanes) (n : ℕ) (by : CpuNo) (w : What) (d : DpcNo) (v : ObjectState) → Agrees x → object_after d n by w (object_in x.objects d) ≡ v →
    ((e : DpcNo) (o : ObjectState) → eqb d.0 e.0 ≡ false → object_after e n by w o ≡ o) → objects_left n by w x ≡ set x.objects d.0 v
object_left x n by w d v a here others =
    table_set x.objects (length x.script.dpcs) d.0 v start_object (λ e. object_after (dpc e) n by w (object_in x.objects (dpc e))) a.objects mine
    (λ i k. others (dpc i) (object_in x.objects (dpc i)) k)
  where
    mine : (i : ℕ) → eqb d.0 i ≡ true → object_after (dpc i) n by w (object_in x.objects (dpc i)) ≡ v
    mine i k = subst (λ (j : ℕ). object_after (dpc j) n by w (object_in x.objects (dpc j)) ≡ v) (eqb-true d.0 i k) here

-- ---- queues

-- an event that changes no queue's state leaves all queues as they were
queues_stay : (x : DpcLanes) (n : ℕ) (by : CpuNo) (w : What) → Agrees x → ((p : CpuNo) (q : QueueState) → queue_after x.script p n by w x.objects q ≡ q) →
    queues_left n by w x ≡ x.queues
queues_stay x n by w a stays =
    table-self start_queue x.script.cpus x.queues (λ p. queue_after x.script (cpu p) n by w x.objects (queue_in x.queues (cpu p))) a.queues
    (λ i l. stays (cpu i) (queue_in x.queues (cpu i)))

-- an event that changes one queue's state alone leaves the queues with that one set
queue_left : (x : DpcLanes) (n : ℕ) (by : CpuNo) (w : What) (p : CpuNo) (v : QueueState) → Agrees x →
    queue_after x.script p n by w x.objects (queue_in x.queues p) ≡ v → ((r : CpuNo) (q : QueueState) → eqb p.0 r.0 ≡ false →
    queue_after x.script r n by w x.objects q ≡ q) → queues_left n by w x ≡ set x.queues p.0 v
queue_left x n by w p v a here others =
    table_set x.queues x.script.cpus p.0 v start_queue (λ r. queue_after x.script (cpu r) n by w x.objects (queue_in x.queues (cpu r))) a.queues mine
    (λ i k. others (cpu i) (queue_in x.queues (cpu i)) k)
  where
    mine : (i : ℕ) → eqb p.0 i ≡ true → queue_after x.script (cpu i) n by w x.objects (queue_in x.queues (cpu i)) ≡ v
    mine i k = subst (λ (j : ℕ). queue_after x.script (cpu j) n by w x.objects (queue_in x.queues (cpu j)) ≡ v) (eqb-true p.0 i k) here

-- the idle mark, where the event isn't one that changes it
same_idle : (by p : CpuNo) (xs : List Insert) (q : QueueState) → (let y : QueueState = record {
  pending = xs;
  idle = cond (eqb by.0 p.0) q.idle q.idle;
} in y) ≡ record q { pending = xs }
same_idle by p xs q = λ i. record { pending = xs; idle = either_way (eqb by.0 p.0) q.idle i }

-- what an event leaves of the lanes is the objects and the queues that it leaves
both_left : (x : DpcLanes) (n : ℕ) (by : CpuNo) (w : What) (os : List ObjectState) (qs : List QueueState) → objects_left n by w x ≡ os →
    queues_left n by w x ≡ qs → left n by w x ≡ record x { objects = os; queues = qs }
both_left x n by w os qs o q = λ i. record x { objects = o i; queues = q i }

-- ---- events that change nothing here

-- an event that changes no object and no queue leaves the lanes as they were
nothing_left : (x : DpcLanes) (n : ℕ) (by : CpuNo) (w : What) → Agrees x → ((d : DpcNo) (o : ObjectState) → object_after d n by w o ≡ o) →
    ((p : CpuNo) (q : QueueState) → queue_after x.script p n by w x.objects q ≡ record q { idle = cond (eqb by.0 p.0) q.idle q.idle }) → left n by w x ≡ x
nothing_left x n by w a o q =
    both_left x n by w x.objects x.queues (objects_stay x n by w a o) (queues_stay x n by w a (λ p r. q p r ∙ same_idle by p r.pending r))

-- ---- what nt_dpc's laws say, of the object and the queue that stand there

abbrev object_there : DpcNo → DpcLanes → ObjectFacts
object_there d x = record { dpc = d; part = part_of x.script d; state = object_in x.objects d }

abbrev queue_there : CpuNo → DpcLanes → QueueFacts
queue_there p x =
    record { cpu = p; count = length x.script.dpcs; limit = depth_limit x.script; state = queue_in x.queues p }

-- the object found in the lanes under a number is the script's object of that number
is_there : (d : DpcNo) (x : DpcLanes) → IsObject x.script x.objects (object_there d x)
is_there d x = record { state = refl; part = refl }

-- ---- an insert: a call of `queue` or a Fire, with reply yes

abbrev object_inserted : ℕ → CpuNo → DpcNo → DpcLanes → ObjectState
object_inserted n p d x = standing_at (record { queue = p; number = n }) (object_in x.objects d)

abbrev queue_inserted : ℕ → CpuNo → DpcNo → DpcLanes → QueueState
queue_inserted n p d x =
    add_entry (new_insert x.script d n (object_in x.objects d)) (queue_in x.queues p)

-- a queue call that is accepted leaves the object inserted in its target's queue, or else in the caller's
queued_left : (x : DpcLanes) (n f : ℕ) (by : CpuNo) (d : DpcNo) → Agrees x →
    left n by (Call f (Queue d) Yes) x ≡ inserted_at n (queue_for (object_in x.objects d).target by) d x
queued_left x n f by d a =
    let p : CpuNo = queue_for (object_in x.objects d).target by in
    let w : What = Call f (Queue d) Yes in
    both_left x n by w (set x.objects d.0 (object_inserted n p d x)) (set x.queues p.0 (queue_inserted n p d x))
    (object_left x n by w d (object_inserted n p d x) a (object_calls_are_events.queue (object_there d x) n f by p refl) (λ e o k. rw k))
    (queue_left x n by w p (queue_inserted n p d x) a
    (queue_calls_are_events.queue x.script x.objects (object_there d x) (queue_there p x) n f by (is_there d x) refl)
    (λ r q k. rw k (same_idle by r q.pending q)))

-- a fired timer that inserts its DPC leaves the object inserted in its target's queue, or the processor's own
fired_left : (x : DpcLanes) (n : ℕ) (by : CpuNo) (d : DpcNo) → Agrees x →
    left n by (Fire d Yes) x ≡ inserted_at n (queue_for (object_in x.objects d).target by) d x
fired_left x n by d a =
    let p : CpuNo = queue_for (object_in x.objects d).target by in
    let w : What = Fire d Yes in
    both_left x n by w (set x.objects d.0 (object_inserted n p d x)) (set x.queues p.0 (queue_inserted n p d x))
    (object_left x n by w d (object_inserted n p d x) a (object_calls_are_events.fire (object_there d x) n by p refl) (λ e o k. rw k))
    (queue_left x n by w p (queue_inserted n p d x) a
    (queue_calls_are_events.fire x.script x.objects (object_there d x) (queue_there p x) n by (is_there d x) refl)
    (λ r q k. rw k (same_idle by r q.pending q)))

-- ---- an insert is used up: a call of `unqueue` with reply yes, or its DPC begins

abbrev object_removed : DpcNo → DpcLanes → ObjectState
object_removed d x = standing_nowhere (object_in x.objects d)

abbrev queue_removed : CpuNo → DpcNo → DpcLanes → QueueState
queue_removed p d x = drop_entry d (queue_in x.queues p)

-- an accepted removal of an object that stands in a queue leaves it removed from that queue
unqueued_left : (x : DpcLanes) (n f : ℕ) (by : CpuNo) (d : DpcNo) (at : Standing) → Agrees x → (object_in x.objects d).standing ≡ Some at →
    left n by (Call f (Unqueue d) Yes) x ≡ removed_at at.queue d x
unqueued_left x n f by d at a e =
    let p : CpuNo = at.queue in
    let w : What = Call f (Unqueue d) Yes in
    both_left x n by w (set x.objects d.0 (object_removed d x)) (set x.queues p.0 (queue_removed p d x))
    (object_left x n by w d (object_removed d x) a (object_calls_are_events.unqueue (object_there d x) n f by) (λ e o k. rw k))
    (queue_left x n by w p (queue_removed p d x) a
    (queue_calls_are_events.unqueue x.script x.objects (object_there d x) (queue_there p x) n f at.number by (is_there d x) e)
    (λ r q k. rw (e, k) (same_idle by r q.pending q)))

-- the begin of an ordinary DPC leaves its object removed from the processor's queue
dpc_left : (x : DpcLanes) (n from : ℕ) (by : CpuNo) (d : DpcNo) → Agrees x → left n by (Begin (Dpc d) from) x ≡ removed_at by d x
dpc_left x n from by d a =
    let w : What = Begin (Dpc d) from in
    both_left x n by w (set x.objects d.0 (object_removed d x)) (set x.queues by.0 (queue_removed by d x))
    (object_left x n by w d (object_removed d x) a (object_calls_are_events.begin_dpc (object_there d x) n from by) (λ e o k. rw k))
    (queue_left x n by w by (queue_removed by d x) a (queue_calls_are_events.begin_dpc x.script x.objects d (queue_there by x) n from) (λ r q k. rw k))

-- the begin of a threaded DPC leaves its object removed from the processor's queue
threaded_left : (x : DpcLanes) (n from : ℕ) (by : CpuNo) (d : DpcNo) → Agrees x → left n by (Begin (Threaded d) from) x ≡ removed_at by d x
threaded_left x n from by d a =
    let w : What = Begin (Threaded d) from in
    both_left x n by w (set x.objects d.0 (object_removed d x)) (set x.queues by.0 (queue_removed by d x))
    (object_left x n by w d (object_removed d x) a (object_calls_are_events.begin_threaded (object_there d x) n from by) (λ e o k. rw k))
    (queue_left x n by w by (queue_removed by d x) a (queue_calls_are_events.begin_threaded x.script x.objects d (queue_there by x) n from) (λ r q k. rw k))

-- ---- importance, target, idle mark

-- a call that sets an importance leaves the object with it and everything else as it was
important_left : (x : DpcLanes) (n f : ℕ) (by : CpuNo) (d : DpcNo) (i : Importance) → Agrees x →
    left n by (Call f (SetImportanceCall d i) Done) x ≡ with_object d (with_importance i (object_in x.objects d)) x
important_left x n f by d i a =
    let w : What = Call f (SetImportanceCall d i) Done in
    both_left x n by w (set x.objects d.0 (with_importance i (object_in x.objects d))) x.queues
    (object_left x n by w d (with_importance i (object_in x.objects d)) a (object_calls_are_events.importance (object_there d x) n f by i) (λ e o k. rw k))
    (queues_stay x n by w a (λ r q. same_idle by r q.pending q))

-- a call that sets a target leaves the object with it and everything else as it was
targeted_left : (x : DpcLanes) (n f : ℕ) (by : CpuNo) (d : DpcNo) (t : Option CpuNo) → Agrees x →
    left n by (Call f (SetTargetCall d t) Done) x ≡ with_object d (with_target t (object_in x.objects d)) x
targeted_left x n f by d t a =
    let w : What = Call f (SetTargetCall d t) Done in
    both_left x n by w (set x.objects d.0 (with_target t (object_in x.objects d))) x.queues
    (object_left x n by w d (with_target t (object_in x.objects d)) a (object_calls_are_events.target (object_there d x) n f by t) (λ e o k. rw k))
    (queues_stay x n by w a (λ r q. same_idle by r q.pending q))

-- a processor that rests leaves its own queue marked idle
rest_left : (x : DpcLanes) (n : ℕ) (by : CpuNo) → Agrees x → left n by RestEvent x ≡ with_queue by (set_idle true (queue_in x.queues by)) x
rest_left x n by a =
    both_left x n by RestEvent x.objects (set x.queues by.0 (set_idle true (queue_in x.queues by)))
    (objects_stay x n by RestEvent a (λ d o. refl))
    (queue_left x n by RestEvent by (set_idle true (queue_in x.queues by)) a (queue_calls_are_events.rest x.script x.objects (queue_there by x) n)
    (λ r q k. rw k))

-- a switch of threads leaves the processor's own queue marked not idle
switch_left : (x : DpcLanes) (n : ℕ) (by : CpuNo) (t : ThreadNo) (status : Option ℕ) → Agrees x →
    left n by (Switch t status) x ≡ with_queue by (set_idle false (queue_in x.queues by)) x
switch_left x n by t status a =
    let w : What = Switch t status in
    both_left x n by w x.objects (set x.queues by.0 (set_idle false (queue_in x.queues by)))
    (objects_stay x n by w a (λ d o. refl))
    (queue_left x n by w by (set_idle false (queue_in x.queues by)) a (queue_calls_are_events.switch x.script x.objects (queue_there by x) n t status)
    (λ r q k. rw k))

-- ---- every event

-- if the answer of a test is yes, the test holds
queued_where_yes : (b : Bool) → Yes ≡ yes_if b → b ≡ true
queued_where_yes true h = refl
queued_where_yes false h = cc

-- if the answer of a test's negation is yes, the test fails
free_where_yes : (b : Bool) → Yes ≡ yes_if (not b) → b ≡ false
free_where_yes true h = cc
free_where_yes false h = refl

-- an accepted removal leaves the object removed from where it stands, whichever queue that is
removal_left : (x : DpcLanes) (n f : ℕ) (by : CpuNo) (d : DpcNo) (at : Option Standing) → Agrees x → (object_in x.objects d).standing ≡ at →
    is_some at ≡ true → left n by (Call f (Unqueue d) Yes) x ≡ removed_from at d x
removal_left x n f by d None a e h = cc
removal_left x n f by d (Some at) a e h = unqueued_left x n f by d at a e

-- an event that may be made leaves of objects and queues what its change leaves
pub left_is : (x : DpcLanes) (n : ℕ) (by : CpuNo) (w : What) → Agrees x → MayLeave x by w → left n by w x ≡ changed n by (change_of w) x
left_is x n by (Call f (Queue d) Yes) a m = queued_left x n f by d a
left_is x n by (Fire d Yes) a m = fired_left x n by d a
left_is x n by (Call f (Unqueue d) Yes) a m =
    removal_left x n f by d (object_in x.objects d).standing a refl (queued_where_yes (is_queued (object_in x.objects d)) m.reply)
left_is x n by (Begin (Dpc d) from) a m = dpc_left x n from by d a
left_is x n by (Begin (Threaded d) from) a m = threaded_left x n from by d a
left_is x n by (Call f (SetImportanceCall d i) Done) a m = important_left x n f by d i a
left_is x n by (Call f (SetTargetCall d t) Done) a m = targeted_left x n f by d t a
left_is x n by RestEvent a m = rest_left x n by a
left_is x n by (Switch t status) a m = switch_left x n by t status a
left_is x n by w a m = nothing_left x n by w a (λ d o. refl) (λ p q. refl)

-- ---- an event that may be made changes what may be changed

-- the object's entry stands in a queue, so it is one of the script's
in_script : (xs : List ObjectState) (d : DpcNo) (p : CpuNo) → is_queue (option_map (λ at. at.queue) (object_in xs d).standing) p ≡ true → d.0 < length xs
in_script xs d p h =
    elim (cases_lt d.0 (length xs)) [
      | inl l ↦ l
      | inr l ↦ absurd (let bad : is_queue (option_map (λ at. at.queue) start_object.standing) p ≡ true = rw
          (get_or_past xs d.0 start_object l) at h in false≢true bad)
    ]

-- the first insert of a part of a queue is of an object of the script
pub first_in_script : (x : DpcLanes) (p : CpuNo) (part : Part) (i : Insert) → Agrees x → first_dpc part (queue_in x.queues p).pending ≡ Some i →
    IsTrue (has_dpc x.script i.dpc)
first_in_script x p part i a h =
    let held : holds_dpc i.dpc (queue_in x.queues p).pending ≡ true = first_holds part (queue_in x.queues p).pending i h in
    let l : i.dpc.0 < length x.objects = in_script x.objects i.dpc p (sym (a.stands i.dpc p) ∙ held) in
    let m : i.dpc.0 < length x.script.dpcs = omega (arith, a.objects) in
    lt-ltb i.dpc.0 (length x.script.dpcs) m

-- the DPC that begins is the first of its part
taken : (x : DpcLanes) (p : CpuNo) (part : Part) (d : DpcNo) (w : What) → Agrees x → begin_first part (queue_in x.queues p) ≡ Some w →
    ((i : Insert) → begin_dpc part i ≡ w → i.dpc ≡ d) → MayChange x p (Take part d)
taken x p part d w a h same = go (first_dpc part (queue_in x.queues p).pending) refl h
  where
    go : (o : Option Insert) → first_dpc part (queue_in x.queues p).pending ≡ o → option_map (begin_dpc part) o ≡ Some w → MayChange x p (Take part d)
    go None e k = absurd (cc)
    go (Some i) e k =
        let at : begin_dpc part i ≡ w = cc in
        let is : i.dpc ≡ d = same i at in
        (rw is at (first_in_script x p part i a e), rw e (ap Some is))

-- the change of an event that may be made may be made too
pub may_change : (x : DpcLanes) (by : CpuNo) (w : What) → Agrees x → MayLeave x by w → MayChange x by (change_of w)
may_change x by (Call f (Queue d) Yes) a m = (m.object, free_where_yes (is_queued (object_in x.objects d)) m.reply)
may_change x by (Fire d Yes) a m = (m.object, free_where_yes (is_queued (object_in x.objects d)) m.reply)
may_change x by (Call f (Unqueue d) Yes) a m = (m.object, queued_where_yes (is_queued (object_in x.objects d)) m.reply)
may_change x by (Begin (Dpc d) from) a m = taken x by OrdinaryPart d (Begin (Dpc d) from) a m (λ i e. cc)
may_change x by (Begin (Threaded d) from) a m = taken x by ThreadedPart d (Begin (Threaded d) from) a m (λ i e. cc)
may_change x by (Call f (SetImportanceCall d i) Done) a m = m.object
may_change x by (Call f (SetTargetCall d t) Done) a m = (m.0.object, m.1)
may_change x by w a m = tt
