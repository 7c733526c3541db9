-- What the events of the machine leave of an object and of a queue is what the calls leave.
use Rattle.std.proofs.Common.{◌≡◌, Bool, true, false, List, ◌∷◌, Some, None, ℕ, cond, eqb, nat_lt, refl, ◌+◌}
use Rattle.nt_event.proofs.Booleans.{either_way, same}
use Rattle.nt_event.specs.declared.commands.Command.TheVariants.{Unqueue}
use Rattle.nt_event.specs.declared.commands.Reply.TheVariants.{Yes}
use Rattle.nt_event.specs.declared.events.What.TheVariants.{Call}
use Rattle.nt_event.specs.declared.inserts.Part.{Part}
use Rattle.nt_event.specs.declared.inserts.Part.TheVariants.{Ordinary as OrdinaryPart, Threaded as ThreadedPart}
use Rattle.nt_event.specs.declared.numbers.CpuNo.{CpuNo}
use Rattle.nt_event.specs.declared.scripts.Script.{Script}
use Rattle.nt_event.specs.Objects.{ObjectState, queue_for}
use Rattle.nt_event.specs.Queues.{QueueState, add_insert, depth_of, drop_insert, insert_asks, without_dpc}
use Rattle.nt_event.specs.Requests.{ask_if, dpc_asks}
use Rattle.nt_event.specs.Routines.{depth_limit}
use Rattle.nt_dpc.specs.Laws.{AskIsTheEvents, IsObject, ObjectCallsAreEvents, QueueCallsAreEvents, asks_on}
use Rattle.nt_dpc.specs.Objects.{ObjectFacts, entry_of}
use Rattle.nt_dpc.specs.Queues.{QueueFacts, class_in}

-- ---- objects

-- what an event that touches a DPC object leaves of it is what the call leaves
pub object_calls_are_events : ObjectCallsAreEvents
object_calls_are_events =
    record {
      importance = λ o n f by i. rw (same o.dpc.0);
      target = λ o n f by t. rw (same o.dpc.0);
      queue = λ o n f by q e. rw (same o.dpc.0, e);
      fire = λ o n by q e. rw (same o.dpc.0, e);
      unqueue = λ o n f by. rw (same o.dpc.0);
      begin_dpc = λ o n from by. rw (same o.dpc.0);
      begin_threaded = λ o n from by. rw (same o.dpc.0);
    }

-- ---- queues

-- an accepted insert of an object whose target is a queue adds its entry in front of this queue's list
added : (s : Script) (objects : List ObjectState) (o : ObjectFacts) (q : QueueFacts) (n : ℕ) (by : CpuNo) → IsObject s objects o →
    queue_for o.state.target by ≡ q.cpu → add_insert s q.cpu n by (Some o.dpc) objects q.state.pending ≡ entry_of n o ∷ q.state.pending
added s objects o q n by h e = rw (h.state, h.part, e, same q.cpu.0)

-- removing a queued object drops its entry from the queue in which it stands
dropped : (s : Script) (objects : List ObjectState) (o : ObjectFacts) (q : QueueFacts) (f m : ℕ) (by : CpuNo) → IsObject s objects o →
    o.state.standing ≡ Some (record { queue = q.cpu; number = m }) → drop_insert q.cpu by (Call f (Unqueue o.dpc) Yes)
    (Some o.dpc) objects q.state.pending ≡ without_dpc o.dpc q.state.pending
dropped s objects o q f m by h e = rw (h.state, e, same q.cpu.0)

-- what an event that touches a DPC queue leaves of it is what the call leaves
pub queue_calls_are_events : QueueCallsAreEvents
queue_calls_are_events =
    record {
      queue = λ s objects o q n f by h e. λ i. record { pending = added s objects o q n by h e i; idle = either_way (eqb by.0 q.cpu.0) q.state.idle i };
      fire = λ s objects o q n by h e. λ i. record { pending = added s objects o q n by h e i; idle = either_way (eqb by.0 q.cpu.0) q.state.idle i };
      unqueue = λ s objects o q n f m by h e. λ i. record { pending = dropped s objects o q f m by h e i; idle = either_way (eqb by.0 q.cpu.0) q.state.idle i };
      begin_dpc = λ s objects d q n from. rw (same q.cpu.0);
      begin_threaded = λ s objects d q n from. rw (same q.cpu.0);
      rest = λ s objects q n. rw (same q.cpu.0);
      switch = λ s objects q n t status. rw (same q.cpu.0);
    }

-- ---- asks

-- an insert asks on its queue for the class that the importance, the processor, the depth and idleness give
asks_of_class : (s : Script) (part : Part) (o : ObjectState) (by q : CpuNo) (x : QueueState) (limit : ℕ) → limit ≡ depth_limit s →
    dpc_asks s part o by q x ≡ asks_on q (class_in part (insert_asks o.importance (eqb q.0 by.0) (nat_lt limit (depth_of x.pending + 1)) x.idle))
asks_of_class s ThreadedPart o by q x limit e = refl
asks_of_class s OrdinaryPart o by q x limit e =
    rw e (asked (insert_asks o.importance (eqb q.0 by.0) (nat_lt (depth_limit s) (depth_of x.pending + 1)) x.idle) q)
  where
    asked : (b : Bool) (q : CpuNo) → ask_if b q 2 ≡ asks_on q (cond b (Some 2) None)
    asked true q = refl
    asked false q = refl

-- an insert of an object that isn't queued asks for the class that the call answers
pub ask_is_the_events : AskIsTheEvents
ask_is_the_events s l o q by h at limit to free =
    rw (h.state, h.part, to, at, free) (asks_of_class s o.part o.state by q.cpu q.state q.limit limit)
