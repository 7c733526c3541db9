-- The states of all lanes: DPC objects, queues, threads, timers and spin locks.
use Rattle.std.specs.List.{list_any}
use Rattle.std.specs.Option.{option_map_or}
use Rattle.std.specs.Prelude.{Bool, List, None, Option, Some, [], false, get_or, if◌then◌else◌, is_some, length}
use Rattle.std.specs.Prelude.{option_and_then, true, ℕ, ◌&&◌, ◌+◌, ◌==◌, ◌∷◌}
use Rattle.nt_event.specs.declared.commands.ApcKind.TheVariants.{User as UserApc}
use Rattle.nt_event.specs.declared.commands.Command.{Command}
use Rattle.nt_event.specs.declared.commands.Reply.{Reply}
use Rattle.nt_event.specs.declared.commands.TimerKey.{TimerKey}
use Rattle.nt_event.specs.declared.commands.TimerKey.TheVariants as keys
use Rattle.nt_event.specs.declared.events.Begun.{Begun}
use Rattle.nt_event.specs.declared.events.Begun.TheVariants as begun
use Rattle.nt_event.specs.declared.events.Event.{Event}
use Rattle.nt_event.specs.declared.events.What.{What}
use Rattle.nt_event.specs.declared.events.What.TheVariants as what
use Rattle.nt_event.specs.declared.frames.Body.{Body}
use Rattle.nt_event.specs.declared.frames.Body.TheVariants as on
use Rattle.nt_event.specs.declared.inserts.Standing.{Standing}
use Rattle.nt_event.specs.declared.jobs.Lane.{Lane}
use Rattle.nt_event.specs.declared.jobs.Lane.TheVariants.{Lock as LockLane, Object as ObjectLane, Queue as QueueLane}
use Rattle.nt_event.specs.declared.jobs.Lane.TheVariants.{Threads as ThreadsLane, Timers as TimersLane}
use Rattle.nt_event.specs.declared.jobs.Stand.{Stand}
use Rattle.nt_event.specs.declared.numbers.CpuNo.{CpuNo}
use Rattle.nt_event.specs.declared.numbers.DpcNo.{DpcNo}
use Rattle.nt_event.specs.declared.numbers.LockNo.{LockNo}
use Rattle.nt_event.specs.declared.numbers.ThreadNo.{ThreadNo}
use Rattle.nt_event.specs.declared.scripts.Script.{Script}
use Rattle.nt_event.specs.Classes.{apc_class, dispatch_class}
use Rattle.nt_event.specs.Locks.{LockState, lock_after, lock_of, start_lock}
use Rattle.nt_event.specs.Objects.{ObjectState, object_after, object_in, objects_at, queue_for}
use Rattle.nt_event.specs.Queues.{QueueState, queue_after, queue_of, start_queue}
use Rattle.nt_event.specs.Regions.{stand_at}
use Rattle.nt_event.specs.Routines.{cpu_of, owner_of}
use Rattle.nt_event.specs.Threads.{ThreadFacts, start_facts}
use Rattle.nt_event.specs.Timers.{Timers, timers_after, timers_at}
use Rattle.nt_event.specs.Waits.{facts, facts_after}
use Rattle.nt_event.specs.Numbers.{cpu, dpc, lock, thread}
use Rattle.nt_event.specs.Replies.{is_refused, is_yes}
use Rattle.nt_event.specs.Lists.{table}
use Rattle.nt_event.specs.Families.{AdvanceTime, DelaysIn, DpcCall, EnterUser, Family, ForApc, ForDpc, ForLevel}
use Rattle.nt_event.specs.Families.{ForLock, ForOwn, ForPlain, ForRegion, ForThread, ForTimer, GiveImportance}
use Rattle.nt_event.specs.Families.{GiveTarget, GivesWay, InsertDpc, OwnCall, PlainCall, RemoveDpc, RequestAt}
use Rattle.nt_event.specs.Families.{TestsAlert, WaitsIn, WriteNote, apc_named, family, lock_named, thread_named}

pub record Lanes : Type 0 where
  pub objects : List ObjectState
  pub queues : List QueueState
  pub threads : List ThreadFacts
  pub timers : Timers
  pub locks : List LockState

abbrev pub lanes_at : Script → List Event → Lanes
lanes_at s past =
    record {
      objects = objects_at s past;
      queues = table s.cpus (λ p. queue_of s (cpu p) past);
      threads = table (length s.threads) (λ t. facts s (thread t) past);
      timers = timers_at s past;
      locks = table s.locks (λ k. lock_of s (lock k) past);
    }

abbrev pub object_at : Lanes → DpcNo → ObjectState
object_at l d = object_in l.objects d

abbrev pub queue_at : Lanes → CpuNo → QueueState
queue_at l p = get_or l.queues p.0 start_queue

abbrev pub facts_at : Lanes → ThreadNo → ThreadFacts
facts_at l t = get_or l.threads t.0 start_facts

abbrev pub lock_at : Lanes → LockNo → LockState
lock_at l k = get_or l.locks k.0 start_lock

-- the facts of a thread that may be none
abbrev pub facts_of : Lanes → Option ThreadNo → ThreadFacts
facts_of l t = option_map_or (facts_at l) t start_facts

-- what the event of this number leaves of the lanes, where its processor stood so
abbrev pub lanes_after : Script → ℕ → Stand → Event → Lanes → Lanes
lanes_after s n st e l =
    record {
      objects = table (length s.dpcs) (λ d. object_after (dpc d) n e.cpu e.what (object_at l (dpc d)));
      queues = table s.cpus (λ p. queue_after s (cpu p) n e.cpu e.what l.objects (queue_at l (cpu p)));
      threads = table (length s.threads) (λ t. facts_after s (thread t) n st e (facts_at l (thread t)));
      timers = timers_after s n st e l.timers;
      locks = table s.locks (λ k. lock_after s (lock k) e (lock_at l (lock k)));
    }

-- ---- lanes that an event touches

abbrev pub same_lane : Lane → Lane → Bool
same_lane (ObjectLane d) (ObjectLane x) = x.0 == d.0
same_lane (QueueLane p) (QueueLane x) = x.0 == p.0
same_lane (ThreadsLane p) (ThreadsLane x) = x.0 == p.0
same_lane TimersLane TimersLane = true
same_lane (LockLane k) (LockLane x) = x.0 == k.0
same_lane (ObjectLane d) (QueueLane x) = false
same_lane (ObjectLane d) (ThreadsLane x) = false
same_lane (ObjectLane d) TimersLane = false
same_lane (ObjectLane d) (LockLane x) = false
same_lane (QueueLane p) (ObjectLane x) = false
same_lane (QueueLane p) (ThreadsLane x) = false
same_lane (QueueLane p) TimersLane = false
same_lane (QueueLane p) (LockLane x) = false
same_lane (ThreadsLane p) (ObjectLane x) = false
same_lane (ThreadsLane p) (QueueLane x) = false
same_lane (ThreadsLane p) TimersLane = false
same_lane (ThreadsLane p) (LockLane x) = false
same_lane TimersLane (ObjectLane x) = false
same_lane TimersLane (QueueLane x) = false
same_lane TimersLane (ThreadsLane x) = false
same_lane TimersLane (LockLane x) = false
same_lane (LockLane k) (ObjectLane x) = false
same_lane (LockLane k) (QueueLane x) = false
same_lane (LockLane k) (ThreadsLane x) = false
same_lane (LockLane k) TimersLane = false

-- lanes are numbered from 0 in the order in which they are taken: objects, queues, threads, timers, spin locks
abbrev pub lane_number : Script → Lane → ℕ
lane_number s (ObjectLane d) = d.0
lane_number s (QueueLane p) = length s.dpcs + p.0
lane_number s (ThreadsLane p) = length s.dpcs + (s.cpus + p.0)
lane_number s TimersLane = length s.dpcs + (s.cpus + s.cpus)
lane_number s (LockLane k) = length s.dpcs + (s.cpus + (s.cpus + (1 + k.0)))

abbrev pub lane_count : Script → ℕ
lane_count s = length s.dpcs + (s.cpus + (s.cpus + (1 + s.locks)))

abbrev pub lane_if : Bool → Lane → List Lane
lane_if true x = x ∷ []
lane_if false x = []

-- the lanes of an insert by p: the object, and on yes the queue that it goes to
abbrev pub insert_lanes : CpuNo → DpcNo → Reply → Lanes → List Lane
insert_lanes p d y l = ObjectLane d ∷ lane_if (is_yes y) (QueueLane (queue_for (object_at l d).target p))

-- the queue where a removed insert stood
abbrev pub standing_lanes : Option Standing → List Lane
standing_lanes None = []
standing_lanes (Some x) = QueueLane x.queue ∷ []

abbrev pub dpc_lanes : CpuNo → DpcCall → Reply → Lanes → List Lane
dpc_lanes p (InsertDpc d) y l = insert_lanes p d y l
dpc_lanes p (RemoveDpc d) y l = ObjectLane d ∷ standing_lanes (object_at l d).standing
dpc_lanes p (GiveImportance d i) y l = ObjectLane d ∷ []
dpc_lanes p (GiveTarget d q) y l = ObjectLane d ∷ []

abbrev pub own_lanes : CpuNo → OwnCall → List Lane
own_lanes p (WaitsIn m a) = ThreadsLane p ∷ []
own_lanes p (DelaysIn m a units) = ThreadsLane p ∷ TimersLane ∷ []
own_lanes p (TestsAlert m) = ThreadsLane p ∷ []
own_lanes p GivesWay = ThreadsLane p ∷ []

abbrev pub plain_lanes : CpuNo → PlainCall → List Lane
plain_lanes p (AdvanceTime units) = TimersLane ∷ []
plain_lanes p EnterUser = ThreadsLane p ∷ []
plain_lanes p (RequestAt q level) = []
plain_lanes p (WriteNote n) = []

abbrev pub family_lanes : Script → CpuNo → Family → Reply → Lanes → List Lane
family_lanes s p (ForLevel k) y l = []
family_lanes s p (ForDpc k) y l = dpc_lanes p k y l
family_lanes s p (ForTimer k) y l = TimersLane ∷ []
family_lanes s p (ForApc k) y l = ThreadsLane (cpu_of s (owner_of s (apc_named k))) ∷ []
family_lanes s p (ForRegion k) y l = []
family_lanes s p (ForOwn k) y l = own_lanes p k
family_lanes s p (ForThread k) y l = ThreadsLane (cpu_of s (thread_named k)) ∷ []
family_lanes s p (ForLock k) y l = LockLane (lock_named k) ∷ []
family_lanes s p (ForPlain k) y l = plain_lanes p k

-- the lanes of a command that isn't refused
abbrev pub command_lanes : Script → CpuNo → Command → Reply → Lanes → List Lane
command_lanes s p c y l = family_lanes s p (family c) y l

abbrev pub begin_lanes : Stand → Begun → List Lane
begin_lanes st (begun.Int level) = []
begin_lanes st (begun.Dpc d) = ObjectLane d ∷ QueueLane st.cpu ∷ lane_if st.sweep TimersLane
begin_lanes st (begun.Threaded d) = ObjectLane d ∷ QueueLane st.cpu ∷ []
begin_lanes st (begun.Apc a) = ThreadsLane st.cpu ∷ []

abbrev pub clean_lanes : Stand → ℕ → List Lane
clean_lanes st class =
    if class == apc_class then (ThreadsLane st.cpu ∷ [])
    else (QueueLane st.cpu ∷ lane_if (st.sweep && (class == dispatch_class)) TimersLane)

abbrev pub expire_lanes : Script → TimerKey → List Lane
expire_lanes s (keys.Timer t) = TimersLane ∷ []
expire_lanes s (keys.Delay t) = ThreadsLane (cpu_of s t) ∷ TimersLane ∷ []

-- the end of a base frame or of a user APC touches the processor's threads, that of another frame no lane
abbrev pub end_lanes : CpuNo → Option Body → List Lane
end_lanes p (Some (on.Base t)) = ThreadsLane p ∷ []
end_lanes p (Some (on.Apc a UserApc)) = ThreadsLane p ∷ []
end_lanes p (Some (on.Int level)) = []
end_lanes p (Some (on.Dpc d)) = []
end_lanes p (Some (on.Threaded d)) = []
end_lanes p (Some (on.Apc a kind)) = []
end_lanes p (Some (on.Rundown a)) = []
end_lanes p None = []

-- the lanes of an event of a processor that stands so
abbrev pub what_lanes : Script → Stand → What → Lanes → List Lane
what_lanes s st (what.Call f c y) l = if is_refused y then [] else command_lanes s st.cpu c y l
what_lanes s st (what.Begin b from) l = begin_lanes st b
what_lanes s st (what.Clean class) l = clean_lanes st class
what_lanes s st (what.Expire key from) l = expire_lanes s key
what_lanes s st (what.Fire d y) l = insert_lanes st.cpu d y l
what_lanes s st (what.Switch t status) l = QueueLane st.cpu ∷ ThreadsLane st.cpu ∷ []
what_lanes s st (what.Rewait f y) l =
    ThreadsLane st.cpu ∷ lane_if (is_some (option_and_then (λ w. w.due) st.again)) TimersLane
what_lanes s st (what.Free f k) l = LockLane k ∷ []
what_lanes s st what.Rest l = QueueLane st.cpu ∷ ThreadsLane st.cpu ∷ []
what_lanes s st (what.End f) l = end_lanes st.cpu st.body
what_lanes s st (what.Flush a from) l = ThreadsLane st.cpu ∷ []
what_lanes s st (what.Gone t) l = ThreadsLane st.cpu ∷ []
what_lanes s st (what.Look r) l = []
what_lanes s st (what.Normal f) l = []

abbrev pub lanes_of : Script → Event → List Event → List Lane
lanes_of s e past = what_lanes s (stand_at s e.cpu past) e.what (lanes_at s past)

abbrev pub touches : Script → Lane → Event → List Event → Bool
touches s x e past = list_any (same_lane x) (lanes_of s e past)
