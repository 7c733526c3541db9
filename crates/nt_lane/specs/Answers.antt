-- What a few held lanes tell: their own states, and any states of the other lanes.
use Rattle.std.specs.Prelude.{IfSome, IsSome, IsTrue, List, None, Option, Some, length, option_map, replicate, ◌≡◌}
use Rattle.nt_event.specs.declared.jobs.Lane.{Lane}
use Rattle.nt_event.specs.declared.jobs.Lane.TheVariants.{Lock as LockLane, Object as ObjectLane, Queue as QueueLane}
use Rattle.nt_event.specs.declared.jobs.Lane.TheVariants.{Threads as ThreadsLane, Timers as TimersLane}
use Rattle.nt_event.specs.declared.scripts.Script.{Script}
use Rattle.nt_event.specs.Lanes.{Lanes}
use Rattle.nt_event.specs.Locks.{LockState, start_lock}
use Rattle.nt_event.specs.Objects.{ObjectState, start_object}
use Rattle.nt_event.specs.Queues.{QueueState, is_queue, start_queue}
use Rattle.nt_event.specs.Script.{fits}
use Rattle.nt_event.specs.Threads.{ThreadFacts, start_facts}
use Rattle.nt_event.specs.Timers.{Timers}
use Rattle.nt_dpc.specs.Objects.{ObjectFacts}
use Rattle.nt_dpc.specs.Queues.{QueueFacts, holds_dpc}
use Rattle.nt_timer.specs.Laws.{IsSized}
use Rattle.nt_timer.specs.Settings.{new_timers}
use Rattle.nt_lane_record.specs.Held.{GroupState, IsGroupThere, IsObjectThere, IsQueueThere, IsSpinThere, SpinFacts}

-- the script, and the states of the lanes that are held, at most one of each kind
pub record HeldStates : Type 0 where
  pub script : Script
  pub object : Option ObjectFacts
  pub queue : Option QueueFacts
  pub group : Option GroupState
  pub timers : Option Timers
  pub spin_lock : Option SpinFacts

-- ---- the states that they tell of all lanes: an object, a queue or a spin lock that isn't held is told like the held
-- one

abbrev pub object_told : Option ObjectFacts → ObjectState
object_told None = start_object
object_told (Some o) = o.state

abbrev pub queue_told : Option QueueFacts → QueueState
queue_told None = start_queue
queue_told (Some q) = q.state

abbrev pub threads_told : Script → Option GroupState → List ThreadFacts
threads_told s None = replicate (length s.threads) start_facts
threads_told s (Some g) = g.threads.facts

abbrev pub timers_told : Script → Option Timers → Timers
timers_told s None = new_timers (length s.timers) (length s.threads)
timers_told s (Some t) = t

abbrev pub spin_told : Option SpinFacts → LockState
spin_told None = start_lock
spin_told (Some x) = x.state

abbrev pub held_lanes : HeldStates → Lanes
held_lanes h =
    record {
      objects = replicate (length h.script.dpcs) (object_told h.object);
      queues = replicate h.script.cpus (queue_told h.queue);
      threads = threads_told h.script h.group;
      timers = timers_told h.script h.timers;
      locks = replicate h.script.locks (spin_told h.spin_lock);
    }

-- the lane is held
abbrev pub IsHeld : HeldStates → Lane → Type 0
IsHeld h (ObjectLane d) = IsSome h.object × IfSome h.object (λ o. o.dpc ≡ d)
IsHeld h (QueueLane p) = IsSome h.queue × IfSome h.queue (λ q. q.cpu ≡ p)
IsHeld h (ThreadsLane p) = IsSome h.group × IfSome h.group (λ g. g.cpu ≡ p)
IsHeld h TimersLane = IsSome h.timers
IsHeld h (LockLane k) = IsSome h.spin_lock × IfSome h.spin_lock (λ x. x.lock ≡ k)

-- ---- what holds of them

-- a queue has an entry of an object exactly where the object stands in it
abbrev pub BothAgree : Option ObjectFacts → Option QueueFacts → Type 0
BothAgree (Some o) (Some q) =
    holds_dpc o.dpc q.state.pending ≡ is_queue (option_map (λ at. at.queue) o.state.standing) q.cpu
BothAgree (Some o) None = Unit {0}
BothAgree None q = Unit {0}

pub record AreThere (h : HeldStates) : Type 0 where
  pub script : IsTrue (fits h.script)
  pub object : IfSome h.object (IsObjectThere h.script)
  pub queue : IfSome h.queue (IsQueueThere h.script)
  pub group : IfSome h.group (IsGroupThere h.script)
  pub timers : IfSome h.timers (IsSized h.script)
  pub spin_lock : IfSome h.spin_lock (IsSpinThere h.script)
  pub agree : BothAgree h.object h.queue
