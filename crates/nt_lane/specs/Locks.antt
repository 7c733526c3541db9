-- The lanes that an act holds: their states, with their records.
use Rattle.std.specs.Prelude.{IfSome, List, None, Option, Some, [], option_map, ℕ, ◌*◌, ◌^◌, ◌≤◌}
use Rattle.nt_event.specs.declared.jobs.Lane.{Lane}
use Rattle.nt_event.specs.declared.jobs.Lane.TheVariants.{Lock as LockLane, Object as ObjectLane, Queue as QueueLane}
use Rattle.nt_event.specs.declared.jobs.Lane.TheVariants.{Threads as ThreadsLane, Timers as TimersLane}
use Rattle.nt_event.specs.declared.scripts.Script.{Script}
use Rattle.nt_event.specs.LaneStates.{Content, OfLock, OfObject, OfQueue, OfTimers, told_at}
use Rattle.nt_event.specs.Timers.{Timers}
use Rattle.nt_dpc.specs.Objects.{ObjectFacts}
use Rattle.nt_dpc.specs.Queues.{QueueFacts}
use Rattle.nt_event.specs.Acts.{Found, Told}
use Rattle.nt_mark.specs.declared.view.View.{View}
use Rattle.nt_mark.specs.Rule.{IsLongest}
use Rattle.nt_mark.specs.Views.{reach, step_word}
use Rattle.nt_timer.specs.Laws.{IsSized}
use Rattle.nt_lane.specs.Answers.{HeldStates, held_lanes}
use Rattle.nt_lane_record.specs.Held.{GroupState, IsGroupThere, IsLastNoted, IsObjectThere, IsQueueThere, IsSpinThere}
use Rattle.nt_lane_record.specs.Held.{SpinFacts, group_content, next_of}
use Rattle.nt_lane_record.specs.Records.{AreKnown, Knows, LaneRecord}

-- a state, with the lane's record
pub record Kept (A : Type 0) : Type 0 where
  pub state : A
  pub log : LaneRecord

abbrev pub kept : {A : Type 0} → A → LaneRecord → Kept A
kept x r = record { state = x; log = r }

-- of what is there, this
abbrev pub in_each : {A B : Type 0} → Option A → (A → B) → Option B
in_each o f = option_map f o

-- at most one of each kind
pub record HeldLanes : Type 0 where
  pub object : Option (Kept ObjectFacts)
  pub queue : Option (Kept QueueFacts)
  pub group : Option (Kept GroupState)
  pub timers : Option (Kept Timers)
  pub spin_lock : Option (Kept SpinFacts)

-- their states, of a script
abbrev pub states_of : Script → HeldLanes → HeldStates
states_of s h =
    record {
      script = s;
      object = in_each h.object (λ k. k.state);
      queue = in_each h.queue (λ k. k.state);
      group = in_each h.group (λ k. k.state);
      timers = in_each h.timers (λ k. k.state);
      spin_lock = in_each h.spin_lock (λ k. k.state);
    }

-- what a lane tells of requests; nothing where it isn't held
abbrev pub told_of : {A : Type 0} → Option (Kept A) → List (List ℕ)
told_of None = []
told_of (Some k) = k.log.told

-- what the held lanes tell: an object that isn't held tells like the held one
abbrev pub told_in : HeldLanes → Told
told_in h (ObjectLane d) p c = told_at (told_of h.object) p c
told_in h (QueueLane q) p c = told_at (told_of h.queue) p c
told_in h (ThreadsLane q) p c = told_at (told_of h.group) p c
told_in h TimersLane p c = told_at (told_of h.timers) p c
told_in h (LockLane k) p c = told_at (told_of h.spin_lock) p c

-- the states in which an act makes its event, with what the lanes tell of requests before it
abbrev pub found_in : Script → HeldLanes → Found
found_in s h = record { lanes = held_lanes (states_of s h); told = told_in h }

-- ---- what holds of each at any time

-- the state is the one that was noted last, the time is as far as the events of the list may have let it advance, and
-- the state is of the script
pub record IsLane (s : Script) (name : Lane) (content : Content) (time : ℕ) (Fits : Type 0)
    (r : LaneRecord) : Type 0 where
  pub noted : IsLastNoted s name content r
  pub time_is : time ≤ next_of r.notes * 2 ^ 32
  pub fits : Fits

pub record AreLanes (s : Script) (h : HeldLanes) : Type 0 where
  pub object : IfSome h.object
      (λ k. IsLane s (ObjectLane k.state.dpc) (OfObject k.state.state) 0 (IsObjectThere s k.state) k.log)
  pub queue : IfSome h.queue
      (λ k. IsLane s (QueueLane k.state.cpu) (OfQueue k.state.state) 0 (IsQueueThere s k.state) k.log)
  pub group : IfSome h.group
      (λ k. IsLane s (ThreadsLane k.state.cpu) (group_content k.state) 0 (IsGroupThere s k.state) k.log)
  pub timers : IfSome h.timers (λ k. IsLane s TimersLane (OfTimers k.state) k.state.now (IsSized s k.state) k.log)
  pub spin_lock : IfSome h.spin_lock
      (λ k. IsLane s (LockLane k.state.lock) (OfLock k.state.state) 0 (IsSpinThere s k.state) k.log)

-- ---- what a pass knows of them, once it met them

-- the lane's list and what it tells are known, and the numbers of its list are below what is known to be drawn
pub record IsKnownBy (r : LaneRecord) (v : View) : Type 0 where
  pub known : r.known ≤ reach step_word v
  pub above : next_of r.notes ≤ reach step_word v
  pub tells : AreKnown r.told v
  pub knows : Knows r.lane r.notes v

pub record AreKnownBy (h : HeldLanes) (v : View) : Type 0 where
  pub object : IfSome h.object (λ k. IsKnownBy k.log v)
  pub queue : IfSome h.queue (λ k. IsKnownBy k.log v)
  pub group : IfSome h.group (λ k. IsKnownBy k.log v)
  pub timers : IfSome h.timers (λ k. IsKnownBy k.log v)
  pub spin_lock : IfSome h.spin_lock (λ k. IsKnownBy k.log v)

-- the pass knows no list of one of them that goes beyond the lane's own
pub record AreLongest (h : HeldLanes) (v : View) : Type 0 where
  pub object : IfSome h.object (λ k. IsLongest k.log.lane k.log.notes v)
  pub queue : IfSome h.queue (λ k. IsLongest k.log.lane k.log.notes v)
  pub group : IfSome h.group (λ k. IsLongest k.log.lane k.log.notes v)
  pub timers : IfSome h.timers (λ k. IsLongest k.log.lane k.log.notes v)
  pub spin_lock : IfSome h.spin_lock (λ k. IsLongest k.log.lane k.log.notes v)

-- each has room for one event more
pub record AreRoomy (h : HeldLanes) : Type 0 where
  pub object : IfSome h.object (λ k. 1 ≤ k.log.room)
  pub queue : IfSome h.queue (λ k. 1 ≤ k.log.room)
  pub group : IfSome h.group (λ k. 1 ≤ k.log.room)
  pub timers : IfSome h.timers (λ k. 1 ≤ k.log.room)
  pub spin_lock : IfSome h.spin_lock (λ k. 1 ≤ k.log.room)
