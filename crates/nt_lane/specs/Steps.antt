-- The steps of an act on the lanes that it holds, once its event was drawn.
use Rattle.std.specs.Prelude.{All, Bool, Contains, IfSome, IsTrue, List, None, Option, Some, [], false, length}
use Rattle.std.specs.Prelude.{replicate, true, ℕ, ◌++◌, ◌<◌, ◌∷◌, ◌≡◌, ◌≤◌}
use Rattle.nt_event.specs.declared.events.Event.{Event}
use Rattle.nt_event.specs.declared.jobs.Lane.{Lane}
use Rattle.nt_event.specs.declared.jobs.Lane.TheVariants.{Lock as LockLane, Object as ObjectLane, Queue as QueueLane}
use Rattle.nt_event.specs.declared.jobs.Lane.TheVariants.{Threads as ThreadsLane, Timers as TimersLane}
use Rattle.nt_event.specs.declared.jobs.Stand.{Stand}
use Rattle.nt_event.specs.declared.limits.TheConstants.{EVENTS}
use Rattle.nt_event.specs.declared.scripts.Script.{Script}
use Rattle.nt_event.specs.LaneStates.{Content, OfLock, OfObject, OfQueue, OfTimers}
use Rattle.nt_event.specs.Locks.{lock_after}
use Rattle.nt_event.specs.Objects.{ObjectState, object_after}
use Rattle.nt_event.specs.Queues.{queue_after}
use Rattle.nt_event.specs.Requests.{Ask}
use Rattle.nt_event.specs.Script.{has_cpu}
use Rattle.nt_event.specs.Step.{thread_field}
use Rattle.nt_event.specs.Timers.{Timers, timers_after}
use Rattle.nt_dpc.specs.Laws.{IsObject}
use Rattle.nt_dpc.specs.Objects.{ObjectFacts}
use Rattle.nt_dpc.specs.Queues.{QueueFacts}
use Rattle.nt_dpc_lanes.specs.Changes.{change_of}
use Rattle.nt_event.specs.Acts.{is_among}
use Rattle.nt_mark.specs.declared.view.Note.{Note}
use Rattle.nt_mark.specs.declared.view.View.{View}
use Rattle.nt_mark.specs.Views.{entry, note_of, reach, step_word}
use Rattle.nt_states.specs.Timed.{MayTime}
use Rattle.nt_states.specs.LaneLists.{AskFits}
use Rattle.nt_states.specs.ThreadFits.{RunsHere, WhatFits, named_thread}
use Rattle.nt_lane_record.specs.Changed.{MayChangeBoth, MayChangeObject, MayChangeQueue}
use Rattle.nt_states.specs.ThreadLanes.{left}
use Rattle.nt_lane_record.specs.Held.{GroupState, IsObjectThere, IsQueueThere, SpinFacts, group_content, next_of}
use Rattle.nt_lane.specs.Answers.{object_told}
use Rattle.nt_lane.specs.Locks.{HeldLanes, Kept, in_each}
use Rattle.nt_lane_record.specs.Records.{IsAskKnown, Knows, LaneRecord, told_then}

-- the event of this number was drawn as one of these lanes, and what it asks for is known to have been asked
pub record IsStep (s : Script) (v : View) (n : ℕ) (e : Event) (numbers : List ℕ) (asks : List Ask) : Type 0 where
  pub drew : Contains v.entries (entry n e numbers)
  pub beyond : n < reach step_word v
  pub below : n < EVENTS
  pub asks_named : All (AskFits s) asks
  pub asked : All (IsAskKnown n v) asks

-- the lane is one of those lanes, its list ends below the number, and it has room
pub record IsReady (n : ℕ) (numbers : List ℕ) (r : LaneRecord) : Type 0 where
  pub known : r.known ≤ n
  pub above : next_of r.notes ≤ n
  pub room : 1 ≤ r.room
  pub touched : Contains numbers r.lane

-- what the lane's note shows, where the event leaves this content
abbrev pub note_left : Script → ℕ → List Ask → Content → LaneRecord → Note
note_left s n asks content r = note_of n (record { content = content; told = told_then s.cpus n asks r.told } ∷ [])

-- the pass knows the lane's list with that note behind it
abbrev pub KnowsLeft : Script → ℕ → List Ask → Content → LaneRecord → View → Type 0
KnowsLeft s n asks content r v = Knows r.lane (r.notes ++ note_left s n asks content r ∷ []) v

-- ---- what an event may leave, by kind

abbrev pub object_left : ℕ → Event → ObjectFacts → ObjectFacts
object_left n e o = record o { state = object_after o.dpc n e.cpu e.what o.state }

abbrev pub queue_left : Script → ℕ → Event → List ObjectState → QueueFacts → QueueFacts
queue_left s n e objects q = record q { state = queue_after s q.cpu n e.cpu e.what objects q.state }

abbrev pub spin_left : Script → Event → SpinFacts → SpinFacts
spin_left s e x = record x { state = lock_after s x.lock e x.state }

pub record MayLeaveObject (s : Script) (n : ℕ) (e : Event) (o : ObjectFacts) : Type 0 where
  pub may : MayChangeObject o (change_of e.what)
  pub there : IsObjectThere s (object_left n e o)

pub record MayLeaveQueue (s : Script) (n : ℕ) (e : Event) (q : QueueFacts) : Type 0 where
  pub may : MayChangeQueue (change_of e.what)
  pub own : q.cpu ≡ e.cpu
  pub there : (objects : List ObjectState) → IsQueueThere s (queue_left s n e objects q)

pub record MayLeaveBoth (s : Script) (n : ℕ) (e : Event) (o : ObjectFacts) (q : QueueFacts) : Type 0 where
  pub may : MayChangeBoth o q e.cpu (change_of e.what)
  pub object : IsObjectThere s (object_left n e o)
  pub queue : (objects : List ObjectState) → IsObject s objects o → IsQueueThere s (queue_left s n e objects q)

pub record MayLeaveGroup (s : Script) (st : Stand) (e : Event) (g : GroupState) : Type 0 where
  pub script : g.threads.script ≡ s
  pub cpu : e.cpu ≡ st.cpu
  pub thread : e.thread ≡ thread_field e.what st.thread
  pub what : WhatFits g.threads st e.what
  pub runs : named_thread s e.what ≡ None → IfSome st.thread (RunsHere g.threads st)

pub record MayLeaveTimers (s : Script) (e : Event) (t : Timers) : Type 0 where
  pub may : MayTime s t e e.what

pub record MayLeaveSpin (s : Script) (st : Stand) (e : Event) : Type 0 where
  pub cpu : IsTrue (has_cpu s st.cpu)
  pub own : e.cpu ≡ st.cpu

-- ---- what the pass knows of a held lane after the event, by kind

abbrev pub LeavesGroup : Script → ℕ → Stand → Event → List Ask → Kept GroupState → View → Type 0
LeavesGroup s n st e asks k v =
    KnowsLeft s n asks (group_content (record k.state { threads = left n st e k.state.threads })) k.log v

abbrev pub LeavesTimers : Script → ℕ → Stand → Event → List Ask → Kept Timers → View → Type 0
LeavesTimers s n st e asks k v = KnowsLeft s n asks (OfTimers (timers_after s n st e k.state)) k.log v

abbrev pub LeavesSpin : Script → ℕ → Event → List Ask → Kept SpinFacts → View → Type 0
LeavesSpin s n e asks k v = KnowsLeft s n asks (OfLock (spin_left s e k.state).state) k.log v

abbrev pub LeavesObject : Script → ℕ → Event → List Ask → Kept ObjectFacts → View → Type 0
LeavesObject s n e asks k v = KnowsLeft s n asks (OfObject (object_left n e k.state).state) k.log v

abbrev pub LeavesQueue : Script → ℕ → Event → List ObjectState → List Ask → Kept QueueFacts → View → Type 0
LeavesQueue s n e objects asks k v = KnowsLeft s n asks (OfQueue (queue_left s n e objects k.state).state) k.log v

-- ---- of all held lanes

-- the lane, if it is held, is one of these
abbrev pub is_touched : Option Lane → List Lane → Bool
is_touched None lanes = false
is_touched (Some x) lanes = is_among x lanes

abbrev pub object_name : Kept ObjectFacts → Lane
object_name k = ObjectLane k.state.dpc

abbrev pub queue_name : Kept QueueFacts → Lane
queue_name k = QueueLane k.state.cpu

-- the objects that a held object is told as
abbrev pub objects_told : Script → Option (Kept ObjectFacts) → List ObjectState
objects_told s o = replicate (length s.dpcs) (object_told (in_each o (λ k. k.state)))

-- an object and a queue, each held or not, each touched or not, may leave the event
abbrev pub DpcsReady : Script → ℕ → Event → List ℕ → Bool → Bool → Option (Kept ObjectFacts) →
    Option (Kept QueueFacts) → Type 0
DpcsReady s n e numbers true true o q =
    IfSome o (λ x. IfSome q (λ y. (IsReady n numbers x.log × IsReady n numbers y.log) ×
    (IsObject s (objects_told s o) x.state × MayLeaveBoth s n e x.state y.state)))
DpcsReady s n e numbers true false o q = IfSome o (λ x. IsReady n numbers x.log × MayLeaveObject s n e x.state)
DpcsReady s n e numbers false true o q = IfSome q (λ y. IsReady n numbers y.log × MayLeaveQueue s n e y.state)
DpcsReady s n e numbers false false o q = Unit {0}

-- they left it
abbrev pub DpcsLeft : Script → ℕ → Event → List Ask → View → Bool → Bool → Option (Kept ObjectFacts) →
    Option (Kept QueueFacts) → Type 0
DpcsLeft s n e asks v true true o q =
    IfSome o (λ x. IfSome q (λ y. LeavesObject s n e asks x v × LeavesQueue s n e (objects_told s o) asks y v))
DpcsLeft s n e asks v true false o q = IfSome o (λ x. LeavesObject s n e asks x v)
DpcsLeft s n e asks v false true o q = IfSome q (λ y. LeavesQueue s n e (objects_told s o) asks y v)
DpcsLeft s n e asks v false false o q = Unit {0}

-- each of the held lanes that is touched may leave the event
pub record AreReadyFor (s : Script) (n : ℕ) (st : Stand) (e : Event) (lanes : List Lane) (numbers : List ℕ)
    (h : HeldLanes) : Type 0 where
  pub dpcs : DpcsReady s n e numbers (is_touched (in_each h.object object_name) lanes)
      (is_touched (in_each h.queue queue_name) lanes) h.object h.queue
  pub group : IfSome h.group
      (λ k. IsTrue (is_among (ThreadsLane k.state.cpu) lanes) → IsReady n numbers k.log × MayLeaveGroup s st e k.state)
  pub timers : IfSome h.timers
      (λ k. IsTrue (is_among TimersLane lanes) → IsReady n numbers k.log × MayLeaveTimers s e k.state)
  pub spin_lock : IfSome h.spin_lock
      (λ k. IsTrue (is_among (LockLane k.state.lock) lanes) → IsReady n numbers k.log × MayLeaveSpin s st e)

-- each of them did, as the pass knows
pub record AreLeftBy (s : Script) (n : ℕ) (st : Stand) (e : Event) (lanes : List Lane) (asks : List Ask)
    (h : HeldLanes) (v : View) : Type 0 where
  pub dpcs : DpcsLeft s n e asks v (is_touched (in_each h.object object_name) lanes)
      (is_touched (in_each h.queue queue_name) lanes) h.object h.queue
  pub group : IfSome h.group (λ k. IsTrue (is_among (ThreadsLane k.state.cpu) lanes) → LeavesGroup s n st e asks k v)
  pub timers : IfSome h.timers (λ k. IsTrue (is_among TimersLane lanes) → LeavesTimers s n st e asks k v)
  pub spin_lock : IfSome h.spin_lock (λ k. IsTrue (is_among (LockLane k.state.lock) lanes) → LeavesSpin s n e asks k v)
