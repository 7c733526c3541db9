-- Which DPC object and which queue an event touches, and how it changes them.
use Rattle.std.proofs.Common.{ap, refl, subst, sym, ◌∙◌}
use Rattle.std.specs.List.{list_any}
use Rattle.std.specs.Prelude.{Bool, IfSome, IsTrue, List, None, Option, Some, [], false, if◌then◌else◌, is_some, not, option_and_then, option_map, true, ℕ}
use Rattle.std.specs.Prelude.{◌&&◌, ◌==◌, ◌||◌, ◌∷◌, ◌≡◌}
use Rattle.nt_event.specs.declared.commands.ApcKind.TheVariants.{User as UserApc}
use Rattle.nt_event.specs.declared.commands.Command.{Command}
use Rattle.nt_event.specs.declared.commands.Command.TheVariants.{Queue, SetImportance as SetImportanceCall, SetTarget as SetTargetCall, Unqueue}
use Rattle.nt_event.specs.declared.commands.Reply.{Reply}
use Rattle.nt_event.specs.declared.commands.TimerKey.{TimerKey}
use Rattle.nt_event.specs.declared.commands.TimerKey.TheVariants as keys
use Rattle.nt_event.specs.declared.events.Begun.TheVariants.{Dpc, Threaded}
use Rattle.nt_event.specs.declared.events.What.{What}
use Rattle.nt_event.specs.declared.events.What.TheVariants.{Begin, Call, Clean, End, Expire, Fire, Rest as RestEvent, Rewait, Switch}
use Rattle.nt_event.specs.declared.frames.Body.{Body}
use Rattle.nt_event.specs.declared.frames.Body.TheVariants as on
use Rattle.nt_event.specs.declared.inserts.Insert.{Insert as InsertEntry}
use Rattle.nt_event.specs.declared.inserts.Part.TheVariants.{Ordinary as OrdinaryPart, Threaded as ThreadedPart}
use Rattle.nt_event.specs.declared.inserts.Standing.{Standing}
use Rattle.nt_event.specs.declared.jobs.Lane.{Lane}
use Rattle.nt_event.specs.declared.jobs.Lane.TheVariants.{Object as ObjectLane, Queue as QueueLane, Threads as ThreadsLane, Timers as TimersLane}
use Rattle.nt_event.specs.declared.jobs.Stand.{Stand}
use Rattle.nt_event.specs.declared.numbers.CpuNo.{CpuNo}
use Rattle.nt_event.specs.declared.numbers.DpcNo.{DpcNo}
use Rattle.nt_event.specs.declared.scripts.Script.{Script}
use Rattle.nt_event.specs.Jobs.{begin_dpc}
use Rattle.nt_event.specs.Classes.{apc_class, dispatch_class}
use Rattle.nt_event.specs.Lanes.{Lanes, command_lanes, end_lanes, expire_lanes, insert_lanes, lane_if, object_at, queue_at, same_lane, standing_lanes}
use Rattle.nt_event.specs.Lanes.{what_lanes}
use Rattle.nt_event.specs.Objects.{is_queued, queue_for}
use Rattle.nt_event.specs.Queues.{first_dpc}
use Rattle.nt_event.specs.Replies.{is_refused, is_yes, yes_if}
use Rattle.nt_event.specs.Acts.{is_among}
use Rattle.nt_dpc_lanes.specs.Changes.{call_change, change_of, change_where}
use Rattle.nt_states.specs.DpcLanes.{DpcLanes, MayLeave}
use Rattle.nt_dpc_lanes.specs.declared.changes.Change.{Change}
use Rattle.nt_dpc_lanes.specs.declared.changes.Change.TheVariants.{Insert, Nothing, Remove, SetImportance, SetTarget, Take}
use Rattle.nt_event.specs.Script.{has_cpu}
use Rattle.nt_lane_record.specs.Changed.{MayChangeQueue}
use Rattle.nt_states.specs.Reads.{AreHeld}

abbrev pub NoObject : List Lane → Type 0
NoObject lanes = (x : DpcNo) → is_among (ObjectLane x) lanes ≡ false

abbrev pub NoQueue : List Lane → Type 0
NoQueue lanes = (x : CpuNo) → is_among (QueueLane x) lanes ≡ false

-- the one object among the lanes
pub record TheObject (d : DpcNo) (lanes : List Lane) : Type 1 where
  pub among : (x : DpcNo) → is_among (ObjectLane x) lanes ≡ (d.0 == x.0)
  pub held : (P : Lane → Type 0) → AreHeld P lanes → P (ObjectLane d)

pub record TheQueue (p : CpuNo) (lanes : List Lane) : Type 1 where
  pub among : (x : CpuNo) → is_among (QueueLane x) lanes ≡ (p.0 == x.0)
  pub held : (P : Lane → Type 0) → AreHeld P lanes → P (QueueLane p)

-- an object is set, to a target that the script has, or nothing changes
abbrev pub Sets : Script → DpcNo → Change → Type 0
Sets s d (SetImportance x i) = x ≡ d
Sets s d (SetTarget x t) = (x ≡ d) × IfSome t (λ p. IsTrue (has_cpu s p))
Sets s d Nothing = Unit {0}
Sets s d c = ⊥

-- an object is inserted, removed or taken, in the states of the lanes
abbrev pub Moves : Lanes → CpuNo → DpcNo → CpuNo → Change → Type 0
Moves l by d p (Insert x) = (x ≡ d) × (is_queued (object_at l d) ≡ false) × (queue_for (object_at l d).target by ≡ p)
Moves l by d p (Remove x) = (x ≡ d) × (z : Standing) × ((object_at l d).standing ≡ Some z) × (z.queue ≡ p)
Moves l by d p (Take part x) = (x ≡ d) × (p ≡ by) × (option_map (λ (i : InsertEntry). i.dpc) (first_dpc part (queue_at l p).pending) ≡ Some d)
Moves l by d p c = ⊥

pub data Shape (s : Script) (l : Lanes) (by : CpuNo) (lanes : List Lane) (c : Change) : Type 1 where
  Neither : NoObject lanes → NoQueue lanes → Shape s l by lanes c
  Alone : (d : DpcNo) → TheObject d lanes → NoQueue lanes → Sets s d c → Shape s l by lanes c
  Own : NoObject lanes → TheQueue by lanes → MayChangeQueue c → Shape s l by lanes c
  Both : (d : DpcNo) (p : CpuNo) → TheObject d lanes → TheQueue p lanes → Moves l by d p c → Shape s l by lanes c

-- ---- lists of lanes

-- a disjunction with false is its first part
or_off : (b : Bool) → (b || false) ≡ b
or_off true = refl
or_off false = refl

-- a lane that is not the timers is not in a list that has the timers or nothing
if_timers : (b : Bool) (x : Lane) → same_lane x TimersLane ≡ false → list_any (same_lane x) (lane_if b TimersLane) ≡ false
if_timers true x h = rw h refl
if_timers false x h = refl

-- case: an event that touches one DPC object alone touches that object
object_only : (d : DpcNo) → TheObject d (ObjectLane d ∷ [])
object_only d = record { among = λ x. or_off (d.0 == x.0); held = λ P h. h.0 }

-- case: an event that touches a DPC object and a queue touches that object
object_first : (d : DpcNo) (p : CpuNo) → TheObject d (ObjectLane d ∷ QueueLane p ∷ [])
object_first d p = record { among = λ x. or_off (d.0 == x.0); held = λ P h. h.0 }

-- case: an event that touches a DPC object and a queue touches that queue
queue_second : (d : DpcNo) (p : CpuNo) → TheQueue p (ObjectLane d ∷ QueueLane p ∷ [])
queue_second d p = record { among = λ x. or_off (p.0 == x.0); held = λ P h. h.1.0 }

-- case: an event that touches a DPC object, a queue and perhaps the timers touches that object
object_first_if : (d : DpcNo) (p : CpuNo) (b : Bool) → TheObject d (ObjectLane d ∷ QueueLane p ∷ lane_if b TimersLane)
object_first_if d p b = record {
  among = λ x. ap (λ (z : Bool). (d.0 == x.0) || (false || z)) (if_timers b (ObjectLane x) refl) ∙ or_off (d.0 == x.0);
  held = λ P h. h.0;
}

-- case: an event that touches a DPC object, a queue and perhaps the timers touches that queue
queue_second_if : (d : DpcNo) (p : CpuNo) (b : Bool) → TheQueue p (ObjectLane d ∷ QueueLane p ∷ lane_if b TimersLane)
queue_second_if d p b = record {
  among = λ x. ap (λ (z : Bool). false || ((p.0 == x.0) || z)) (if_timers b (QueueLane x) refl) ∙ or_off (p.0 == x.0);
  held = λ P h. h.1.0;
}

-- case: an event that touches a queue and perhaps the timers touches that queue
queue_if : (p : CpuNo) (b : Bool) → TheQueue p (QueueLane p ∷ lane_if b TimersLane)
queue_if p b = record {
  among = λ x. ap (λ (z : Bool). (p.0 == x.0) || z) (if_timers b (QueueLane x) refl) ∙ or_off (p.0 == x.0);
  held = λ P h. h.0;
}

-- case: an event that touches a queue and a group of threads touches that queue
queue_and_threads : (p q : CpuNo) → TheQueue p (QueueLane p ∷ ThreadsLane q ∷ [])
queue_and_threads p q = record { among = λ x. or_off (p.0 == x.0); held = λ P h. h.0 }

-- ---- what replies say

-- an entry that begins an ordinary DPC is an entry of that DPC
taken_ordinary : (o : Option InsertEntry) (d : DpcNo) (from : ℕ) → option_map (begin_dpc OrdinaryPart) o ≡ Some (Begin (Dpc d) from) →
    option_map (λ (i : InsertEntry). i.dpc) o ≡ Some d
taken_ordinary None d from h = cc
taken_ordinary (Some i) d from h = cc

-- an entry that begins a threaded DPC is an entry of that DPC
taken_threaded : (o : Option InsertEntry) (d : DpcNo) (from : ℕ) → option_map (begin_dpc ThreadedPart) o ≡ Some (Begin (Threaded d) from) →
    option_map (λ (i : InsertEntry). i.dpc) o ≡ Some d
taken_threaded None d from h = cc
taken_threaded (Some i) d from h = cc

-- ---- each event

module _ (s : Script) (st : Stand) (l : Lanes) where
  abbrev dpcs : DpcLanes
  dpcs = record { script = s; objects = l.objects; queues = l.queues }

  abbrev ShapeOf : What → Type 1
  ShapeOf w = Shape s l st.cpu (what_lanes s st w l) (change_of w)

  inserts : (d : DpcNo) (y : Reply) (b : Bool) → is_queued (object_at l d) ≡ b → y ≡ yes_if (not b) →
      Shape s l st.cpu (insert_lanes st.cpu d y l) (change_where (is_yes y) (Insert d))
  inserts d y true e h =
      subst (λ (y : Reply). Shape s l st.cpu (insert_lanes st.cpu d y l) (change_where (is_yes y) (Insert d))) (sym h) (Alone d (object_only d) (λ x. refl) tt)
  inserts d y false e h =
      let p = queue_for (object_at l d).target st.cpu in
      subst (λ (y : Reply). Shape s l st.cpu (insert_lanes st.cpu d y l) (change_where (is_yes y) (Insert d))) (sym h)
      (Both d p (object_first d p) (queue_second d p) (refl, e, refl))

  removes : (d : DpcNo) (y : Reply) (o : Option Standing) → (object_at l d).standing ≡ o → y ≡ yes_if (is_some o) →
      Shape s l st.cpu (ObjectLane d ∷ standing_lanes o) (change_where (is_yes y) (Remove d))
  removes d y None e h =
      subst (λ (y : Reply). Shape s l st.cpu (ObjectLane d ∷ []) (change_where (is_yes y) (Remove d))) (sym h) (Alone d (object_only d) (λ x. refl) tt)
  removes d y (Some z) e h =
      subst (λ (y : Reply). Shape s l st.cpu (ObjectLane d ∷ QueueLane z.queue ∷ []) (change_where (is_yes y) (Remove d))) (sym h)
      (Both d z.queue (object_first d z.queue) (queue_second d z.queue) (refl, z, e, refl))

  -- a reply that is an answer isn't a refusal
  unrefused : (b : Bool) (y : Reply) (xs : List Lane) (c : Change) → y ≡ yes_if b → Shape s l st.cpu xs c → Shape s l st.cpu (if is_refused y then [] else xs) c
  unrefused true y xs c h k = subst (λ (y : Reply). Shape s l st.cpu (if is_refused y then [] else xs) c) (sym h) k
  unrefused false y xs c h k = subst (λ (y : Reply). Shape s l st.cpu (if is_refused y then [] else xs) c) (sym h) k

  neither_if : (b : Bool) (xs : List Lane) (c : Change) → NoObject xs → NoQueue xs → Shape s l st.cpu (if b then [] else xs) c
  neither_if true xs c a q = Neither (λ x. refl) (λ x. refl)
  neither_if false xs c a q = Neither a q

  by_call : (f : ℕ) (c : Command) (y : Reply) → MayLeave dpcs st.cpu (Call f c y) → ShapeOf (Call f c y)
  by_call f (Queue d) y m =
      unrefused (not (is_queued (object_at l d))) y (insert_lanes st.cpu d y l) (change_where (is_yes y) (Insert d)) m.reply
      (inserts d y (is_queued (object_at l d)) refl m.reply)
  by_call f (Unqueue d) y m =
      unrefused (is_queued (object_at l d)) y (ObjectLane d ∷ standing_lanes (object_at l d).standing) (change_where (is_yes y) (Remove d)) m.reply
      (removes d y (object_at l d).standing refl m.reply)
  by_call f (SetImportanceCall d i) y m =
      subst (λ (y : Reply). ShapeOf (Call f (SetImportanceCall d i) y)) (sym m.reply) (Alone d (object_only d) (λ x. refl) refl)
  by_call f (SetTargetCall d t) y m =
      subst (λ (y : Reply). ShapeOf (Call f (SetTargetCall d t) y)) (sym m.0.reply) (Alone d (object_only d) (λ x. refl) (refl, m.1))
  by_call f c y m = neither_if (is_refused y) (command_lanes s st.cpu c y l) (call_change c y) (λ x. refl) (λ x. refl)

  cleans : (b t : Bool) → Shape s l st.cpu (if b then (ThreadsLane st.cpu ∷ []) else (QueueLane st.cpu ∷ lane_if t TimersLane)) Nothing
  cleans true t = Neither (λ x. refl) (λ x. refl)
  cleans false t = Own (λ x. if_timers t (ObjectLane x) refl) (queue_if st.cpu t) tt

  expires : (key : TimerKey) → Shape s l st.cpu (expire_lanes s key) Nothing
  expires (keys.Timer t) = Neither (λ x. refl) (λ x. refl)
  expires (keys.Delay t) = Neither (λ x. refl) (λ x. refl)

  ends : (b : Option Body) → Shape s l st.cpu (end_lanes st.cpu b) Nothing
  ends (Some (on.Base t)) = Neither (λ x. refl) (λ x. refl)
  ends (Some (on.Apc a UserApc)) = Neither (λ x. refl) (λ x. refl)
  ends b = Neither (λ x. refl) (λ x. refl)

  -- what an event that may be made touches and changes
  pub shape : (w : What) → MayLeave dpcs st.cpu w → ShapeOf w
  shape (Call f c y) m = by_call f c y m
  shape (Fire d y) m = inserts d y (is_queued (object_at l d)) refl m.reply
  shape (Begin (Dpc d) from) m =
      Both d st.cpu (object_first_if d st.cpu st.sweep) (queue_second_if d st.cpu st.sweep)
      (refl, refl, taken_ordinary (first_dpc OrdinaryPart (queue_at l st.cpu).pending) d from m)
  shape (Begin (Threaded d) from) m =
      Both d st.cpu (object_first d st.cpu) (queue_second d st.cpu)
      (refl, refl, taken_threaded (first_dpc ThreadedPart (queue_at l st.cpu).pending) d from m)
  shape (Clean class) m = cleans (class == apc_class) (st.sweep && (class == dispatch_class))
  shape (Switch t status) m = Own (λ x. refl) (queue_and_threads st.cpu st.cpu) tt
  shape RestEvent m = Own (λ x. refl) (queue_and_threads st.cpu st.cpu) tt
  shape (Expire key from) m = expires key
  shape (Rewait f y) m =
      Neither (λ x. if_timers (is_some (option_and_then (λ w. w.due) st.again)) (ObjectLane x) refl)
      (λ x. if_timers (is_some (option_and_then (λ w. w.due) st.again)) (QueueLane x) refl)
  shape (End f) m = ends st.body
  shape w m = Neither (λ x. refl) (λ x. refl)
