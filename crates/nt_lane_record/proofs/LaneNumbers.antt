-- The numbers of the lanes that an event touches rise.
use Rattle.std.proofs.Common.{arith}
use Rattle.std.proofs.lemmas.Bool.{ltb-true}
use Rattle.std.proofs.lemmas.List.Elements.{All-map, All-weaker}
use Rattle.std.specs.List.Sorted.{IsStrictlyIncreasing}
use Rattle.std.specs.Prelude.{All, Bool, List, Option, None, Some, [], false, if◌then◌else◌, is_some, length, map, option_and_then, suc, true, zero, ℕ, ◌&&◌}
use Rattle.std.specs.Prelude.{◌+◌, ◌<◌, ◌==◌, ◌∷◌, ◌≤◌}
use Rattle.nt_event.specs.declared.commands.ApcKind.TheVariants.{User as UserApc}
use Rattle.nt_event.specs.declared.commands.Command.{Command}
use Rattle.nt_event.specs.declared.commands.Command.TheVariants as cmd
use Rattle.nt_event.specs.declared.commands.Reply.{Reply}
use Rattle.nt_event.specs.declared.commands.TimerKey.{TimerKey}
use Rattle.nt_event.specs.declared.commands.TimerKey.TheVariants as keys
use Rattle.nt_event.specs.declared.events.Begun.{Begun}
use Rattle.nt_event.specs.declared.events.Begun.TheVariants as begun
use Rattle.nt_event.specs.declared.events.What.{What}
use Rattle.nt_event.specs.declared.events.What.TheVariants as what
use Rattle.nt_event.specs.declared.frames.Body.{Body}
use Rattle.nt_event.specs.declared.frames.Body.TheVariants as on
use Rattle.nt_event.specs.declared.inserts.Standing.{Standing}
use Rattle.nt_event.specs.declared.jobs.Lane.{Lane}
use Rattle.nt_event.specs.declared.jobs.Lane.TheVariants.{Lock as LockLane, Object as ObjectLane, Queue as QueueLane, Threads as ThreadsLane}
use Rattle.nt_event.specs.declared.jobs.Lane.TheVariants.{Timers as TimersLane}
use Rattle.nt_event.specs.declared.jobs.Stand.{Stand}
use Rattle.nt_event.specs.declared.numbers.CpuNo.{CpuNo}
use Rattle.nt_event.specs.declared.numbers.DpcNo.{DpcNo}
use Rattle.nt_event.specs.declared.scripts.Script.{Script}
use Rattle.nt_event.specs.Classes.{apc_class, dispatch_class}
use Rattle.nt_event.specs.Lanes.{Lanes, begin_lanes, command_lanes, end_lanes, expire_lanes, insert_lanes, lane_count, lane_if, lane_number, object_at}
use Rattle.nt_event.specs.Lanes.{standing_lanes, what_lanes}
use Rattle.nt_event.specs.Objects.{queue_for}
use Rattle.nt_event.specs.Replies.{is_refused, is_yes}
use Rattle.nt_states.specs.LaneLists.{LaneFits}

-- ---- each is one of the script's

-- the number of a lane that fits the script is below the number of lanes
pub number_within : (s : Script) (x : Lane) → LaneFits s x → lane_number s x < lane_count s
number_within s (ObjectLane d) h = let b = ltb-true d.0 (length s.dpcs) h in omega (arith, b)
number_within s (QueueLane p) h = let b = ltb-true p.0 s.cpus h in omega (arith, b)
number_within s (ThreadsLane p) h = let b = ltb-true p.0 s.cpus h in omega (arith, b)
number_within s TimersLane h = omega arith
number_within s (LockLane k) h = let b = ltb-true k.0 s.locks h in omega (arith, b)

-- if all lanes fit the script, all their numbers are below the number of lanes
pub numbers_within : (s : Script) (xs : List Lane) → All (LaneFits s) xs → All (λ n. n < lane_count s) (map (lane_number s) xs)
numbers_within s xs h =
    All-map (λ n. n < lane_count s) (lane_number s) xs (All-weaker (LaneFits s) (λ x. lane_number s x < lane_count s) (λ x k. number_within s x k) xs h)

-- ---- lists of up to three numbers that rise

-- the empty list of lane numbers rises
no_rise : IsStrictlyIncreasing []
no_rise k h = absurd (let z : k + 1 < 0 = h in omega (arith, z))

-- a list of one lane number rises
one_rises : (a : ℕ) → IsStrictlyIncreasing (a ∷ [])
one_rises a k h = absurd (let z : k + 1 < 1 = h in omega (arith, z))

-- a list of two lane numbers rises if the first is below the second
two_rise : (a b : ℕ) → a < b → IsStrictlyIncreasing (a ∷ b ∷ [])
two_rise a b l zero h = l
two_rise a b l (suc k) h = absurd (let z : suc k + 1 < 2 = h in omega (arith, z))

-- a list of three lane numbers rises if each is below the next
three_rise : (a b c : ℕ) → a < b → b < c → IsStrictlyIncreasing (a ∷ b ∷ c ∷ [])
three_rise a b c l m zero h = l
three_rise a b c l m (suc zero) h = m
three_rise a b c l m (suc (suc k)) h = absurd (let z : suc (suc k) + 1 < 3 = h in omega (arith, z))

-- ---- the lanes of an event, by its kind

-- there are at most three, and where they are lanes of the script, their numbers rise
record Rise (s : Script) (xs : List Lane) : Type 0 where
  few : length xs ≤ 3
  rise : All (LaneFits s) xs → IsStrictlyIncreasing (map (lane_number s) xs)

-- a choice of two rising lists of lanes is a rising list of lanes
rise_if : (s : Script) (b : Bool) (xs ys : List Lane) → Rise s xs → Rise s ys → Rise s (if b then xs else ys)
rise_if s true xs ys h k = h
rise_if s false xs ys h k = k

-- case: an event that touches no lane
none : (s : Script) → Rise s []
none s = record { few = omega arith; rise = λ h. no_rise }

-- case: an event that touches one lane
one : (s : Script) (x : Lane) → Rise s (x ∷ [])
one s x = record { few = omega arith; rise = λ h. one_rises (lane_number s x) }

-- the fits of each
first : (s : Script) (x : Lane) (xs : List Lane) → All (LaneFits s) (x ∷ xs) → LaneFits s x
first s x xs h = h 0 x (omega arith)

-- the second of some lanes that fit a script fits it too
second : (s : Script) (x y : Lane) (xs : List Lane) → All (LaneFits s) (x ∷ y ∷ xs) → LaneFits s y
second s x y xs h = h 1 x (omega arith)

-- case: an event that touches a DPC object and a queue
object_queue : (s : Script) (d : DpcNo) (p : CpuNo) → Rise s (ObjectLane d ∷ QueueLane p ∷ [])
object_queue s d p = record {
  few = omega arith;
  rise = λ h.
      let b = ltb-true d.0 (length s.dpcs) (first s (ObjectLane d) (QueueLane p ∷ []) h) in
      two_rise d.0 (length s.dpcs + p.0) (omega (arith, b));
}

-- case: an event that touches a queue and a group of threads
queue_threads : (s : Script) (p q : CpuNo) → Rise s (QueueLane p ∷ ThreadsLane q ∷ [])
queue_threads s p q = record {
  few = omega arith;
  rise = λ h.
      let b = ltb-true p.0 s.cpus (first s (QueueLane p) (ThreadsLane q ∷ []) h) in
      two_rise (length s.dpcs + p.0) (length s.dpcs + (s.cpus + q.0)) (omega (arith, b));
}

-- case: an event that touches a queue and perhaps the timers
queue_timers : (s : Script) (p : CpuNo) (b : Bool) → Rise s (QueueLane p ∷ lane_if b TimersLane)
queue_timers s p false = one s (QueueLane p)
queue_timers s p true = record {
  few = omega arith;
  rise = λ h.
      let b = ltb-true p.0 s.cpus (first s (QueueLane p) (TimersLane ∷ []) h) in
      two_rise (length s.dpcs + p.0) (length s.dpcs + (s.cpus + s.cpus)) (omega (arith, b));
}

-- case: an event that touches a group of threads and perhaps the timers
threads_timers : (s : Script) (p : CpuNo) (b : Bool) → Rise s (ThreadsLane p ∷ lane_if b TimersLane)
threads_timers s p false = one s (ThreadsLane p)
threads_timers s p true = record {
  few = omega arith;
  rise = λ h.
      let b = ltb-true p.0 s.cpus (first s (ThreadsLane p) (TimersLane ∷ []) h) in
      two_rise (length s.dpcs + (s.cpus + p.0)) (length s.dpcs + (s.cpus + s.cpus)) (omega (arith, b));
}

-- case: an event that touches a DPC object, a queue and perhaps the timers
object_queue_timers : (s : Script) (d : DpcNo) (p : CpuNo) (b : Bool) → Rise s (ObjectLane d ∷ QueueLane p ∷ lane_if b TimersLane)
object_queue_timers s d p false = object_queue s d p
object_queue_timers s d p true = record {
  few = omega arith;
  rise = λ h.
      let a = ltb-true d.0 (length s.dpcs) (first s (ObjectLane d) (QueueLane p ∷ TimersLane ∷ []) h) in
      let b = ltb-true p.0 s.cpus (second s (ObjectLane d) (QueueLane p) (TimersLane ∷ []) h) in
      three_rise d.0 (length s.dpcs + p.0) (length s.dpcs + (s.cpus + s.cpus)) (omega (arith, a)) (omega (arith, b));
}

-- case: an event that inserts a DPC
inserts : (s : Script) (p : CpuNo) (d : DpcNo) (y : Reply) (l : Lanes) → Rise s (insert_lanes p d y l)
inserts s p d y l = go (is_yes y)
  where
    go : (b : Bool) → Rise s (ObjectLane d ∷ lane_if b (QueueLane (queue_for (object_at l d).target p)))
    go false = one s (ObjectLane d)
    go true = object_queue s d (queue_for (object_at l d).target p)

-- case: an event that removes a DPC, from the queue in which it stands if any
removes : (s : Script) (d : DpcNo) (o : Option Standing) → Rise s (ObjectLane d ∷ standing_lanes o)
removes s d None = one s (ObjectLane d)
removes s d (Some x) = object_queue s d x.queue

-- case: an event that is a call of a command
by_command : (s : Script) (p : CpuNo) (c : Command) (y : Reply) (l : Lanes) → Rise s (command_lanes s p c y l)
by_command s p (cmd.Queue d) y l = inserts s p d y l
by_command s p (cmd.Unqueue d) y l = removes s d (object_at l d).standing
by_command s p (cmd.Delay m a units) y l = threads_timers s p true
by_command s p (cmd.SetImportance d i) y l = one s _
by_command s p (cmd.SetTarget d t) y l = one s _
by_command s p (cmd.SetTimer t due period) y l = one s _
by_command s p (cmd.CancelTimer t) y l = one s _
by_command s p (cmd.InsertApc a) y l = one s _
by_command s p (cmd.RemoveApc a) y l = one s _
by_command s p (cmd.StartWait m a) y l = one s _
by_command s p (cmd.Release t) y l = one s _
by_command s p (cmd.Alert t m) y l = one s _
by_command s p (cmd.TestAlert m) y l = one s _
by_command s p (cmd.Clock units) y l = one s _
by_command s p cmd.ToUser y l = one s _
by_command s p cmd.Yield y l = one s _
by_command s p (cmd.Acquire k) y l = one s _
by_command s p (cmd.Unlock k) y l = one s _
by_command s p (cmd.Raise level) y l = none s
by_command s p (cmd.Lower level) y l = none s
by_command s p cmd.EnterCrit y l = none s
by_command s p cmd.EnterGuard y l = none s
by_command s p cmd.LeaveCrit y l = none s
by_command s p cmd.LeaveGuard y l = none s
by_command s p (cmd.Interrupt q level) y l = none s
by_command s p (cmd.Note n) y l = none s

-- case: an event that begins a frame
by_begin : (s : Script) (st : Stand) (b : Begun) → Rise s (begin_lanes st b)
by_begin s st (begun.Int level) = none s
by_begin s st (begun.Dpc d) = object_queue_timers s d st.cpu st.sweep
by_begin s st (begun.Threaded d) = object_queue s d st.cpu
by_begin s st (begun.Apc a) = one s _

-- case: an event that is a timer's expiry
by_expire : (s : Script) (k : TimerKey) → Rise s (expire_lanes s k)
by_expire s (keys.Timer t) = one s _
by_expire s (keys.Delay t) = threads_timers s _ true

-- case: an event that ends a frame
by_end : (s : Script) (p : CpuNo) (o : Option Body) → Rise s (end_lanes p o)
by_end s p (Some (on.Base t)) = one s _
by_end s p (Some (on.Apc a UserApc)) = one s _
by_end s p (Some (on.Int level)) = none s
by_end s p (Some (on.Dpc d)) = none s
by_end s p (Some (on.Threaded d)) = none s
by_end s p (Some (on.Apc a kind)) = none s
by_end s p (Some (on.Rundown a)) = none s
by_end s p None = none s

-- the lanes that an event touches rise by number, and are at most three
touched : (s : Script) (st : Stand) (w : What) (l : Lanes) → Rise s (what_lanes s st w l)
touched s st (what.Call f c y) l =
    rise_if s (is_refused y) [] (command_lanes s st.cpu c y l) (none s) (by_command s st.cpu c y l)
touched s st (what.Begin b from) l = by_begin s st b
touched s st (what.Clean class) l =
    rise_if s (class == apc_class) (ThreadsLane st.cpu ∷ []) (QueueLane st.cpu ∷ lane_if (st.sweep && (class == dispatch_class)) TimersLane) (one s _)
    (queue_timers s st.cpu (st.sweep && (class == dispatch_class)))
touched s st (what.Expire key from) l = by_expire s key
touched s st (what.Fire d y) l = inserts s st.cpu d y l
touched s st (what.Switch t status) l = queue_threads s st.cpu st.cpu
touched s st (what.Rewait f y) l = threads_timers s st.cpu (is_some (option_and_then (λ w. w.due) st.again))
touched s st what.Rest l = queue_threads s st.cpu st.cpu
touched s st (what.End f) l = by_end s st.cpu st.body
touched s st (what.Flush a from) l = one s _
touched s st (what.Gone t) l = one s _
touched s st (what.Free f k) l = one s _
touched s st (what.Look r) l = none s
touched s st (what.Normal f) l = none s

-- the numbers of the lanes that an event touches rise
pub lanes_rise : (s : Script) (st : Stand) (w : What) (l : Lanes) → All (LaneFits s) (what_lanes s st w l) →
    IsStrictlyIncreasing (map (lane_number s) (what_lanes s st w l))
lanes_rise s st w l h = (touched s st w l).rise h

-- an event touches at most three lanes
pub lanes_few : (s : Script) (st : Stand) (w : What) (l : Lanes) → length (what_lanes s st w l) ≤ 3
lanes_few s st w l = (touched s st w l).few
