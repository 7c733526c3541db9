-- Which lanes an act wants the locks of.
use Rattle.std.specs.Prelude.{List, None, Some, [], false, true, ◌∷◌, ◌≡◌}
use Rattle.nt_event.specs.declared.jobs.Lane.{Lane}
use Rattle.nt_event.specs.declared.jobs.Lane.TheVariants.{Lock as LockLane, Object as ObjectLane, Queue as QueueLane}
use Rattle.nt_event.specs.declared.jobs.Lane.TheVariants.{Threads as ThreadsLane, Timers as TimersLane}
use Rattle.nt_lane.specs.declared.needs.Needs.{Needs}

abbrev pub no_needs : Needs
no_needs = record { object = None; queue = None; group = None; timers = false; spin_lock = None }

-- with this lane, in place of another of its kind
abbrev pub with_lane : Needs → Lane → Needs
with_lane n (ObjectLane d) = record n { object = Some d }
with_lane n (QueueLane p) = record n { queue = Some p }
with_lane n (ThreadsLane p) = record n { group = Some p }
with_lane n TimersLane = record n { timers = true }
with_lane n (LockLane k) = record n { spin_lock = Some k }

-- with each of these, in order
abbrev pub with_lanes : Needs → List Lane → Needs
with_lanes n [] = n
with_lanes n (x ∷ xs) = with_lanes (with_lane n x) xs

-- the lock of this lane is wanted
abbrev pub IsNeeded : Needs → Lane → Type 0
IsNeeded n (ObjectLane d) = n.object ≡ Some d
IsNeeded n (QueueLane p) = n.queue ≡ Some p
IsNeeded n (ThreadsLane p) = n.group ≡ Some p
IsNeeded n TimersLane = n.timers ≡ true
IsNeeded n (LockLane k) = n.spin_lock ≡ Some k
