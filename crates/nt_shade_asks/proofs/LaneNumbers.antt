-- The numbers of the lanes of a script are below their count.
use Rattle.std.proofs.Common.{arith}
use Rattle.std.proofs.lemmas.Bool.{ltb-true}
use Rattle.std.specs.Prelude.{length, true, ◌<◌, ◌≡◌}
use Rattle.nt_event.specs.declared.jobs.Lane.{Lane}
use Rattle.nt_event.specs.declared.jobs.Lane.TheVariants.{Lock as LockLane, Object as ObjectLane, Queue as QueueLane, Threads as ThreadsLane}
use Rattle.nt_event.specs.declared.jobs.Lane.TheVariants.{Timers as TimersLane}
use Rattle.nt_event.specs.declared.scripts.Script.{Script}
use Rattle.nt_event.specs.Lanes.{lane_count, lane_number}
use Rattle.nt_alike.specs.Declared.{has_lane}

-- the number of a lane of the script is below the count of lanes
pub number_below : (s : Script) (x : Lane) → has_lane s x ≡ true → lane_number s x < lane_count s
number_below s (ObjectLane d) h = let k = ltb-true d.0 (length s.dpcs) h in omega arith
number_below s (QueueLane p) h = let k = ltb-true p.0 s.cpus h in omega arith
number_below s (ThreadsLane p) h = let k = ltb-true p.0 s.cpus h in omega arith
number_below s TimersLane h = omega arith
number_below s (LockLane k) h = let e = ltb-true k.0 s.locks h in omega arith
