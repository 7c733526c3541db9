-- The lanes that an event touches and the classes that it asks for, as lists; when they name things of the script.
use Rattle.std.specs.Prelude.{Bool, IsTrue, List, map, false, true, ◌<◌, ◌≡◌, IfSome, None}
use Rattle.nt_event.specs.declared.commands.Command.{Command}
use Rattle.nt_event.specs.declared.commands.Reply.{Reply}
use Rattle.nt_event.specs.declared.jobs.Lane.{Lane}
use Rattle.nt_event.specs.declared.jobs.Lane.TheVariants.{Lock as LockLane, Object as ObjectLane, Queue as QueueLane}
use Rattle.nt_event.specs.declared.jobs.Lane.TheVariants.{Threads as ThreadsLane, Timers as TimersLane}
use Rattle.nt_event.specs.declared.scripts.Script.{Script}
use Rattle.nt_event.specs.Lanes.{Lanes, object_at}
use Rattle.nt_event.specs.Objects.{is_queued, dpc_inserted}
use Rattle.nt_event.specs.Requests.{Ask}
use Rattle.nt_event.specs.Script.{has_cpu, has_dpc, has_lock}
use Rattle.nt_event.specs.declared.class.Asked.{Asked}
use Rattle.nt_event.specs.Families.{by_dpc_call}

-- the lane is one of the script's
abbrev pub lane_fits : Script → Lane → Bool
lane_fits s (ObjectLane d) = has_dpc s d
lane_fits s (QueueLane p) = has_cpu s p
lane_fits s (ThreadsLane p) = has_cpu s p
lane_fits s TimersLane = true
lane_fits s (LockLane k) = has_lock s k

abbrev pub LaneFits : Script → Lane → Type 0
LaneFits s x = IsTrue (lane_fits s x)

-- the ask is for a class of one of the script's processors
pub record AskFits (s : Script) (a : Ask) : Type 0 where
  pub cpu : IsTrue (has_cpu s a.cpu)
  pub class : a.class < 16

abbrev pub as_ask : Asked → Ask
as_ask a = record { cpu = a.cpu; class = a.class }

abbrev pub as_asks : List Asked → List Ask
as_asks xs = map as_ask xs

-- an object that a call inserts isn't queued
abbrev pub InsertIsFree : Lanes → Command → Reply → Type 0
InsertIsFree l c y =
    IfSome (by_dpc_call (λ k. dpc_inserted k y) None c) (λ d. is_queued (object_at l d) ≡ false)
