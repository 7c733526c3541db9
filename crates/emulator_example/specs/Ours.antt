-- What the emulator keeps of its DPC object and its queue.
use Rattle.std.specs.Prelude.{◌<◌, ◌≡◌}
use Rattle.nt_event.specs.Numbers.{cpu, dpc}
use Rattle.nt_event.specs.Objects.{queue_for}
use Rattle.nt_dpc.specs.Objects.{ObjectFacts}
use Rattle.nt_dpc.specs.Queues.{QueueFacts, StandsHereOrNowhere}

-- the object is the guest's, and an insert of it goes to this queue, where alone its entry may stand
pub record IsOurs (q : QueueFacts) (o : ObjectFacts) : Type 0 where
  pub object : o.dpc ≡ dpc 0
  pub room : o.dpc.0 < q.count
  pub processor : q.cpu ≡ cpu 0
  pub target : queue_for o.state.target (cpu 0) ≡ cpu 0
  pub stands : StandsHereOrNowhere q o
