-- What contracts see of the states of all lanes of a script.
use Rattle.nt_event.specs.declared.scripts.Script.{Script}
use Rattle.nt_event.specs.Lanes.{Lanes}
use Rattle.nt_states.specs.DpcLanes.{DpcLanes}
use Rattle.nt_states.specs.ThreadLanes.{ThreadLanes}

pub record AllStates : Type 0 where
  pub script : Script
  pub lanes : Lanes

-- the objects and queues among them
abbrev pub dpcs_of : AllStates → DpcLanes
dpcs_of x = record { script = x.script; objects = x.lanes.objects; queues = x.lanes.queues }

-- the threads among them
abbrev pub threads_of : AllStates → ThreadLanes
threads_of x = record { script = x.script; facts = x.lanes.threads }
