-- The record that contracts see of the fields, and what holds of them.
use Rattle.nt_dpc_lanes.specs.declared.dpcs.Dpcs.TheInside.{Inside}
use Rattle.nt_dpc_lanes.specs.Agree.{AreKept, lanes_of}
use Rattle.nt_states.specs.DpcLanes.{DpcLanes}

abbrev pub lanes_in : Inside → DpcLanes
lanes_in a = lanes_of a.script.now a.objects.items a.queues.items

abbrev pub AreKeptInside : Inside → Type 0
AreKeptInside a = AreKept a.script.now a.objects.items a.queues.items
