-- The record that contracts see of the fields, and what holds of them.
use Rattle.nt_thread_lanes.specs.declared.threads.Threads.TheInside.{Inside}
use Rattle.nt_states.specs.ThreadLanes.{ThreadLanes}
use Rattle.nt_thread_lanes.specs.Sound.{AreMarked, IsSound}

abbrev pub lanes_in : Inside → ThreadLanes
lanes_in a = record { script = a.script.now; facts = a.states.items }

pub record IsSoundInside (a : Inside) : Type 0 where
  pub sound : IsSound (lanes_in a)
  pub marked : AreMarked a.inserted.items (lanes_in a)
