-- The record that contracts see of the machine's fields, and what holds of them: the history is a run, the processors
-- and the floor follow it, and there is room for all events.
use Rattle.std.specs.Prelude.{reverse, ◌*◌, ◌≤◌}
use Rattle.nt_cpus.specs.Following.{AreAfter}
use Rattle.nt_plain.specs.States.{view_of}
use Rattle.nt_core.specs.declared.machine.Core.TheInside.{Inside}
use Rattle.nt_core.specs.States.{CoreState}

abbrev pub state_in : Inside → CoreState
state_in a =
    record { script = a.processors.script; limit = a.processors.limit; past = reverse a.events.events }

pub record IsSoundInside (a : Inside) : Type 0 where
  pub sound : AreAfter (reverse a.events.events) a.processors a.floor.script (view_of a.floor)
  pub room : a.processors.script.cpus * a.processors.limit ≤ a.events.room
