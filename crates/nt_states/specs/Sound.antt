-- What holds of the states at any time.
use Rattle.std.specs.Prelude.{IsTrue}
use Rattle.nt_event.specs.Script.{fits}
use Rattle.nt_timer.specs.Laws.{IsSized}
use Rattle.nt_states.specs.AllStates.{AllStates}

-- the script fits, and the timers have a place for each timer and thread of it
pub record IsSound (x : AllStates) : Type 0 where
  pub script : IsTrue (fits x.script)
  pub timers : IsSized x.script x.lanes.timers
