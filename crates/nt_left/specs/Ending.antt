-- A machine at the end of a run.
use Rattle.std.specs.Prelude.{IsTrue, length, ◌≡◌, ◌≤◌}
use Rattle.nt_event.specs.declared.limits.TheConstants.{EVENTS}
use Rattle.nt_event.specs.Lanes.{lanes_at}
use Rattle.nt_event.specs.Script.{fits}
use Rattle.nt_event.specs.Step.{IsRun}
use Rattle.nt_cpus.specs.Following.{cpus_of}
use Rattle.nt_left.specs.declared.ending.End.{End}
use Rattle.nt_left.specs.Walks.{lent, past_of}

-- the processors and the lanes stand behind the events, which are a run
pub record IsEnd (e : End) : Type 0 where
  pub fits : IsTrue (fits e.script.now)
  pub run : IsRun e.script.now e.limit (past_of e.events)
  pub cpus : e.cpus.now ≡ cpus_of e.script.now e.limit (past_of e.events)
  pub script : e.floor.now.script ≡ e.script.now
  pub lanes : e.floor.now.lanes ≡ lanes_at e.script.now (past_of e.events)
  pub few : length (lent e.events) ≤ EVENTS
