-- Jobs that may be done, and events that may be made, where the states of all lanes are known.
use Rattle.std.specs.Prelude.{IsTrue, Some, ◌≡◌}
use Rattle.nt_event.specs.declared.events.What.{What}
use Rattle.nt_event.specs.declared.jobs.Job.{Job}
use Rattle.nt_event.specs.declared.jobs.Stand.{Stand}
use Rattle.nt_event.specs.Acting.{IsAllowed, StandHolds}
use Rattle.nt_event.specs.Fitting.{what_fits}
use Rattle.nt_event.specs.Jobs.{job_event}
use Rattle.nt_event.specs.Acts.{StandFits, job_fits}
use Rattle.nt_states.specs.AllStates.{AllStates}
use Rattle.nt_states.specs.Given.{TakesOwn}

-- the job may be done in these states by a processor that stands so
pub record MayDo (x : AllStates) (st : Stand) (j : Job) : Type 0 where
  pub job : IsTrue (job_fits x.script j)
  pub stand : StandFits x.script st
  pub stands : StandHolds x.script x.lanes st
  pub allowed : IsAllowed x.lanes st j

-- the event is the one of some job that may be done; it names things of the script, and takes up a thread of its
-- processor alone
pub record MayMake (x : AllStates) (st : Stand) (w : What) : Type 0 where
  pub job : Job
  pub may : MayDo x st job
  pub gives : job_event x.script st x.lanes job ≡ Some w
  pub named : IsTrue (what_fits x.script w)
  pub taken : TakesOwn x.script st w
