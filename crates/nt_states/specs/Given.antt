-- Which jobs can be decided, and which events a job gives.
use Rattle.std.specs.Prelude.{IfSome, IsSome, IsTrue, Some, ◌≡◌}
use Rattle.nt_event.specs.declared.events.What.{What}
use Rattle.nt_event.specs.declared.jobs.Job.{Job}
use Rattle.nt_event.specs.declared.jobs.Job.TheVariants as job
use Rattle.nt_event.specs.declared.jobs.Stand.{Stand}
use Rattle.nt_event.specs.declared.numbers.CpuNo.{CpuNo}
use Rattle.nt_event.specs.declared.numbers.ThreadNo.{ThreadNo}
use Rattle.nt_event.specs.declared.scripts.Script.{Script}
use Rattle.nt_event.specs.Acting.{IsCallable}
use Rattle.nt_event.specs.Fitting.{what_fits}
use Rattle.nt_event.specs.Jobs.{job_event}
use Rattle.nt_event.specs.Lanes.{Lanes}
use Rattle.nt_event.specs.Routines.{cpu_of}
use Rattle.nt_event.specs.Script.{has_thread}
use Rattle.nt_event.specs.Acts.{StandFits, job_fits}
use Rattle.nt_event.specs.Families.{in_switch}

-- ---- jobs

-- the thread is one of the script's, and bound to the processor
pub record IsTaken (s : Script) (p : CpuNo) (t : ThreadNo) : Type 0 where
  pub named : IsTrue (has_thread s t)
  pub own : cpu_of s t ≡ p

-- the thread that runs, if there is one, is bound to its processor
abbrev pub RunsOwn : Script → Stand → Type 0
RunsOwn s st = IfSome st.thread (λ t. cpu_of s t ≡ st.cpu)

-- what a job wants of where its processor stands, whatever the states are: a thread runs where it is a thread's job,
-- and a wait
-- that is taken up again is kept
abbrev pub JobStands : Stand → Job → Type 0
JobStands st (job.Call c) = IsCallable st c
JobStands st (job.Fire d) = Unit {0}
JobStands st (job.Free k) = Unit {0}
JobStands st job.Drain = Unit {0}
JobStands st job.Apcs = IsSome st.thread
JobStands st job.Threaded = Unit {0}
JobStands st job.Idle = Unit {0}
JobStands st (job.Pick last) = Unit {0}
JobStands st (job.Switch t) = Unit {0}
JobStands st job.Rewait = IsSome st.thread × IsSome st.again
JobStands st job.ToUser = IsSome st.thread
JobStands st job.UserEnd = Unit {0}
JobStands st job.Leave = Unit {0}
JobStands st job.Rundown = IsSome st.thread

-- the job of a processor that stands so can be decided: job and stand name things of the script, and the stand serves
-- the job. It says
-- nothing of states, so who holds a few lanes can test it
pub record CanDecide (s : Script) (st : Stand) (j : Job) : Type 0 where
  pub job : IsTrue (job_fits s j)
  pub stand : StandFits s st
  pub own : RunsOwn s st
  pub stands : JobStands st j

-- ---- events

-- a thread that is taken up is one of the script's, and the processor's own
abbrev pub TakesOwn : Script → Stand → What → Type 0
TakesOwn s st w = in_switch (λ t status. IsTaken s st.cpu t) (Unit {0}) w

-- the event is the one of some job that can be decided, in these states, and names things of the script
pub record IsGiven (s : Script) (l : Lanes) (st : Stand) (w : What) : Type 0 where
  pub job : Job
  pub can : CanDecide s st job
  pub gives : job_event s st l job ≡ Some w
  pub named : IsTrue (what_fits s w)
  pub taken : TakesOwn s st w
