-- What a job wants of where its processor stands, as far as no lane says it.
use Rattle.std.specs.Prelude.{IsSome, IsTrue}
use Rattle.nt_event.specs.declared.jobs.Job.{Job}
use Rattle.nt_event.specs.declared.jobs.Job.TheVariants as job
use Rattle.nt_event.specs.declared.jobs.Stand.{Stand}
use Rattle.nt_event.specs.Acting.{InThread, IsCallable, TakesUp}
use Rattle.nt_event.specs.Commands.{needs_lane}

-- what is allowed of the job, but for that the thread of a Rundown leaves
abbrev pub StandsFor : Stand → Job → Type 0
StandsFor st (job.Call c) = IsTrue (needs_lane c) × IsCallable st c
StandsFor st job.Apcs = InThread 0 st
StandsFor st job.Rewait = TakesUp st
StandsFor st job.ToUser = InThread 0 st
StandsFor st job.UserEnd = IsSome st.thread
StandsFor st job.Leave = IsSome st.thread
StandsFor st job.Rundown = IsSome st.thread
StandsFor st (job.Fire d) = Unit {0}
StandsFor st (job.Free k) = Unit {0}
StandsFor st job.Drain = Unit {0}
StandsFor st job.Threaded = Unit {0}
StandsFor st job.Idle = Unit {0}
StandsFor st (job.Pick last) = Unit {0}
StandsFor st (job.Switch t) = Unit {0}
