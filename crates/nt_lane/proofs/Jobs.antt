-- A job that may be done where its processor stands can be decided, and is allowed in states in which its thread leaves.
use Rattle.std.specs.Prelude.{IfSome, IsTrue, true, ◌≡◌}
use Rattle.nt_event.specs.declared.jobs.Job.{Job}
use Rattle.nt_event.specs.declared.jobs.Job.TheVariants as job
use Rattle.nt_event.specs.declared.jobs.Stand.{Stand}
use Rattle.nt_event.specs.declared.scripts.Script.{Script}
use Rattle.nt_event.specs.Acting.{IsAllowed}
use Rattle.nt_event.specs.Lanes.{Lanes, facts_at}
use Rattle.nt_event.specs.Acts.{StandFits, job_fits}
use Rattle.nt_states.specs.Given.{CanDecide, JobStands, RunsOwn}
use Rattle.nt_lane.specs.Standing.{StandsFor}

-- a job that may be done where its processor stands has the thread and the wait that it needs there
job_stands : (st : Stand) (j : Job) → StandsFor st j → JobStands st j
job_stands st (job.Call c) h = h.1
job_stands st (job.Fire d) h = tt
job_stands st (job.Free k) h = tt
job_stands st job.Drain h = tt
job_stands st job.Apcs h = h.thread
job_stands st job.Threaded h = tt
job_stands st job.Idle h = tt
job_stands st (job.Pick last) h = tt
job_stands st (job.Switch t) h = tt
job_stands st job.Rewait h = (h.thread, h.wait)
job_stands st job.ToUser h = h.thread
job_stands st job.UserEnd h = tt
job_stands st job.Leave h = tt
job_stands st job.Rundown h = h

-- a job that fits the script and may be done where its processor stands can be decided there
pub can_decide : (s : Script) (st : Stand) (j : Job) → IsTrue (job_fits s j) → StandFits s st → RunsOwn s st → StandsFor st j → CanDecide s st j
can_decide s st j h k own stands = record { job = h; stand = k; own = own; stands = job_stands st j stands }

-- the thread of a Rundown leaves
abbrev pub Leaves : Lanes → Stand → Job → Type 0
Leaves l st job.Rundown = IfSome st.thread (λ t. (facts_at l t).leaving ≡ true)
Leaves l st j = Unit {0}

-- a job that its stand serves is allowed in states in which the thread of a rundown leaves
pub is_allowed : (l : Lanes) (st : Stand) (j : Job) → StandsFor st j → Leaves l st j → IsAllowed l st j
is_allowed l st (job.Call c) h k = h
is_allowed l st (job.Fire d) h k = tt
is_allowed l st (job.Free x) h k = tt
is_allowed l st job.Drain h k = tt
is_allowed l st job.Apcs h k = h
is_allowed l st job.Threaded h k = tt
is_allowed l st job.Idle h k = tt
is_allowed l st (job.Pick last) h k = tt
is_allowed l st (job.Switch t) h k = tt
is_allowed l st job.Rewait h k = h
is_allowed l st job.ToUser h k = h
is_allowed l st job.UserEnd h k = h
is_allowed l st job.Leave h k = h
is_allowed l st job.Rundown h k = record { thread = h; leaves = k }
