-- A job that may be done can be decided, and each lane of the whole states is held.
use Rattle.std.specs.Prelude.{Err, IfSome, List, None, Ok, OnOk, Option, Result, Some, [], ◌∷◌, ◌≡◌}
use Rattle.nt_event.specs.declared.events.What.{What}
use Rattle.nt_event.specs.declared.jobs.Job.{Job}
use Rattle.nt_event.specs.declared.jobs.Job.TheVariants as job
use Rattle.nt_event.specs.declared.jobs.Lane.{Lane}
use Rattle.nt_event.specs.declared.jobs.Stand.{Stand}
use Rattle.nt_event.specs.declared.numbers.ThreadNo.{ThreadNo}
use Rattle.nt_event.specs.Acting.{IsAllowed, RunsThere}
use Rattle.nt_event.specs.Jobs.{job_event}
use Rattle.nt_event.specs.Routines.{cpu_of}
use Rattle.nt_event.specs.declared.acts.ActRefusal.{ActRefusal}
use Rattle.nt_states.specs.AllStates.{AllStates}
use Rattle.nt_states.specs.Allowed.{MayDo, MayMake}
use Rattle.nt_states.specs.Given.{CanDecide, IsGiven, JobStands}
use Rattle.nt_states.specs.Reads.{AreHeld}

-- whoever has the whole states holds each lane of any list
pub all_held : (lanes : List Lane) → AreHeld (λ l. Unit {0}) lanes
all_held [] = tt
all_held (x ∷ lanes) = (tt, all_held lanes)

module _ (x : AllStates) (st : Stand) where
  -- a thread that runs on a processor is one of this processor's own
  pub own : (o : Option ThreadNo) → IfSome o (λ t. RunsThere x.script x.lanes st t) → IfSome o (λ t. cpu_of x.script t ≡ st.cpu)
  own None h = tt
  own (Some t) h = h.own

  -- a job that is allowed has what it needs of where the processor stands
  pub job_stands : (j : Job) → IsAllowed x.lanes st j → JobStands st j
  job_stands (job.Call c) h = h.1
  job_stands (job.Fire d) h = tt
  job_stands (job.Free k) h = tt
  job_stands job.Drain h = tt
  job_stands job.Apcs h = h.thread
  job_stands job.Threaded h = tt
  job_stands job.Idle h = tt
  job_stands (job.Pick last) h = tt
  job_stands (job.Switch t) h = tt
  job_stands job.Rewait h = (h.thread, h.wait)
  job_stands job.ToUser h = h.thread
  job_stands job.UserEnd h = tt
  job_stands job.Leave h = tt
  job_stands job.Rundown h = h.thread

  -- a job that may be done in these states can be decided
  pub can_decide : (j : Job) → MayDo x st j → CanDecide x.script st j
  can_decide j m =
      record { job = m.job; stand = m.stand; own = own st.thread m.stands; stands = job_stands j m.allowed }

  -- an event that may be made in these states is the event of a job that can be decided
  pub is_given : (w : What) → MayMake x st w → IsGiven x.script x.lanes st w
  is_given w g =
      record { job = g.job; can = can_decide g.job g.may; gives = g.gives; named = g.named; taken = g.taken }

  -- the event that is decided
  pub may_make : (j : Job) (w : What) → MayDo x st j → job_event x.script st x.lanes j ≡ Some w → IsGiven x.script x.lanes st w → MayMake x st w
  may_make j w m e g = record { job = j; may = m; gives = e; named = g.named; taken = g.taken }

-- the event that was written, where there is one
pub may_make_found : (x : AllStates) (st : Stand) (j : Job) (w : What) (r : Result (Unit {0}) ActRefusal) → MayDo x st j →
    OnOk r (job_event x.script st x.lanes j ≡ Some w) → OnOk r (IsGiven x.script x.lanes st w) → OnOk r (MayMake x st w)
may_make_found x st j w (Ok done) m e g = may_make x st j w m e g
may_make_found x st j w (Err refusal) m e g = tt
