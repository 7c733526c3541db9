-- What is decided of a job in the states of held lanes.
use Rattle.std.specs.Prelude.{Some, ◌≡◌}
use Rattle.nt_event.specs.declared.events.What.{What}
use Rattle.nt_event.specs.declared.jobs.Job.{Job}
use Rattle.nt_event.specs.declared.jobs.Stand.{Stand}
use Rattle.nt_event.specs.Jobs.{job_event}
use Rattle.nt_event.specs.Acts.{Found, IsRefused}
use Rattle.nt_event.specs.declared.acts.ActRefusal.{ActRefusal}
use Rattle.nt_states.specs.Given.{IsGiven, RunsOwn}
use Rattle.nt_states.specs.Reads.{AreHeld, job_lanes}
use Rattle.nt_lane.specs.Answers.{HeldStates, IsHeld, held_lanes}
use Rattle.nt_lane.specs.Standing.{StandsFor}
use Rattle.nt_lane.specs.declared.deciding.Decided.{Decided}
use Rattle.nt_lane.specs.declared.deciding.Decided.TheVariants as decided

-- the stand serves the job, and the lanes are held that the job reads: so their states are those that the decision is
-- made in
pub record CanBeDecided (h : HeldStates) (st : Stand) (j : Job) : Type 0 where
  pub own : RunsOwn h.script st
  pub stands : StandsFor st j
  pub held : AreHeld (IsHeld h) (job_lanes h.script st j)

-- the event is the job's
pub record IsEvent (h : HeldStates) (st : Stand) (j : Job) (w : What) : Type 0 where
  pub can : CanBeDecided h st j
  pub gives : job_event h.script st (held_lanes h) j ≡ Some w
  pub given : IsGiven h.script (held_lanes h) st w

-- there is none, for this reason
pub record IsNoEvent (h : HeldStates) (st : Stand) (j : Job) (r : ActRefusal) : Type 0 where
  pub can : CanBeDecided h st j
  pub cause : (f : Found) → f.lanes ≡ held_lanes h → IsRefused h.script f st j r

abbrev pub IsDecided : HeldStates → Stand → Job → Decided → Type 0
IsDecided h st j (decided.Event w) = IsEvent h st j w
IsDecided h st j (decided.Refused r) = IsNoEvent h st j r
IsDecided h st j decided.Unknown = Unit {0}
