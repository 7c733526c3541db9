-- The event that a processor makes by itself is the step of its turn, where it and its floor follow a run.
use Rattle.nt_cpu.specs.Runs.{Follows, state_of}
use Rattle.nt_cpu.specs.States.{CpuState}
use Rattle.nt_cpu.specs.Steps.{Advanced, AreLooked, IsStepped}
use Rattle.nt_cpu.specs.Turns.{IsShared}
use Rattle.nt_cpu.specs.declared.steps.Local.TheVariants.{Did as LocalDid}
use Rattle.nt_cpu.specs.declared.steps.Turned.TheVariants.{Did}
use Rattle.nt_event.specs.Jobs.{chosen_task}
use Rattle.nt_event.specs.Lists.{value_at}
use Rattle.nt_event.specs.Step.{IsRun, is_cut, step, turn_of, was_asked}
use Rattle.nt_event.specs.declared.events.Event.{Event}
use Rattle.nt_event.specs.declared.events.Rises.{Rises}
use Rattle.nt_event.specs.declared.events.What.{What}
use Rattle.nt_event.specs.declared.events.What.TheVariants.{Look}
use Rattle.nt_event.specs.declared.jobs.Job.{Job}
use Rattle.nt_event.specs.declared.jobs.Task.TheVariants.{Shared}
use Rattle.nt_event.specs.declared.numbers.CpuNo.{CpuNo}
use Rattle.nt_event.specs.declared.scripts.Script.{Script}
use Rattle.nt_event.specs.Acts.{Found}
use Rattle.nt_floor.specs.Views.{View}
use Rattle.std.specs.Prelude.{List, Ok, Some, false, true, ℕ, ◌<◌, ◌∷◌, ◌≡◌}

-- the processor of a run, and a floor that is alone and follows it
pub record IsAfter (s : Script) (limit : ℕ) (p : CpuNo) (past : List Event) (c : CpuState) (v : View) : Type 0 where
  pub run : IsRun s limit past
  pub cpu : p.0 < s.cpus
  pub state : c ≡ state_of s p limit past
  pub follows : Follows s past v

-- each value of a Look that rises was asked for
abbrev pub WasAskedFor : Script → CpuNo → List Event → What → Type 0
WasAskedFor s p past w = (r : Rises) → w ≡ Look r → (class : ℕ) → class < 16 → 0 < value_at r.value class →
    was_asked s p class (value_at r.value class) past ≡ true

-- the event is the one that its turn gives after the run, the run goes on by it, and its look was asked for. (It would
-- refuse a processor that goes on where it is cut, looks at values that nobody asked, or makes another job's event.)
pub record IsItsStep (s : Script) (limit : ℕ) (p : CpuNo) (past : List Event) (e : Event) : Type 0 where
  pub step : step s limit (turn_of e) past ≡ Ok e
  pub run : IsRun s limit (e ∷ past)
  pub cpu : e.cpu ≡ p
  pub looked : WasAskedFor s p past e.what

-- the event that `step_local` makes
abbrev pub LocalStepsAreSteps : Type 0
LocalStepsAreSteps = (s : Script) (limit : ℕ) (p : CpuNo) (past : List Event) (c d : CpuState) (answers : List ℕ)
    (e : Event) (v u w : View) → IsAfter s limit p past c v → IsStepped c d answers (LocalDid e) v u w →
    IsItsStep s limit p past e

-- the event that `step_lane` makes of a job that the processor chose, where it isn't cut
abbrev pub LaneStepsAreSteps : Type 0
LaneStepsAreSteps = (s : Script) (limit : ℕ) (p : CpuNo) (past : List Event) (c d : CpuState) (job : Job) (f : Found)
    (n : ℕ) (e : Event) (v w : View) → IsAfter s limit p past c v → is_cut c.limit c.own ≡ false →
    chosen_task c.script c.cpu c.own ≡ Some (Shared job) → IsShared c d job f n e v w → IsItsStep s limit p past e

-- the event that `advance` makes; what the floor tells of what was found doesn't matter
abbrev pub AdvancesAreSteps : Type 0
AdvancesAreSteps = (s : Script) (limit : ℕ) (p : CpuNo) (past : List Event) (c d : CpuState) (answers : List ℕ)
    (e : Event) (v u w : View) → IsAfter s limit p past c v → AreLooked c answers v u →
    Advanced c d answers (λ n e st f. Unit {0}) (Did e) u w → IsItsStep s limit p past e
