-- The task of what comes next.
use Rattle.std.proofs.Common.{ap, ◌∙◌}
use Rattle.std.specs.List.{list_any}
use Rattle.std.specs.Prelude.{Bool, List, None, Option, Some, if◌then◌else◌, nat_lt, refl, ℕ, ◌≡◌}
use Rattle.nt_event.specs.declared.commands.Command.{Command}
use Rattle.nt_event.specs.declared.commands.Command.TheVariants.{ToUser}
use Rattle.nt_event.specs.declared.commands.Regions.{Regions}
use Rattle.nt_event.specs.declared.events.Event.{Event}
use Rattle.nt_event.specs.declared.events.Rises.{Rises}
use Rattle.nt_event.specs.declared.events.What.TheVariants.{Look}
use Rattle.nt_event.specs.Frame.{Frame}
use Rattle.nt_event.specs.declared.jobs.Job.{Job}
use Rattle.nt_event.specs.declared.jobs.Task.{Task}
use Rattle.nt_event.specs.declared.jobs.Task.TheVariants as task
use Rattle.nt_event.specs.Commands.{refusal}
use Rattle.nt_event.specs.Jobs.{chosen_task}
use Rattle.nt_event.specs.Lists.{value_at}
use Rattle.nt_event.specs.Robin.{look_values}
use Rattle.nt_cpu.specs.Alone.{alone_event}
use Rattle.nt_cpu.specs.States.{CpuState}
use Rattle.nt_cpu.specs.Steps.{local_task}
use Rattle.nt_cpu.specs.declared.next.Next.{Next}
use Rattle.nt_cpu.specs.declared.next.Next.TheVariants.{Alone, Shared}
use Rattle.nt_cpu.specs.Plans.{IsWritten, planned}

-- if what comes next touches no lane, the planned task is the event alone
pub planned_alone : (e : Event) (o : Option Next) → o ≡ Some Alone → planned e o ≡ Some (task.Alone e.what)
planned_alone e o h = ap (planned e) h

-- if what comes next is a job under lanes, the planned task is that job
pub planned_shared : (e : Event) (o : Option Next) (job : Job) → o ≡ Some (Shared job) → planned e o ≡ Some (task.Shared job)
planned_shared e o job h = ap (planned e) h

-- if nothing comes next, no task is planned
pub planned_none : (e : Event) (o : Option Next) → o ≡ None → planned e o ≡ None
planned_none e o h = ap (planned e) h

-- an event that touches no lane was written whole
pub written_alone : (c : CpuState) (old new : Event) (o : Option Next) → IsWritten c old new o → o ≡ Some Alone → new
    ≡ alone_event c.cpu new.what c.own.frames
written_alone c old new o w h = rw h at w

-- where there is nothing to do, nothing was written
pub unwritten_none : (c : CpuState) (old new : Event) (o : Option Next) → IsWritten c old new o → o ≡ None → new ≡ old
unwritten_none c old new o w h = rw h at w

-- what a processor has to do after looks, by the values that rose
pub local_is : (c : CpuState) (answers : List ℕ) (r : Rises) (o : Option Task) → r.value ≡ look_values c.own (value_at answers) → o
    ≡ (if list_any (λ v. nat_lt 0 v) r.value then Some (task.Alone (Look r)) else chosen_task c.script c.cpu c.own) → o ≡ local_task c answers
local_is c answers r o h e =
    e
    ∙ ap (λ (vs : List ℕ). if list_any (λ v. nat_lt 0 v) vs then Some (task.Alone (Look (record { value = vs }))) else chosen_task c.script c.cpu c.own) h

-- only the refusal of `touser` depends on regions
pub refusal_same : (k : Command) (q r : Regions) (level : ℕ) (own : Bool) (f : Frame) → (k ≡ ToUser → ⊥) → refusal level own q f k ≡ refusal level own r f k
refusal_same ToUser q r level own f h = absurd (h refl)
refusal_same _ q r level own f h = refl
