-- The task of what comes next.
use Rattle.std.specs.Prelude.{Bool, None, Option, Some, option_map, ℕ, ◌≡◌}
use Rattle.nt_event.specs.declared.commands.Command.{Command}
use Rattle.nt_event.specs.Frame.{Frame}
use Rattle.nt_event.specs.declared.commands.Regions.{Regions}
use Rattle.nt_event.specs.Commands.{refusal}
use Rattle.nt_event.specs.Frames.{Frames, thread_part}
use Rattle.nt_event.specs.Regions.{regions_of}
use Rattle.nt_event.specs.declared.events.Event.{Event}
use Rattle.nt_event.specs.declared.jobs.Task.{Task}
use Rattle.nt_event.specs.declared.jobs.Task.TheVariants as task
use Rattle.nt_cpu.specs.Alone.{alone_event}
use Rattle.nt_cpu.specs.States.{CpuState}
use Rattle.nt_cpu.specs.declared.next.Next.{Next}
use Rattle.nt_cpu.specs.declared.next.Next.TheVariants.{Alone, Shared}

-- where the event in its place is this one
abbrev pub task_in : Event → Next → Task
task_in e Alone = task.Alone e.what
task_in e (Shared job) = task.Shared job

abbrev pub planned : Event → Option Next → Option Task
planned e o = option_map (task_in e) o

-- the event in the place, this one before and that one after: where it touches no lane it was written whole, and else
-- it is as before
abbrev pub IsWritten : CpuState → Event → Event → Option Next → Type 0
IsWritten c old new (Some Alone) = new ≡ alone_event c.cpu new.what c.own.frames
IsWritten c old new (Some (Shared job)) = new ≡ old
IsWritten c old new None = new ≡ old

-- these regions serve for the refusal of the command as those of the thread do that runs
abbrev pub ServeFor : Regions → Command → Frames → Type 0
ServeFor r c x = (level : ℕ) (own : Bool) (f : Frame) → refusal level own r f c
    ≡ refusal level own (regions_of (thread_part x)) f c
