-- What the script says of processors, objects and routines.
use Rattle.std.specs.Option.{option_map_or}
use Rattle.std.specs.Prelude.{Bool, List, None, Option, Some, [], false, if◌then◌else◌, option_and_then, option_map}
use Rattle.std.specs.Prelude.{slice_get, true, unwrap_or, ℕ, ◌&&◌}
use Rattle.nt_event.specs.declared.commands.ApcKind.{ApcKind}
use Rattle.nt_event.specs.declared.commands.ApcKind.TheVariants.{Special as SpecialApc, User as UserApc}
use Rattle.nt_event.specs.declared.commands.Command.{Command}
use Rattle.nt_event.specs.declared.frames.Body.{Body}
use Rattle.nt_event.specs.declared.frames.Body.TheVariants as on
use Rattle.nt_event.specs.Frame.{Frame}
use Rattle.nt_event.specs.declared.inserts.Part.{Part}
use Rattle.nt_event.specs.declared.inserts.Part.TheVariants.{Ordinary as OrdinaryPart, Threaded as ThreadedPart}
use Rattle.nt_event.specs.declared.numbers.ApcNo.{ApcNo}
use Rattle.nt_event.specs.declared.numbers.CpuNo.{CpuNo}
use Rattle.nt_event.specs.declared.numbers.DpcNo.{DpcNo}
use Rattle.nt_event.specs.declared.numbers.RoutineNo.{RoutineNo}
use Rattle.nt_event.specs.declared.numbers.ThreadNo.{ThreadNo}
use Rattle.nt_event.specs.declared.numbers.TimerNo.{TimerNo}
use Rattle.nt_event.specs.declared.scripts.ApcDecl.{ApcDecl}
use Rattle.nt_event.specs.declared.scripts.DpcDecl.{DpcDecl}
use Rattle.nt_event.specs.declared.scripts.Script.{Script}
use Rattle.nt_event.specs.Script.{isr_of}
use Rattle.nt_event.specs.Numbers.{cpu, thread}

-- threaded DPCs are on where the script doesn't switch them off (Windows Internals, "Threaded DPCs")
abbrev pub threaded_on : Script → Bool
threaded_on s = unwrap_or s.threaded true

abbrev pub is_declared_threaded : Option DpcDecl → Bool
is_declared_threaded None = false
is_declared_threaded (Some x) = x.threaded

-- the part of a queue in which the object stands (driver documentation, "KeInitializeThreadedDpc")
abbrev pub part_of : Script → DpcNo → Part
part_of s d =
    if threaded_on s && is_declared_threaded (slice_get s.dpcs d.0) then ThreadedPart else OrdinaryPart

-- profile: the depth limit is 4 where the script sets none
abbrev pub depth_limit : Script → ℕ
depth_limit s = unwrap_or s.depth 4

-- profile: each thread is bound to one processor
abbrev pub cpu_of : Script → ThreadNo → CpuNo
cpu_of s t = option_map_or (λ x. x.cpu) (slice_get s.threads t.0) (cpu 0)

-- the thread of an APC object
abbrev pub owner_of : Script → ApcNo → ThreadNo
owner_of s a = option_map_or (λ x. x.thread) (slice_get s.apcs a.0) (thread 0)

abbrev pub kind_of : Script → ApcNo → ApcKind
kind_of s a = option_map_or (λ x. x.kind) (slice_get s.apcs a.0) SpecialApc

abbrev pub is_kernel_kind : ApcKind → Bool
is_kernel_kind UserApc = false
is_kernel_kind SpecialApc = true
is_kernel_kind NormalApc = true

-- the DPC object that a timer's expiry inserts
abbrev pub dpc_of : Script → TimerNo → Option DpcNo
dpc_of s t = option_and_then (λ x. x.dpc) (slice_get s.timers t.0)

abbrev pub rundown_of : Script → ApcNo → Option RoutineNo
rundown_of s a = option_and_then (λ x. x.rundown) (slice_get s.apcs a.0)

-- ---- routines

abbrev pub commands_of : Script → Option RoutineNo → List Command
commands_of s None = []
commands_of s (Some r) = option_map_or (λ x. x.commands) (slice_get s.routines r.0) []

-- the routine of an APC: its kernel routine, and then its normal routine
abbrev pub apc_routine : Bool → Option ApcDecl → Option RoutineNo
apc_routine kernel_phase None = None
apc_routine kernel_phase (Some x) = if kernel_phase then Some x.kernel else x.normal

-- the routine of a frame; an interrupt for which the script has no line has one without commands
abbrev pub routine_of : Script → CpuNo → Body → Bool → Option RoutineNo
routine_of s p (on.Int level) k = isr_of s.isrs p level
routine_of s p (on.Dpc d) k = option_map (λ x. x.routine) (slice_get s.dpcs d.0)
routine_of s p (on.Threaded d) k = option_map (λ x. x.routine) (slice_get s.dpcs d.0)
routine_of s p (on.Apc a kind) k = apc_routine k (slice_get s.apcs a.0)
routine_of s p (on.Base t) k = option_map (λ x. x.routine) (slice_get s.threads t.0)
routine_of s p (on.Rundown a) k = rundown_of s a

-- the command at this place in the routine of a frame
abbrev pub command_at : Script → CpuNo → Body → Bool → ℕ → Option Command
command_at s p b k place = slice_get (commands_of s (routine_of s p b k)) place

-- the frame's next command: the one at its place in the routine of its present phase; a leaving thread's base has none
abbrev pub next_command : Script → CpuNo → Frame → Option Command
next_command s p f = if f.leaving then None else command_at s p f.body f.kernel_phase f.place
