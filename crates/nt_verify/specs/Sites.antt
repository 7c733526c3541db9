-- Sites: the uses of routines that a script declares, and the frame that each begins.
use Rattle.std.specs.List.{flat_map}
use Rattle.std.specs.Prelude.{Bool, List, Option, [], false, if◌then◌else◌, is_some, length, map, slice_get}
use Rattle.std.specs.Prelude.{true}
use Rattle.std.specs.Prelude.{◌++◌, ◌∷◌}
use Rattle.nt_event.specs.declared.commands.Command.{Command}
use Rattle.nt_event.specs.declared.frames.Body.{Body}
use Rattle.nt_event.specs.declared.frames.Body.TheVariants as on
use Rattle.nt_event.specs.declared.inserts.Part.{Part}
use Rattle.nt_event.specs.declared.inserts.Part.TheVariants.{Ordinary as OrdinaryPart, Threaded as ThreadedPart}
use Rattle.nt_event.specs.declared.numbers.ApcNo.{ApcNo}
use Rattle.nt_event.specs.declared.numbers.CpuNo.{CpuNo}
use Rattle.nt_event.specs.declared.numbers.DpcNo.{DpcNo}
use Rattle.nt_event.specs.declared.numbers.RoutineNo.{RoutineNo}
use Rattle.nt_event.specs.declared.scripts.Isr.{Isr}
use Rattle.nt_event.specs.declared.scripts.Script.{Script}
use Rattle.nt_event.specs.Frame.{Frame}
use Rattle.nt_event.specs.Frames.{new_frame, normal_of}
use Rattle.nt_event.specs.Lists.{table}
use Rattle.nt_event.specs.Numbers.{apc, cpu, dpc, thread}
use Rattle.nt_event.specs.Routines.{apc_routine, commands_of, kind_of, part_of, routine_of, rundown_of}
use Rattle.nt_verify.specs.declared.site.Site.{Site}
use Rattle.nt_verify.specs.declared.site.Site.TheVariants as at

-- ---- the sites of a script

abbrev pub isr_site : Isr → Site
isr_site x = at.Isr x.cpu x.level

abbrev pub part_site : DpcNo → Part → Site
part_site d OrdinaryPart = at.Dpc d
part_site d ThreadedPart = at.Threaded d

-- a DPC object that is declared threaded is an ordinary one where threaded DPCs are off
abbrev pub dpc_site : Script → DpcNo → Site
dpc_site s d = part_site d (part_of s d)

abbrev pub dpc_sites : Script → List Site
dpc_sites s = table (length s.dpcs) (λ d. dpc_site s (dpc d))

abbrev pub thread_sites : Script → List Site
thread_sites s = table (length s.threads) (λ t. at.Base (thread t))

-- an APC object has a normal routine
abbrev pub has_normal : Script → ApcNo → Bool
has_normal s a = is_some (apc_routine false (slice_get s.apcs a.0))

abbrev pub site_if : Bool → Site → List Site
site_if true x = x ∷ []
site_if false x = []

-- its kernel routine, and its normal and rundown routines where it has them
abbrev pub apc_sites : Script → ApcNo → List Site
apc_sites s a =
    (at.Kernel a ∷ [] ++ site_if (has_normal s a) (at.Normal a)) ++ site_if (is_some (rundown_of s a)) (at.Rundown a)

-- the uses of routines that the script declares: its interrupt routines, its DPC objects, its threads, and the routines
-- of each APC object
abbrev pub sites : Script → List Site
sites s =
    map isr_site s.isrs ++ dpc_sites s ++ thread_sites s ++ flat_map (apc_sites s) (table (length s.apcs) apc)

-- ---- the frame of a site

abbrev pub body_at : Script → Site → Body
body_at s (at.Isr p level) = on.Int level
body_at s (at.Dpc d) = on.Dpc d
body_at s (at.Threaded d) = on.Threaded d
body_at s (at.Kernel a) = on.Apc a (kind_of s a)
body_at s (at.Normal a) = on.Apc a (kind_of s a)
body_at s (at.Rundown a) = on.Rundown a
body_at s (at.Base t) = on.Base t

-- the site is an APC's kernel routine
abbrev pub is_kernel : Site → Bool
is_kernel (at.Kernel a) = true
is_kernel (at.Isr p level) = false
is_kernel (at.Dpc d) = false
is_kernel (at.Threaded d) = false
is_kernel (at.Normal a) = false
is_kernel (at.Rundown a) = false
is_kernel (at.Base t) = false

-- the processor of an interrupt routine; each other routine is the same on every processor
abbrev pub cpu_at : Site → CpuNo
cpu_at (at.Isr p level) = p
cpu_at (at.Dpc d) = cpu 0
cpu_at (at.Threaded d) = cpu 0
cpu_at (at.Kernel a) = cpu 0
cpu_at (at.Normal a) = cpu 0
cpu_at (at.Rundown a) = cpu 0
cpu_at (at.Base t) = cpu 0

abbrev pub routine_at : Script → Site → Option RoutineNo
routine_at s x = routine_of s (cpu_at x) (body_at s x) (is_kernel x)

-- the commands of the site's routine
abbrev pub commands_at : Script → Site → List Command
commands_at s x = commands_of s (routine_at s x)

-- a frame of the site before its first command: an APC's normal routine goes on in the frame of its kernel routine
abbrev pub first_frame : Script → Site → Frame
first_frame s (at.Normal a) = normal_of (new_frame 0 (body_at s (at.Normal a)))
first_frame s (at.Isr p level) = new_frame 0 (body_at s (at.Isr p level))
first_frame s (at.Dpc d) = new_frame 0 (body_at s (at.Dpc d))
first_frame s (at.Threaded d) = new_frame 0 (body_at s (at.Threaded d))
first_frame s (at.Kernel a) = new_frame 0 (body_at s (at.Kernel a))
first_frame s (at.Rundown a) = new_frame 0 (body_at s (at.Rundown a))
first_frame s (at.Base t) = new_frame 0 (body_at s (at.Base t))

-- ---- the site of a frame

abbrev pub site_in : CpuNo → Bool → Body → Site
site_in p k (on.Int level) = at.Isr p level
site_in p k (on.Dpc d) = at.Dpc d
site_in p k (on.Threaded d) = at.Threaded d
site_in p k (on.Apc a kind) = if k then at.Kernel a else at.Normal a
site_in p k (on.Base t) = at.Base t
site_in p k (on.Rundown a) = at.Rundown a

-- the use of a routine that a frame of the processor is, by what began it and its phase
abbrev pub site_of : CpuNo → Frame → Site
site_of p f = site_in p f.kernel_phase f.body
