-- The load: the script that is made from a seed, and the names of its things.
use Rattle.std.specs.Prelude.{List, None, Option, Some, [], codes, decimal, nat_le, ℕ, ◌%◌, ◌*◌, ◌++◌, ◌+◌, ◌∷◌}
use Rattle.nt_event.specs.Lists.{table}
use Rattle.nt_event.specs.Numbers.{cpu, dpc, routine, thread}
use Rattle.nt_event.specs.declared.commands.ApcKind.TheVariants.{Normal, Special, User}
use Rattle.nt_event.specs.declared.commands.ApcKind.{ApcKind}
use Rattle.nt_event.specs.declared.numbers.RoutineNo.{RoutineNo}
use Rattle.nt_event.specs.declared.scripts.ApcDecl.{ApcDecl}
use Rattle.nt_event.specs.declared.scripts.DpcDecl.{DpcDecl}
use Rattle.nt_event.specs.declared.scripts.Isr.{Isr}
use Rattle.nt_event.specs.declared.scripts.Routine.{Routine}
use Rattle.nt_event.specs.declared.scripts.Script.{Script}
use Rattle.nt_event.specs.declared.scripts.ThreadDecl.{ThreadDecl}
use Rattle.nt_event.specs.declared.scripts.TimerDecl.{TimerDecl}
use Rattle.nt_line.specs.NameLists.{NameLists}
use Rattle.nt_line.specs.declared.names.Kind.TheVariants as kind
use Rattle.nt_line.specs.declared.names.Kind.{Kind}
use Rattle.nt_load.specs.Commands.{command_at}
use Rattle.nt_script.specs.declared.walk.Input.{Input}

-- a routine without commands stands first, and is that of all things but the threads
abbrev pub idle_isr : ℕ → Isr
idle_isr p = record { cpu = cpu p; level = 5; routine = routine 0 }

-- DPC object i; those from 24 on are threaded
abbrev pub idle_dpc : ℕ → DpcDecl
idle_dpc i = record { threaded = nat_le 24 i; routine = routine 0 }

-- timer i inserts DPC object i
abbrev pub timer_of_dpc : ℕ → TimerDecl
timer_of_dpc i = record { dpc = Some (dpc i) }

-- thread i, and its routine behind the idle one
abbrev pub busy_thread : ℕ → ThreadDecl
busy_thread i = record { cpu = cpu (i % 4); routine = routine (i + 1) }

-- the routine that stands behind the kernel routine: none of a special APC
abbrev pub normal_of : ApcKind → Option RoutineNo
normal_of Special = None
normal_of Normal = Some (routine 0)
normal_of User = Some (routine 0)

-- APC object i of a kind, of thread i
abbrev pub apc_decl : ApcKind → ℕ → ApcDecl
apc_decl kind i = record { kind = kind; thread = thread i; kernel = routine 0; normal = normal_of kind; rundown = None }

abbrev pub all_apcs : List ApcDecl
all_apcs = (table 32 (apc_decl Special) ++ table 32 (apc_decl Normal)) ++ table 32 (apc_decl User)

abbrev pub idle_routine : Routine
idle_routine = record { commands = [] }

-- the routine of thread r: 128 of the commands that are drawn from the seed
abbrev pub busy_routine : ℕ → ℕ → Routine
busy_routine seed r = record { commands = table 128 (λ i. command_at (128 * r + i) seed) }

abbrev pub load_script : ℕ → Script
load_script seed = record {
  cpus = 4;
  depth = None;
  threaded = None;
  isrs = table 4 idle_isr;
  dpcs = table 32 idle_dpc;
  timers = table 8 timer_of_dpc;
  threads = table 32 busy_thread;
  apcs = all_apcs;
  routines = idle_routine ∷ table 32 (busy_routine seed);
  locks = 0;
}

-- a name: a letter, or more, and a number
abbrev pub spelled : List ℕ → ℕ → List ℕ
spelled letter i = letter ++ decimal i

-- n names of a letter, by number
abbrev pub spelled_names : List ℕ → ℕ → List (List ℕ)
spelled_names letter n = table n (spelled letter)

-- n names of a letter behind those of a kind
unfoldable pub with_spelled : Kind → List ℕ → ℕ → NameLists → NameLists
with_spelled kind.Dpc letter n names = record names { dpcs = names.dpcs ++ spelled_names letter n }
with_spelled kind.Timer letter n names = record names { timers = names.timers ++ spelled_names letter n }
with_spelled kind.Thread letter n names = record names { threads = names.threads ++ spelled_names letter n }
with_spelled kind.Apc letter n names = record names { apcs = names.apcs ++ spelled_names letter n }
with_spelled kind.Lock letter n names = record names { locks = names.locks ++ spelled_names letter n }
with_spelled kind.Routine letter n names = record names { routines = names.routines ++ spelled_names letter n }

-- the names of the DPC objects, timers and threads alone
unfoldable pub object_names : NameLists
object_names = record {
  dpcs = spelled_names (codes "d") 32;
  timers = spelled_names (codes "k") 8;
  threads = spelled_names (codes "t") 32;
  apcs = [];
  locks = [];
  routines = [];
}

-- the names of all things but the routines: the APC objects stand kind by kind
unfoldable pub thing_names : NameLists
thing_names = record object_names {
  apcs = (spelled_names (codes "s") 32 ++ spelled_names (codes "n") 32) ++ spelled_names (codes "u") 32;
}

-- the names of all things
unfoldable pub load_names : NameLists
load_names = record thing_names { routines = codes "idle" ∷ spelled_names (codes "b") 32 }

-- the load of a seed
unfoldable pub load_input : ℕ → Input
load_input seed = record { version = 1; script = load_script seed; names = load_names }
