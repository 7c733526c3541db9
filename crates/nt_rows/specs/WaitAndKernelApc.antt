-- The worked row wait-and-kernel-apc.
use Rattle.std.specs.Prelude.{List, None, Some, [], false, ◌∷◌}
use Rattle.nt_event.specs.declared.commands.Command.TheVariants.{InsertApc, Release, StartWait}
use Rattle.nt_event.specs.declared.commands.Mode.TheVariants.{Kernel}
use Rattle.nt_event.specs.declared.commands.Reply.TheVariants.{Blocked, No, Status, Yes}
use Rattle.nt_event.specs.declared.events.Begun.TheVariants.{Apc}
use Rattle.nt_event.specs.declared.events.Event.{Event}
use Rattle.nt_event.specs.declared.events.What.TheVariants.{Begin, Call, Clean, End, Gone, Normal, Rest, Rewait, Switch}
use Rattle.nt_event.specs.declared.numbers.ApcNo.{ApcNo}
use Rattle.nt_event.specs.declared.numbers.RoutineNo.{RoutineNo}
use Rattle.nt_event.specs.declared.numbers.ThreadNo.{ThreadNo}
use Rattle.nt_event.specs.declared.scripts.Script.{Script}
use Rattle.nt_event.specs.Numbers.{apc, routine, thread}
use Rattle.nt_rows.specs.Plain.{plain}
use Rattle.nt_rows.specs.Rows.{event, looks, normal_apc, runs, thread_on}

abbrev pub w : ThreadNo
w = thread 0

abbrev pub x : ThreadNo
x = thread 1

abbrev pub n : ApcNo
n = apc 0

abbrev pub rw : RoutineNo
rw = routine 0

abbrev pub rx : RoutineNo
rx = routine 1

abbrev pub q : RoutineNo
q = routine 2

-- the script
abbrev pub script : Script
script =
    record plain {
      cpus = 2;
      threads = thread_on 0 rw ∷ thread_on 1 rx ∷ [];
      apcs = normal_apc w q q ∷ [];
      routines =
          runs (StartWait Kernel false ∷ []) ∷
          runs (InsertApc n ∷ Release w ∷ []) ∷
          runs [] ∷
          [];
    }

-- its robin run, the oldest event first
abbrev pub history : List Event
history =
    event 0 (Some w) 0 (Switch w None) ∷
    event 1 (Some x) 0 (Switch x None) ∷
    event 0 (Some w) 0 (Call 0 (StartWait Kernel false) Blocked) ∷
    event 1 (Some x) 0 (Call 1 (InsertApc n) Yes) ∷
    looks 0 ((1, 4) ∷ (2, 4) ∷ []) ∷
    event 1 (Some x) 0 (Call 1 (Release w) No) ∷
    event 0 None 0 (Clean 2) ∷
    event 1 (Some x) 0 (End 1) ∷
    event 0 (Some w) 0 (Switch w (Some 256)) ∷
    event 1 (Some x) 0 (Gone x) ∷
    event 0 (Some w) 1 (Begin (Apc n) 3) ∷
    event 1 None 0 Rest ∷
    event 0 (Some w) 0 (Normal 10) ∷
    event 0 (Some w) 0 (Clean 1) ∷
    event 0 (Some w) 0 (End 10) ∷
    event 0 (Some w) 0 (Clean 1) ∷
    event 0 (Some w) 0 (Rewait 0 (Status 0)) ∷
    event 0 (Some w) 0 (End 0) ∷
    event 0 (Some w) 0 (Gone w) ∷
    event 0 None 0 Rest ∷
    []
