-- The worked row kernel-apc-before-satisfied: at a delay whose due time is reached already, a deliverable kernel APC
-- is tested first.
use Rattle.std.specs.Prelude.{List, None, Some, [], false, ◌∷◌}
use Rattle.nt_event.specs.declared.commands.Command.TheVariants.{Delay, InsertApc}
use Rattle.nt_event.specs.declared.commands.Mode.TheVariants.{Kernel}
use Rattle.nt_event.specs.declared.commands.Reply.TheVariants.{Status, Yes}
use Rattle.nt_event.specs.declared.events.Event.{Event}
use Rattle.nt_event.specs.declared.events.Turn.{Turn}
use Rattle.nt_event.specs.declared.events.Turn.TheVariants.{Next, Switch as Take}
use Rattle.nt_event.specs.declared.events.What.TheVariants.{Call, Switch}
use Rattle.nt_event.specs.declared.numbers.ApcNo.{ApcNo}
use Rattle.nt_event.specs.declared.numbers.RoutineNo.{RoutineNo}
use Rattle.nt_event.specs.declared.numbers.ThreadNo.{ThreadNo}
use Rattle.nt_event.specs.declared.scripts.Script.{Script}
use Rattle.nt_event.specs.Numbers.{apc, cpu, routine, thread}
use Rattle.nt_rows.specs.Plain.{plain}
use Rattle.nt_rows.specs.Rows.{event, runs, special_apc, thread_on}

abbrev pub w : ThreadNo
w = thread 0

abbrev pub x : ThreadNo
x = thread 1

abbrev pub n : ApcNo
n = apc 0

abbrev pub rw : RoutineNo
rw = routine 0

abbrev pub rx : RoutineNo
rx = routine 1

abbrev pub q : RoutineNo
q = routine 2

-- the script
abbrev pub script : Script
script =
    record plain {
      cpus = 2;
      threads = thread_on 0 rw ∷ thread_on 1 rx ∷ [];
      apcs = special_apc w q ∷ [];
      routines =
          runs (Delay Kernel false 0 ∷ []) ∷
          runs (InsertApc n ∷ []) ∷
          runs [] ∷
          [];
    }

-- the turns, in order: the processor of w hasn't looked when it calls
abbrev pub schedule : List Turn
schedule = Take (cpu 0) w ∷ Take (cpu 1) x ∷ Next (cpu 1) ∷ Next (cpu 0) ∷ []

-- what they make, the oldest event first
abbrev pub history : List Event
history =
    event 0 (Some w) 0 (Switch w None) ∷
    event 1 (Some x) 0 (Switch x None) ∷
    event 1 (Some x) 0 (Call 1 (InsertApc n) Yes) ∷
    event 0 (Some w) 0 (Call 0 (Delay Kernel false 0) (Status 256)) ∷
    []
