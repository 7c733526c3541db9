-- The worked row released-once: a release that ends no wait satisfies the next wait, and that one alone.
use Rattle.std.specs.Prelude.{List, None, Some, [], false, ◌∷◌}
use Rattle.nt_event.specs.declared.commands.Command.TheVariants.{Release, StartWait}
use Rattle.nt_event.specs.declared.commands.Mode.TheVariants.{Kernel}
use Rattle.nt_event.specs.declared.commands.Reply.TheVariants.{Blocked, No, Status}
use Rattle.nt_event.specs.declared.events.Event.{Event}
use Rattle.nt_event.specs.declared.events.What.TheVariants.{Call, Rest, Switch}
use Rattle.nt_event.specs.declared.numbers.RoutineNo.{RoutineNo}
use Rattle.nt_event.specs.declared.numbers.ThreadNo.{ThreadNo}
use Rattle.nt_event.specs.declared.scripts.Script.{Script}
use Rattle.nt_event.specs.Numbers.{routine, thread}
use Rattle.nt_rows.specs.Plain.{plain}
use Rattle.nt_rows.specs.Rows.{event, runs, thread_on}

abbrev pub main : ThreadNo
main = thread 0

abbrev pub body : RoutineNo
body = routine 0

-- the script
abbrev pub script : Script
script =
    record plain {
      threads = thread_on 0 body ∷ [];
      routines =
          runs (Release main ∷ StartWait Kernel false ∷ StartWait Kernel false ∷ []) ∷
          [];
    }

-- its robin run, the oldest event first
abbrev pub history : List Event
history =
    event 0 (Some main) 0 (Switch main None) ∷
    event 0 (Some main) 0 (Call 0 (Release main) No) ∷
    event 0 (Some main) 0 (Call 0 (StartWait Kernel false) (Status 0)) ∷
    event 0 (Some main) 0 (Call 0 (StartWait Kernel false) Blocked) ∷
    event 0 None 0 Rest ∷
    []
