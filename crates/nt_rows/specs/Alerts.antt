-- The worked row alerts.
use Rattle.std.specs.Prelude.{List, None, Some, [], true, ◌∷◌}
use Rattle.nt_event.specs.declared.commands.Command.TheVariants.{Alert, StartWait, TestAlert}
use Rattle.nt_event.specs.declared.commands.Mode.TheVariants.{User}
use Rattle.nt_event.specs.declared.commands.Reply.TheVariants.{Blocked, No, Yes}
use Rattle.nt_event.specs.declared.events.Event.{Event}
use Rattle.nt_event.specs.declared.events.What.TheVariants.{Call, Clean, End, Gone, Rest, Switch}
use Rattle.nt_event.specs.declared.numbers.RoutineNo.{RoutineNo}
use Rattle.nt_event.specs.declared.numbers.ThreadNo.{ThreadNo}
use Rattle.nt_event.specs.declared.scripts.Script.{Script}
use Rattle.nt_event.specs.Numbers.{routine, thread}
use Rattle.nt_rows.specs.Plain.{plain}
use Rattle.nt_rows.specs.Rows.{event, looks, runs, thread_on}

abbrev pub w : ThreadNo
w = thread 0

abbrev pub x : ThreadNo
x = thread 1

abbrev pub rw : RoutineNo
rw = routine 0

abbrev pub rx : RoutineNo
rx = routine 1

-- the script
abbrev pub script : Script
script =
    record plain {
      cpus = 2;
      threads = thread_on 0 rw ∷ thread_on 1 rx ∷ [];
      routines =
          runs (StartWait User true ∷ TestAlert User ∷ []) ∷
          runs (Alert w User ∷ Alert w User ∷ []) ∷
          [];
    }

-- its robin run, the oldest event first
abbrev pub history : List Event
history =
    event 0 (Some w) 0 (Switch w None) ∷
    event 1 (Some x) 0 (Switch x None) ∷
    event 0 (Some w) 0 (Call 0 (StartWait User true) Blocked) ∷
    event 1 (Some x) 0 (Call 1 (Alert w User) No) ∷
    looks 0 ((2, 4) ∷ []) ∷
    event 1 (Some x) 0 (Call 1 (Alert w User) No) ∷
    event 0 None 0 (Clean 2) ∷
    event 1 (Some x) 0 (End 1) ∷
    event 0 (Some w) 0 (Switch w (Some 257)) ∷
    event 1 (Some x) 0 (Gone x) ∷
    event 0 (Some w) 0 (Call 0 (TestAlert User) Yes) ∷
    event 1 None 0 Rest ∷
    event 0 (Some w) 0 (End 0) ∷
    event 0 (Some w) 0 (Gone w) ∷
    event 0 None 0 Rest ∷
    []
