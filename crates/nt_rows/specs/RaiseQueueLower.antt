-- The worked row raise-queue-lower.
use Rattle.std.specs.Prelude.{List, None, Some, [], false, ◌∷◌}
use Rattle.nt_event.specs.declared.commands.Command.TheVariants.{Lower, Note, Queue, Raise}
use Rattle.nt_event.specs.declared.commands.Reply.TheVariants.{Done, Yes}
use Rattle.nt_event.specs.declared.events.Begun.TheVariants.{Dpc}
use Rattle.nt_event.specs.declared.events.Event.{Event}
use Rattle.nt_event.specs.declared.events.What.TheVariants.{Begin, Call, Clean, End, Gone, Rest, Switch}
use Rattle.nt_event.specs.declared.numbers.DpcNo.{DpcNo}
use Rattle.nt_event.specs.declared.numbers.RoutineNo.{RoutineNo}
use Rattle.nt_event.specs.declared.numbers.ThreadNo.{ThreadNo}
use Rattle.nt_event.specs.declared.scripts.Script.{Script}
use Rattle.nt_event.specs.Numbers.{dpc, routine, thread}
use Rattle.nt_rows.specs.Plain.{plain}
use Rattle.nt_rows.specs.Rows.{event, runs, thread_on}

abbrev pub d : DpcNo
d = dpc 0

abbrev pub main : ThreadNo
main = thread 0

abbrev pub work : RoutineNo
work = routine 0

abbrev pub body : RoutineNo
body = routine 1

-- the script
abbrev pub script : Script
script =
    record plain {
      dpcs = record { threaded = false; routine = work } ∷ [];
      threads = thread_on 0 body ∷ [];
      routines =
          runs (Note 7 ∷ []) ∷
          runs (Raise 2 ∷ Queue d ∷ Lower 0 ∷ []) ∷
          [];
    }

-- its robin run, the oldest event first
abbrev pub history : List Event
history =
    event 0 (Some main) 0 (Switch main None) ∷
    event 0 (Some main) 2 (Call 0 (Raise 2) Done) ∷
    event 0 (Some main) 2 (Call 0 (Queue d) Yes) ∷
    event 0 (Some main) 0 (Call 0 (Lower 0) Done) ∷
    event 0 (Some main) 2 (Begin (Dpc d) 2) ∷
    event 0 (Some main) 2 (Call 4 (Note 7) Done) ∷
    event 0 (Some main) 0 (End 4) ∷
    event 0 (Some main) 0 (Clean 2) ∷
    event 0 (Some main) 0 (End 0) ∷
    event 0 (Some main) 0 (Gone main) ∷
    event 0 None 0 Rest ∷
    []
