-- The worked row queue-unqueue.
use Rattle.std.specs.Prelude.{List, None, Some, [], false, ◌∷◌}
use Rattle.nt_event.specs.declared.commands.Command.TheVariants.{Lower, Queue, Raise, Unqueue}
use Rattle.nt_event.specs.declared.commands.Reply.TheVariants.{Done, No, Yes}
use Rattle.nt_event.specs.declared.events.Event.{Event}
use Rattle.nt_event.specs.declared.events.What.TheVariants.{Call, Clean, End, Gone, Rest, Switch}
use Rattle.nt_event.specs.declared.numbers.DpcNo.{DpcNo}
use Rattle.nt_event.specs.declared.numbers.RoutineNo.{RoutineNo}
use Rattle.nt_event.specs.declared.numbers.ThreadNo.{ThreadNo}
use Rattle.nt_event.specs.declared.scripts.Script.{Script}
use Rattle.nt_event.specs.Numbers.{dpc, routine, thread}
use Rattle.nt_rows.specs.Plain.{plain}
use Rattle.nt_rows.specs.Rows.{event, runs, thread_on}

abbrev pub d : DpcNo
d = dpc 0

abbrev pub main : ThreadNo
main = thread 0

abbrev pub body : RoutineNo
body = routine 0

abbrev pub q : RoutineNo
q = routine 1

-- the script
abbrev pub script : Script
script =
    record plain {
      dpcs = record { threaded = false; routine = q } ∷ [];
      threads = thread_on 0 body ∷ [];
      routines =
          runs (Raise 2 ∷ Queue d ∷ Queue d ∷ Unqueue d ∷ Unqueue d ∷ Lower 0 ∷ []) ∷
          runs [] ∷
          [];
    }

-- its robin run, the oldest event first
abbrev pub history : List Event
history =
    event 0 (Some main) 0 (Switch main None) ∷
    event 0 (Some main) 2 (Call 0 (Raise 2) Done) ∷
    event 0 (Some main) 2 (Call 0 (Queue d) Yes) ∷
    event 0 (Some main) 2 (Call 0 (Queue d) No) ∷
    event 0 (Some main) 2 (Call 0 (Unqueue d) Yes) ∷
    event 0 (Some main) 2 (Call 0 (Unqueue d) No) ∷
    event 0 (Some main) 0 (Call 0 (Lower 0) Done) ∷
    event 0 (Some main) 0 (Clean 2) ∷
    event 0 (Some main) 0 (End 0) ∷
    event 0 (Some main) 0 (Gone main) ∷
    event 0 None 0 Rest ∷
    []
