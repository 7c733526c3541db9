-- The worked row depth-limit.
use Rattle.std.specs.Prelude.{List, None, Some, [], false, ◌∷◌}
use Rattle.nt_event.specs.declared.commands.Command.TheVariants.{Queue, SetImportance}
use Rattle.nt_event.specs.declared.commands.Importance.TheVariants.{Low}
use Rattle.nt_event.specs.declared.commands.Reply.TheVariants.{Done, Yes}
use Rattle.nt_event.specs.declared.events.Begun.TheVariants.{Dpc}
use Rattle.nt_event.specs.declared.events.Event.{Event}
use Rattle.nt_event.specs.declared.events.What.TheVariants.{Begin, Call, Clean, End, Gone, Rest, Switch}
use Rattle.nt_event.specs.declared.numbers.DpcNo.{DpcNo}
use Rattle.nt_event.specs.declared.numbers.RoutineNo.{RoutineNo}
use Rattle.nt_event.specs.declared.numbers.ThreadNo.{ThreadNo}
use Rattle.nt_event.specs.declared.scripts.Script.{Script}
use Rattle.nt_event.specs.Numbers.{dpc, routine, thread}
use Rattle.nt_rows.specs.Plain.{plain}
use Rattle.nt_rows.specs.Rows.{event, runs, thread_on}

abbrev pub d1 : DpcNo
d1 = dpc 0

abbrev pub d2 : DpcNo
d2 = dpc 1

abbrev pub d3 : DpcNo
d3 = dpc 2

abbrev pub d4 : DpcNo
d4 = dpc 3

abbrev pub d5 : DpcNo
d5 = dpc 4

abbrev pub main : ThreadNo
main = thread 0

abbrev pub body : RoutineNo
body = routine 0

abbrev pub q : RoutineNo
q = routine 1

-- the script
abbrev pub script : Script
script =
    record plain {
      dpcs =
          record { threaded = false; routine = q } ∷ record { threaded = false; routine = q } ∷
          record { threaded = false; routine = q } ∷ record { threaded = false; routine = q } ∷
          record { threaded = false; routine = q } ∷ [];
      threads = thread_on 0 body ∷ [];
      routines =
          runs (SetImportance d1 Low ∷ SetImportance d2 Low ∷ SetImportance d3 Low ∷ SetImportance d4 Low ∷
          SetImportance d5 Low ∷ Queue d1 ∷ Queue d2 ∷ Queue d3 ∷ Queue d4 ∷ Queue d5 ∷ []) ∷
          runs [] ∷
          [];
    }

-- its robin run, the oldest event first
abbrev pub history : List Event
history =
    event 0 (Some main) 0 (Switch main None) ∷
    event 0 (Some main) 0 (Call 0 (SetImportance d1 Low) Done) ∷
    event 0 (Some main) 0 (Call 0 (SetImportance d2 Low) Done) ∷
    event 0 (Some main) 0 (Call 0 (SetImportance d3 Low) Done) ∷
    event 0 (Some main) 0 (Call 0 (SetImportance d4 Low) Done) ∷
    event 0 (Some main) 0 (Call 0 (SetImportance d5 Low) Done) ∷
    event 0 (Some main) 0 (Call 0 (Queue d1) Yes) ∷
    event 0 (Some main) 0 (Call 0 (Queue d2) Yes) ∷
    event 0 (Some main) 0 (Call 0 (Queue d3) Yes) ∷
    event 0 (Some main) 0 (Call 0 (Queue d4) Yes) ∷
    event 0 (Some main) 0 (Call 0 (Queue d5) Yes) ∷
    event 0 (Some main) 2 (Begin (Dpc d1) 6) ∷
    event 0 (Some main) 0 (End 11) ∷
    event 0 (Some main) 2 (Begin (Dpc d2) 7) ∷
    event 0 (Some main) 0 (End 13) ∷
    event 0 (Some main) 2 (Begin (Dpc d3) 8) ∷
    event 0 (Some main) 0 (End 15) ∷
    event 0 (Some main) 2 (Begin (Dpc d4) 9) ∷
    event 0 (Some main) 0 (End 17) ∷
    event 0 (Some main) 2 (Begin (Dpc d5) 10) ∷
    event 0 (Some main) 0 (End 19) ∷
    event 0 (Some main) 0 (Clean 2) ∷
    event 0 (Some main) 0 (End 0) ∷
    event 0 (Some main) 0 (Gone main) ∷
    event 0 None 0 Rest ∷
    []
