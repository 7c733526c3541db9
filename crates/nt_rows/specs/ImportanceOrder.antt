-- The worked row importance-order.
use Rattle.std.specs.Prelude.{List, None, Some, [], false, ◌∷◌}
use Rattle.nt_event.specs.declared.commands.Command.TheVariants.{Lower, Queue, Raise, SetImportance}
use Rattle.nt_event.specs.declared.commands.Importance.TheVariants.{High, Low}
use Rattle.nt_event.specs.declared.commands.Reply.TheVariants.{Done, Yes}
use Rattle.nt_event.specs.declared.events.Begun.TheVariants.{Dpc}
use Rattle.nt_event.specs.declared.events.Event.{Event}
use Rattle.nt_event.specs.declared.events.What.TheVariants.{Begin, Call, Clean, End, Gone, Rest, Switch}
use Rattle.nt_event.specs.declared.numbers.DpcNo.{DpcNo}
use Rattle.nt_event.specs.declared.numbers.RoutineNo.{RoutineNo}
use Rattle.nt_event.specs.declared.numbers.ThreadNo.{ThreadNo}
use Rattle.nt_event.specs.declared.scripts.Script.{Script}
use Rattle.nt_event.specs.Numbers.{dpc, routine, thread}
use Rattle.nt_rows.specs.Plain.{plain}
use Rattle.nt_rows.specs.Rows.{event, runs, thread_on}

abbrev pub a : DpcNo
a = dpc 0

abbrev pub b : DpcNo
b = dpc 1

abbrev pub c : DpcNo
c = dpc 2

abbrev pub e : DpcNo
e = dpc 3

abbrev pub main : ThreadNo
main = thread 0

abbrev pub body : RoutineNo
body = routine 0

abbrev pub q : RoutineNo
q = routine 1

-- the script
abbrev pub script : Script
script =
    record plain {
      dpcs =
          record { threaded = false; routine = q } ∷ record { threaded = false; routine = q } ∷
          record { threaded = false; routine = q } ∷ record { threaded = false; routine = q } ∷ [];
      threads = thread_on 0 body ∷ [];
      routines =
          runs (Raise 15 ∷ SetImportance b High ∷ SetImportance c High ∷ SetImportance e Low ∷ Queue a ∷ Queue b ∷
          Queue c ∷ Queue e ∷ Lower 0 ∷ []) ∷
          runs [] ∷
          [];
    }

-- its robin run, the oldest event first
abbrev pub history : List Event
history =
    event 0 (Some main) 0 (Switch main None) ∷
    event 0 (Some main) 15 (Call 0 (Raise 15) Done) ∷
    event 0 (Some main) 15 (Call 0 (SetImportance b High) Done) ∷
    event 0 (Some main) 15 (Call 0 (SetImportance c High) Done) ∷
    event 0 (Some main) 15 (Call 0 (SetImportance e Low) Done) ∷
    event 0 (Some main) 15 (Call 0 (Queue a) Yes) ∷
    event 0 (Some main) 15 (Call 0 (Queue b) Yes) ∷
    event 0 (Some main) 15 (Call 0 (Queue c) Yes) ∷
    event 0 (Some main) 15 (Call 0 (Queue e) Yes) ∷
    event 0 (Some main) 0 (Call 0 (Lower 0) Done) ∷
    event 0 (Some main) 2 (Begin (Dpc c) 7) ∷
    event 0 (Some main) 0 (End 10) ∷
    event 0 (Some main) 2 (Begin (Dpc b) 6) ∷
    event 0 (Some main) 0 (End 12) ∷
    event 0 (Some main) 2 (Begin (Dpc a) 5) ∷
    event 0 (Some main) 0 (End 14) ∷
    event 0 (Some main) 2 (Begin (Dpc e) 8) ∷
    event 0 (Some main) 0 (End 16) ∷
    event 0 (Some main) 0 (Clean 2) ∷
    event 0 (Some main) 0 (End 0) ∷
    event 0 (Some main) 0 (Gone main) ∷
    event 0 None 0 Rest ∷
    []
