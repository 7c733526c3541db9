-- The worked row timers-expire.
use Rattle.std.specs.Prelude.{List, None, Some, [], false, ◌∷◌}
use Rattle.nt_event.specs.declared.commands.Command.TheVariants.{CancelTimer, Clock, Lower, Queue, Raise, SetTimer}
use Rattle.nt_event.specs.declared.commands.Reply.TheVariants.{Done, No, Yes}
use Rattle.nt_event.specs.declared.commands.TimerKey.TheVariants.{Timer as OfTimer}
use Rattle.nt_event.specs.declared.events.Begun.TheVariants.{Dpc, Int}
use Rattle.nt_event.specs.declared.events.Event.{Event}
use Rattle.nt_event.specs.declared.events.What.TheVariants.{Begin, Call, Clean, End, Expire, Fire, Gone, Rest, Switch}
use Rattle.nt_event.specs.declared.numbers.DpcNo.{DpcNo}
use Rattle.nt_event.specs.declared.numbers.RoutineNo.{RoutineNo}
use Rattle.nt_event.specs.declared.numbers.ThreadNo.{ThreadNo}
use Rattle.nt_event.specs.declared.numbers.TimerNo.{TimerNo}
use Rattle.nt_event.specs.declared.scripts.Script.{Script}
use Rattle.nt_event.specs.Numbers.{dpc, routine, thread, timer}
use Rattle.nt_rows.specs.Plain.{plain}
use Rattle.nt_rows.specs.Rows.{event, runs, thread_on}

abbrev pub d1 : DpcNo
d1 = dpc 0

abbrev pub d2 : DpcNo
d2 = dpc 1

abbrev pub t : TimerNo
t = timer 0

abbrev pub main : ThreadNo
main = thread 0

abbrev pub body : RoutineNo
body = routine 0

abbrev pub c : RoutineNo
c = routine 1

abbrev pub q : RoutineNo
q = routine 2

-- the script
abbrev pub script : Script
script =
    record plain {
      dpcs = record { threaded = false; routine = c } ∷ record { threaded = false; routine = q } ∷ [];
      timers = record { dpc = Some d2 } ∷ [];
      threads = thread_on 0 body ∷ [];
      routines =
          runs (Raise 2 ∷ SetTimer t 1 0 ∷ SetTimer t 2 0 ∷ Queue d1 ∷ Clock 2 ∷ Lower 0 ∷ []) ∷
          runs (CancelTimer t ∷ []) ∷
          runs [] ∷
          [];
    }

-- its robin run, the oldest event first
abbrev pub history : List Event
history =
    event 0 (Some main) 0 (Switch main None) ∷
    event 0 (Some main) 2 (Call 0 (Raise 2) Done) ∷
    event 0 (Some main) 2 (Call 0 (SetTimer t 1 0) No) ∷
    event 0 (Some main) 2 (Call 0 (SetTimer t 2 0) Yes) ∷
    event 0 (Some main) 2 (Call 0 (Queue d1) Yes) ∷
    event 0 (Some main) 2 (Call 0 (Clock 2) Done) ∷
    event 0 (Some main) 13 (Begin (Int 13) 5) ∷
    event 0 (Some main) 2 (End 6) ∷
    event 0 (Some main) 0 (Call 0 (Lower 0) Done) ∷
    event 0 (Some main) 0 (Expire (OfTimer t) 3) ∷
    event 0 (Some main) 0 (Fire d2 Yes) ∷
    event 0 (Some main) 2 (Begin (Dpc d1) 4) ∷
    event 0 (Some main) 2 (Call 11 (CancelTimer t) No) ∷
    event 0 (Some main) 0 (End 11) ∷
    event 0 (Some main) 2 (Begin (Dpc d2) 10) ∷
    event 0 (Some main) 0 (End 14) ∷
    event 0 (Some main) 0 (Clean 2) ∷
    event 0 (Some main) 0 (End 0) ∷
    event 0 (Some main) 0 (Gone main) ∷
    event 0 None 0 Rest ∷
    []
