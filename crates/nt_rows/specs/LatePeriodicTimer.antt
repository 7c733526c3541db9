-- The worked row late-periodic-timer.
use Rattle.std.specs.Prelude.{List, None, Some, [], false, ◌∷◌}
use Rattle.nt_event.specs.declared.commands.Command.TheVariants.{Clock, SetTimer}
use Rattle.nt_event.specs.declared.commands.Reply.TheVariants.{Done, No, Yes}
use Rattle.nt_event.specs.declared.commands.TimerKey.TheVariants.{Timer as OfTimer}
use Rattle.nt_event.specs.declared.events.Begun.TheVariants.{Dpc, Int}
use Rattle.nt_event.specs.declared.events.Event.{Event}
use Rattle.nt_event.specs.declared.events.What.TheVariants.{Begin, Call, Clean, End, Expire, Fire, Gone, Rest, Switch}
use Rattle.nt_event.specs.declared.numbers.DpcNo.{DpcNo}
use Rattle.nt_event.specs.declared.numbers.RoutineNo.{RoutineNo}
use Rattle.nt_event.specs.declared.numbers.ThreadNo.{ThreadNo}
use Rattle.nt_event.specs.declared.numbers.TimerNo.{TimerNo}
use Rattle.nt_event.specs.declared.scripts.Script.{Script}
use Rattle.nt_event.specs.Numbers.{dpc, routine, thread, timer}
use Rattle.nt_rows.specs.Plain.{plain}
use Rattle.nt_rows.specs.Rows.{event, runs, thread_on}

abbrev pub d : DpcNo
d = dpc 0

abbrev pub t : TimerNo
t = timer 0

abbrev pub main : ThreadNo
main = thread 0

abbrev pub body : RoutineNo
body = routine 0

abbrev pub q : RoutineNo
q = routine 1

-- the script
abbrev pub script : Script
script =
    record plain {
      dpcs = record { threaded = false; routine = q } ∷ [];
      timers = record { dpc = Some d } ∷ [];
      threads = thread_on 0 body ∷ [];
      routines =
          runs (SetTimer t 1 1 ∷ Clock 3 ∷ []) ∷
          runs [] ∷
          [];
    }

-- its robin run, the oldest event first
abbrev pub history : List Event
history =
    event 0 (Some main) 0 (Switch main None) ∷
    event 0 (Some main) 0 (Call 0 (SetTimer t 1 1) No) ∷
    event 0 (Some main) 0 (Call 0 (Clock 3) Done) ∷
    event 0 (Some main) 13 (Begin (Int 13) 2) ∷
    event 0 (Some main) 0 (End 3) ∷
    event 0 (Some main) 0 (Expire (OfTimer t) 1) ∷
    event 0 (Some main) 0 (Fire d Yes) ∷
    event 0 (Some main) 2 (Begin (Dpc d) 6) ∷
    event 0 (Some main) 0 (End 7) ∷
    event 0 (Some main) 0 (Clean 2) ∷
    event 0 (Some main) 0 (End 0) ∷
    event 0 (Some main) 0 (Gone main) ∷
    event 0 None 0 Rest ∷
    []
