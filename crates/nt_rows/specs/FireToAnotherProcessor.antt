-- The worked row fire-to-another-processor: a timer's DPC runs on another processor, and cancels the timer there.
use Rattle.std.specs.Prelude.{List, None, Some, [], false, ◌∷◌}
use Rattle.nt_event.specs.declared.commands.Command.TheVariants as cmd
use Rattle.nt_event.specs.declared.commands.Reply.TheVariants.{Done, No, Yes}
use Rattle.nt_event.specs.declared.commands.TimerKey.TheVariants.{Timer as OfTimer}
use Rattle.nt_event.specs.declared.events.Begun.TheVariants.{Dpc, Int}
use Rattle.nt_event.specs.declared.events.Event.{Event}
use Rattle.nt_event.specs.declared.events.What.TheVariants.{Begin, Call, Clean, End, Expire, Fire, Gone, Rest, Switch}
use Rattle.nt_event.specs.declared.numbers.DpcNo.{DpcNo}
use Rattle.nt_event.specs.declared.numbers.RoutineNo.{RoutineNo}
use Rattle.nt_event.specs.declared.numbers.ThreadNo.{ThreadNo}
use Rattle.nt_event.specs.declared.numbers.TimerNo.{TimerNo}
use Rattle.nt_event.specs.declared.scripts.Script.{Script}
use Rattle.nt_event.specs.Numbers.{cpu, dpc, routine, thread, timer}
use Rattle.nt_rows.specs.Plain.{plain}
use Rattle.nt_rows.specs.Rows.{event, looks, runs, thread_on}

abbrev pub d : DpcNo
d = dpc 0

abbrev pub t : TimerNo
t = timer 0

abbrev pub a : ThreadNo
a = thread 0

abbrev pub ra : RoutineNo
ra = routine 0

abbrev pub rd : RoutineNo
rd = routine 1

-- the script
abbrev pub script : Script
script =
    record plain {
      cpus = 2;
      dpcs = record { threaded = false; routine = rd } ∷ [];
      timers = record { dpc = Some d } ∷ [];
      threads = thread_on 0 ra ∷ [];
      routines =
          runs (cmd.SetTarget d (Some (cpu 1)) ∷ cmd.SetTimer t 0 3 ∷ cmd.Clock 4 ∷ []) ∷
          runs (cmd.CancelTimer t ∷ []) ∷
          [];
    }

-- its robin run, the oldest event first
abbrev pub history : List Event
history =
    event 0 (Some a) 0 (Switch a None) ∷
    event 1 None 0 Rest ∷
    event 0 (Some a) 0 (Call 0 (cmd.SetTarget d (Some (cpu 1))) Done) ∷
    event 0 (Some a) 0 (Call 0 (cmd.SetTimer t 0 3) No) ∷
    event 0 (Some a) 0 (Expire (OfTimer t) 3) ∷
    event 0 (Some a) 0 (Fire d Yes) ∷
    looks 1 ((2, 6) ∷ []) ∷
    event 0 (Some a) 0 (Clean 2) ∷
    event 1 None 2 (Begin (Dpc d) 5) ∷
    event 0 (Some a) 0 (Call 0 (cmd.Clock 4) Done) ∷
    event 1 None 2 (Call 8 (cmd.CancelTimer t) Yes) ∷
    event 0 (Some a) 13 (Begin (Int 13) 9) ∷
    event 1 None 0 (End 8) ∷
    event 0 (Some a) 0 (End 11) ∷
    event 1 None 0 (Clean 2) ∷
    event 0 (Some a) 0 (Clean 2) ∷
    event 1 None 0 Rest ∷
    event 0 (Some a) 0 (End 0) ∷
    event 0 (Some a) 0 (Gone a) ∷
    event 0 None 0 Rest ∷
    []
