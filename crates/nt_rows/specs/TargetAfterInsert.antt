-- The worked row target-after-insert: a target that is set while the object is queued, and timers of one due time.
use Rattle.std.specs.Prelude.{List, None, Some, [], false, ◌∷◌}
use Rattle.nt_event.specs.declared.commands.Command.TheVariants as cmd
use Rattle.nt_event.specs.declared.commands.Reply.TheVariants.{Done, No, Yes}
use Rattle.nt_event.specs.declared.commands.TimerKey.TheVariants.{Timer as OfTimer}
use Rattle.nt_event.specs.declared.events.Begun.TheVariants.{Int}
use Rattle.nt_event.specs.declared.events.Event.{Event}
use Rattle.nt_event.specs.declared.events.What.TheVariants.{Begin, Call, Clean, End, Expire, Gone, Rest, Switch}
use Rattle.nt_event.specs.declared.numbers.DpcNo.{DpcNo}
use Rattle.nt_event.specs.declared.numbers.RoutineNo.{RoutineNo}
use Rattle.nt_event.specs.declared.numbers.ThreadNo.{ThreadNo}
use Rattle.nt_event.specs.declared.numbers.TimerNo.{TimerNo}
use Rattle.nt_event.specs.declared.scripts.Script.{Script}
use Rattle.nt_event.specs.Numbers.{cpu, dpc, routine, thread, timer}
use Rattle.nt_rows.specs.Plain.{plain}
use Rattle.nt_rows.specs.Rows.{event, runs, thread_on}

abbrev pub main : ThreadNo
main = thread 0

abbrev pub d : DpcNo
d = dpc 0

abbrev pub t : TimerNo
t = timer 0

abbrev pub u : TimerNo
u = timer 1

abbrev pub body : RoutineNo
body = routine 0

abbrev pub q : RoutineNo
q = routine 1

-- the script
abbrev pub script : Script
script =
    record plain {
      cpus = 2;
      dpcs = record { threaded = false; routine = q } ∷ [];
      timers = record { dpc = None } ∷ record { dpc = None } ∷ [];
      threads = thread_on 0 body ∷ [];
      routines =
          runs (cmd.Raise 2 ∷ cmd.Queue d ∷ cmd.SetTarget d (Some (cpu 1)) ∷ cmd.Unqueue d ∷ cmd.Lower 0 ∷
          cmd.SetTimer t 1 0 ∷ cmd.SetTimer u 1 0 ∷ cmd.Clock 1 ∷ []) ∷
          runs [] ∷
          [];
    }

-- its robin run, the oldest event first
abbrev pub history : List Event
history =
    event 0 (Some main) 0 (Switch main None) ∷
    event 1 None 0 Rest ∷
    event 0 (Some main) 2 (Call 0 (cmd.Raise 2) Done) ∷
    event 0 (Some main) 2 (Call 0 (cmd.Queue d) Yes) ∷
    event 0 (Some main) 2 (Call 0 (cmd.SetTarget d (Some (cpu 1))) Done) ∷
    event 0 (Some main) 2 (Call 0 (cmd.Unqueue d) Yes) ∷
    event 0 (Some main) 0 (Call 0 (cmd.Lower 0) Done) ∷
    event 0 (Some main) 0 (Clean 2) ∷
    event 0 (Some main) 0 (Call 0 (cmd.SetTimer t 1 0) No) ∷
    event 0 (Some main) 0 (Call 0 (cmd.SetTimer u 1 0) No) ∷
    event 0 (Some main) 0 (Call 0 (cmd.Clock 1) Done) ∷
    event 0 (Some main) 13 (Begin (Int 13) 10) ∷
    event 0 (Some main) 0 (End 11) ∷
    event 0 (Some main) 0 (Expire (OfTimer t) 8) ∷
    event 0 (Some main) 0 (Expire (OfTimer u) 9) ∷
    event 0 (Some main) 0 (Clean 2) ∷
    event 0 (Some main) 0 (End 0) ∷
    event 0 (Some main) 0 (Gone main) ∷
    event 0 None 0 Rest ∷
    []
