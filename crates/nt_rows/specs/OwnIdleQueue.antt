-- The worked row own-idle-queue: an insert of low importance by an interrupt on an idle processor.
use Rattle.std.specs.Prelude.{List, None, Some, [], false, ◌∷◌}
use Rattle.nt_event.specs.declared.commands.Command.TheVariants as cmd
use Rattle.nt_event.specs.declared.commands.Importance.TheVariants.{Low}
use Rattle.nt_event.specs.declared.commands.Reply.TheVariants.{Done, Yes}
use Rattle.nt_event.specs.declared.events.Begun.TheVariants.{Dpc, Int}
use Rattle.nt_event.specs.declared.events.Event.{Event}
use Rattle.nt_event.specs.declared.events.What.TheVariants.{Begin, Call, End, Gone, Rest, Switch}
use Rattle.nt_event.specs.declared.numbers.DpcNo.{DpcNo}
use Rattle.nt_event.specs.declared.numbers.RoutineNo.{RoutineNo}
use Rattle.nt_event.specs.declared.numbers.ThreadNo.{ThreadNo}
use Rattle.nt_event.specs.declared.scripts.Script.{Script}
use Rattle.nt_event.specs.Numbers.{cpu, dpc, routine, thread}
use Rattle.nt_rows.specs.Plain.{plain}
use Rattle.nt_rows.specs.Rows.{event, looks, runs, thread_on}

abbrev pub main : ThreadNo
main = thread 0

abbrev pub d : DpcNo
d = dpc 0

abbrev pub r5 : RoutineNo
r5 = routine 0

abbrev pub rd : RoutineNo
rd = routine 1

abbrev pub body : RoutineNo
body = routine 2

-- the script
abbrev pub script : Script
script =
    record plain {
      cpus = 2;
      isrs = record { cpu = cpu 1; level = 5; routine = r5 } ∷ [];
      dpcs = record { threaded = false; routine = rd } ∷ [];
      threads = thread_on 0 body ∷ [];
      routines =
          runs (cmd.Queue d ∷ []) ∷
          runs [] ∷
          runs (cmd.SetImportance d Low ∷ cmd.Interrupt (cpu 1) 5 ∷ []) ∷
          [];
    }

-- its robin run, the oldest event first
abbrev pub history : List Event
history =
    event 0 (Some main) 0 (Switch main None) ∷
    event 1 None 0 Rest ∷
    event 0 (Some main) 0 (Call 0 (cmd.SetImportance d Low) Done) ∷
    event 0 (Some main) 0 (Call 0 (cmd.Interrupt (cpu 1) 5) Done) ∷
    looks 1 ((5, 4) ∷ []) ∷
    event 0 (Some main) 0 (End 0) ∷
    event 1 None 5 (Begin (Int 5) 3) ∷
    event 0 (Some main) 0 (Gone main) ∷
    event 1 None 5 (Call 6 (cmd.Queue d) Yes) ∷
    event 0 None 0 Rest ∷
    event 1 None 0 (End 6) ∷
    event 1 None 2 (Begin (Dpc d) 8) ∷
    event 1 None 0 (End 11) ∷
    event 1 None 0 Rest ∷
    []
