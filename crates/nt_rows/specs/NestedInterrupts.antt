-- The worked row nested-interrupts.
use Rattle.std.specs.Prelude.{List, None, Some, [], false, ◌∷◌}
use Rattle.nt_event.specs.declared.commands.Command.TheVariants.{InsertApc, Interrupt, Note, Queue}
use Rattle.nt_event.specs.declared.commands.Reply.TheVariants.{Done, Yes}
use Rattle.nt_event.specs.declared.events.Begun.TheVariants.{Apc, Dpc, Int}
use Rattle.nt_event.specs.declared.events.Event.{Event}
use Rattle.nt_event.specs.declared.events.What.TheVariants.{Begin, Call, Clean, End, Gone, Rest, Switch}
use Rattle.nt_event.specs.declared.numbers.ApcNo.{ApcNo}
use Rattle.nt_event.specs.declared.numbers.DpcNo.{DpcNo}
use Rattle.nt_event.specs.declared.numbers.RoutineNo.{RoutineNo}
use Rattle.nt_event.specs.declared.numbers.ThreadNo.{ThreadNo}
use Rattle.nt_event.specs.declared.scripts.Script.{Script}
use Rattle.nt_event.specs.Numbers.{apc, cpu, dpc, routine, thread}
use Rattle.nt_rows.specs.Plain.{plain}
use Rattle.nt_rows.specs.Rows.{event, runs, special_apc, thread_on}

abbrev pub d : DpcNo
d = dpc 0

abbrev pub main : ThreadNo
main = thread 0

abbrev pub s : ApcNo
s = apc 0

abbrev pub r5 : RoutineNo
r5 = routine 0

abbrev pub r9 : RoutineNo
r9 = routine 1

abbrev pub rd : RoutineNo
rd = routine 2

abbrev pub rk : RoutineNo
rk = routine 3

abbrev pub body : RoutineNo
body = routine 4

-- the script
abbrev pub script : Script
script =
    record plain {
      isrs = record { cpu = cpu 0; level = 5; routine = r5 } ∷ record { cpu = cpu 0; level = 9; routine = r9 } ∷ [];
      dpcs = record { threaded = false; routine = rd } ∷ [];
      threads = thread_on 0 body ∷ [];
      apcs = special_apc main rk ∷ [];
      routines =
          runs (Queue d ∷ Interrupt (cpu 0) 9 ∷ []) ∷
          runs (Note 9 ∷ []) ∷
          runs (InsertApc s ∷ []) ∷
          runs (Note 1 ∷ []) ∷
          runs (Interrupt (cpu 0) 5 ∷ []) ∷
          [];
    }

-- its robin run, the oldest event first
abbrev pub history : List Event
history =
    event 0 (Some main) 0 (Switch main None) ∷
    event 0 (Some main) 0 (Call 0 (Interrupt (cpu 0) 5) Done) ∷
    event 0 (Some main) 5 (Begin (Int 5) 1) ∷
    event 0 (Some main) 5 (Call 2 (Queue d) Yes) ∷
    event 0 (Some main) 5 (Call 2 (Interrupt (cpu 0) 9) Done) ∷
    event 0 (Some main) 9 (Begin (Int 9) 4) ∷
    event 0 (Some main) 9 (Call 5 (Note 9) Done) ∷
    event 0 (Some main) 5 (End 5) ∷
    event 0 (Some main) 0 (End 2) ∷
    event 0 (Some main) 2 (Begin (Dpc d) 3) ∷
    event 0 (Some main) 2 (Call 9 (InsertApc s) Yes) ∷
    event 0 (Some main) 0 (End 9) ∷
    event 0 (Some main) 0 (Clean 2) ∷
    event 0 (Some main) 1 (Begin (Apc s) 10) ∷
    event 0 (Some main) 1 (Call 13 (Note 1) Done) ∷
    event 0 (Some main) 0 (End 13) ∷
    event 0 (Some main) 0 (Clean 1) ∷
    event 0 (Some main) 0 (End 0) ∷
    event 0 (Some main) 0 (Gone main) ∷
    event 0 None 0 Rest ∷
    []
