-- The worked row interrupt-in-interrupt.
use Rattle.std.specs.Prelude.{List, None, Some, [], ◌∷◌}
use Rattle.nt_event.specs.declared.commands.Command.TheVariants.{Interrupt, Note}
use Rattle.nt_event.specs.declared.commands.Reply.TheVariants.{Done}
use Rattle.nt_event.specs.declared.events.Begun.TheVariants.{Int}
use Rattle.nt_event.specs.declared.events.Event.{Event}
use Rattle.nt_event.specs.declared.events.What.TheVariants.{Begin, Call, End, Gone, Rest, Switch}
use Rattle.nt_event.specs.declared.numbers.RoutineNo.{RoutineNo}
use Rattle.nt_event.specs.declared.numbers.ThreadNo.{ThreadNo}
use Rattle.nt_event.specs.declared.scripts.Script.{Script}
use Rattle.nt_event.specs.Numbers.{cpu, routine, thread}
use Rattle.nt_rows.specs.Plain.{plain}
use Rattle.nt_rows.specs.Rows.{event, runs, thread_on}

abbrev pub main : ThreadNo
main = thread 0

abbrev pub body : RoutineNo
body = routine 0

abbrev pub r5 : RoutineNo
r5 = routine 1

abbrev pub r9 : RoutineNo
r9 = routine 2

abbrev pub q : RoutineNo
q = routine 3

-- the script
abbrev pub script : Script
script =
    record plain {
      isrs = record { cpu = cpu 0; level = 5; routine = r5 } ∷ record { cpu = cpu 0; level = 9; routine = r9 } ∷ [];
      threads = thread_on 0 body ∷ [];
      routines =
          runs (Interrupt (cpu 0) 5 ∷ []) ∷
          runs (Interrupt (cpu 0) 9 ∷ Interrupt (cpu 0) 3 ∷ []) ∷
          runs (Note 9 ∷ []) ∷
          runs [] ∷
          [];
    }

-- its robin run, the oldest event first
abbrev pub history : List Event
history =
    event 0 (Some main) 0 (Switch main None) ∷
    event 0 (Some main) 0 (Call 0 (Interrupt (cpu 0) 5) Done) ∷
    event 0 (Some main) 5 (Begin (Int 5) 1) ∷
    event 0 (Some main) 5 (Call 2 (Interrupt (cpu 0) 9) Done) ∷
    event 0 (Some main) 9 (Begin (Int 9) 3) ∷
    event 0 (Some main) 9 (Call 4 (Note 9) Done) ∷
    event 0 (Some main) 5 (End 4) ∷
    event 0 (Some main) 5 (Call 2 (Interrupt (cpu 0) 3) Done) ∷
    event 0 (Some main) 0 (End 2) ∷
    event 0 (Some main) 3 (Begin (Int 3) 7) ∷
    event 0 (Some main) 0 (End 9) ∷
    event 0 (Some main) 0 (End 0) ∷
    event 0 (Some main) 0 (Gone main) ∷
    event 0 None 0 Rest ∷
    []
