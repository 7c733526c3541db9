-- The worked row interrupt-other-processor.
use Rattle.std.specs.Prelude.{List, None, Some, [], ◌∷◌}
use Rattle.nt_event.specs.declared.commands.Command.TheVariants.{Interrupt}
use Rattle.nt_event.specs.declared.commands.Reply.TheVariants.{Done}
use Rattle.nt_event.specs.declared.events.Begun.TheVariants.{Int}
use Rattle.nt_event.specs.declared.events.Event.{Event}
use Rattle.nt_event.specs.declared.events.What.TheVariants.{Begin, Call, End, Gone, Rest, Switch}
use Rattle.nt_event.specs.declared.numbers.RoutineNo.{RoutineNo}
use Rattle.nt_event.specs.declared.numbers.ThreadNo.{ThreadNo}
use Rattle.nt_event.specs.declared.scripts.Script.{Script}
use Rattle.nt_event.specs.Numbers.{cpu, routine, thread}
use Rattle.nt_rows.specs.Plain.{plain}
use Rattle.nt_rows.specs.Rows.{event, looks, runs, thread_on}

abbrev pub a : ThreadNo
a = thread 0

abbrev pub ra : RoutineNo
ra = routine 0

-- the script
abbrev pub script : Script
script =
    record plain {
      cpus = 2;
      threads = thread_on 0 ra ∷ [];
      routines =
          runs (Interrupt (cpu 1) 5 ∷ []) ∷
          [];
    }

-- its robin run, the oldest event first
abbrev pub history : List Event
history =
    event 0 (Some a) 0 (Switch a None) ∷
    event 1 None 0 Rest ∷
    event 0 (Some a) 0 (Call 0 (Interrupt (cpu 1) 5) Done) ∷
    looks 1 ((5, 3) ∷ []) ∷
    event 0 (Some a) 0 (End 0) ∷
    event 1 None 5 (Begin (Int 5) 2) ∷
    event 0 (Some a) 0 (Gone a) ∷
    event 1 None 0 (End 5) ∷
    event 0 None 0 Rest ∷
    event 1 None 0 Rest ∷
    []
