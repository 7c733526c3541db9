-- The worked row idle-target.
use Rattle.std.specs.Prelude.{List, None, Some, [], false, ◌∷◌}
use Rattle.nt_event.specs.declared.commands.Command.TheVariants.{Queue, SetTarget}
use Rattle.nt_event.specs.declared.commands.Reply.TheVariants.{Done, Yes}
use Rattle.nt_event.specs.declared.events.Begun.TheVariants.{Dpc}
use Rattle.nt_event.specs.declared.events.Event.{Event}
use Rattle.nt_event.specs.declared.events.What.TheVariants.{Begin, Call, Clean, End, Gone, Rest, Switch}
use Rattle.nt_event.specs.declared.numbers.DpcNo.{DpcNo}
use Rattle.nt_event.specs.declared.numbers.RoutineNo.{RoutineNo}
use Rattle.nt_event.specs.declared.numbers.ThreadNo.{ThreadNo}
use Rattle.nt_event.specs.declared.scripts.Script.{Script}
use Rattle.nt_event.specs.Numbers.{cpu, dpc, routine, thread}
use Rattle.nt_rows.specs.Plain.{plain}
use Rattle.nt_rows.specs.Rows.{event, looks, runs, thread_on}

abbrev pub d : DpcNo
d = dpc 0

abbrev pub a : ThreadNo
a = thread 0

abbrev pub ra : RoutineNo
ra = routine 0

abbrev pub q : RoutineNo
q = routine 1

-- the script
abbrev pub script : Script
script =
    record plain {
      cpus = 2;
      dpcs = record { threaded = false; routine = q } ∷ [];
      threads = thread_on 0 ra ∷ [];
      routines =
          runs (SetTarget d (Some (cpu 1)) ∷ Queue d ∷ []) ∷
          runs [] ∷
          [];
    }

-- its robin run, the oldest event first
abbrev pub history : List Event
history =
    event 0 (Some a) 0 (Switch a None) ∷
    event 1 None 0 Rest ∷
    event 0 (Some a) 0 (Call 0 (SetTarget d (Some (cpu 1))) Done) ∷
    event 0 (Some a) 0 (Call 0 (Queue d) Yes) ∷
    looks 1 ((2, 4) ∷ []) ∷
    event 0 (Some a) 0 (End 0) ∷
    event 1 None 2 (Begin (Dpc d) 3) ∷
    event 0 (Some a) 0 (Gone a) ∷
    event 1 None 0 (End 6) ∷
    event 0 None 0 Rest ∷
    event 1 None 0 (Clean 2) ∷
    event 1 None 0 Rest ∷
    []
