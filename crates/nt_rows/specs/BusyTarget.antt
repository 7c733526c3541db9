-- The worked row busy-target.
use Rattle.std.specs.Prelude.{List, None, Some, [], false, ◌∷◌}
use Rattle.nt_event.specs.declared.commands.Command.TheVariants.{Note, Queue, SetTarget}
use Rattle.nt_event.specs.declared.commands.Reply.TheVariants.{Done, Yes}
use Rattle.nt_event.specs.declared.events.Begun.TheVariants.{Dpc}
use Rattle.nt_event.specs.declared.events.Event.{Event}
use Rattle.nt_event.specs.declared.events.What.TheVariants.{Begin, Call, End, Gone, Rest, Switch}
use Rattle.nt_event.specs.declared.numbers.DpcNo.{DpcNo}
use Rattle.nt_event.specs.declared.numbers.RoutineNo.{RoutineNo}
use Rattle.nt_event.specs.declared.numbers.ThreadNo.{ThreadNo}
use Rattle.nt_event.specs.declared.scripts.Script.{Script}
use Rattle.nt_event.specs.Numbers.{cpu, dpc, routine, thread}
use Rattle.nt_rows.specs.Plain.{plain}
use Rattle.nt_rows.specs.Rows.{event, runs, thread_on}

abbrev pub d : DpcNo
d = dpc 0

abbrev pub a : ThreadNo
a = thread 0

abbrev pub b : ThreadNo
b = thread 1

abbrev pub ra : RoutineNo
ra = routine 0

abbrev pub rb : RoutineNo
rb = routine 1

abbrev pub q : RoutineNo
q = routine 2

-- the script
abbrev pub script : Script
script =
    record plain {
      cpus = 2;
      dpcs = record { threaded = false; routine = q } ∷ [];
      threads = thread_on 0 ra ∷ thread_on 1 rb ∷ [];
      routines =
          runs (SetTarget d (Some (cpu 1)) ∷ Queue d ∷ []) ∷
          runs (Note 1 ∷ Note 2 ∷ Note 3 ∷ Note 4 ∷ []) ∷
          runs [] ∷
          [];
    }

-- its robin run, the oldest event first
abbrev pub history : List Event
history =
    event 0 (Some a) 0 (Switch a None) ∷
    event 1 (Some b) 0 (Switch b None) ∷
    event 0 (Some a) 0 (Call 0 (SetTarget d (Some (cpu 1))) Done) ∷
    event 1 (Some b) 0 (Call 1 (Note 1) Done) ∷
    event 0 (Some a) 0 (Call 0 (Queue d) Yes) ∷
    event 1 (Some b) 0 (Call 1 (Note 2) Done) ∷
    event 0 (Some a) 0 (End 0) ∷
    event 1 (Some b) 0 (Call 1 (Note 3) Done) ∷
    event 0 (Some a) 0 (Gone a) ∷
    event 1 (Some b) 0 (Call 1 (Note 4) Done) ∷
    event 0 None 0 Rest ∷
    event 1 (Some b) 0 (End 1) ∷
    event 1 (Some b) 0 (Gone b) ∷
    event 1 None 2 (Begin (Dpc d) 4) ∷
    event 1 None 0 (End 13) ∷
    event 1 None 0 Rest ∷
    []
