-- The worked row rest-notices-a-lane: a Rest that itself notices an ask, by the lane of its queue.
use Rattle.std.specs.Prelude.{List, None, Some, [], true, ◌∷◌}
use Rattle.nt_event.specs.declared.commands.Command.TheVariants.{Queue, SetTarget}
use Rattle.nt_event.specs.declared.commands.Reply.TheVariants.{Done, Yes}
use Rattle.nt_event.specs.declared.events.Begun.TheVariants.{Threaded}
use Rattle.nt_event.specs.declared.events.Event.{Event}
use Rattle.nt_event.specs.declared.events.Turn.{Turn}
use Rattle.nt_event.specs.declared.events.Turn.TheVariants.{Next, Switch as Take}
use Rattle.nt_event.specs.declared.events.What.TheVariants.{Begin, Call, Clean, End, Gone, Rest, Switch}
use Rattle.nt_event.specs.declared.numbers.DpcNo.{DpcNo}
use Rattle.nt_event.specs.declared.numbers.RoutineNo.{RoutineNo}
use Rattle.nt_event.specs.declared.numbers.ThreadNo.{ThreadNo}
use Rattle.nt_event.specs.declared.scripts.Script.{Script}
use Rattle.nt_event.specs.Numbers.{cpu, dpc, routine, thread}
use Rattle.nt_rows.specs.Plain.{plain}
use Rattle.nt_rows.specs.Rows.{event, runs, thread_on}

abbrev pub w : DpcNo
w = dpc 0

abbrev pub a : ThreadNo
a = thread 0

abbrev pub ra : RoutineNo
ra = routine 0

abbrev pub q : RoutineNo
q = routine 1

-- the script
abbrev pub script : Script
script =
    record plain {
      cpus = 2;
      dpcs = record { threaded = true; routine = q } ∷ [];
      threads = thread_on 0 ra ∷ [];
      routines =
          runs (SetTarget w (Some (cpu 1)) ∷ Queue w ∷ []) ∷
          runs [] ∷
          [];
    }

-- the turns, in order
abbrev pub schedule : List Turn
schedule =
    Take (cpu 0) a ∷ Next (cpu 0) ∷ Next (cpu 0) ∷ Next (cpu 1) ∷ Next (cpu 1) ∷ Next (cpu 1) ∷ Next (cpu 1) ∷
    Next (cpu 1) ∷ Next (cpu 0) ∷ Next (cpu 0) ∷ Next (cpu 0) ∷ []

-- what they make, the oldest event first
abbrev pub history : List Event
history =
    event 0 (Some a) 0 (Switch a None) ∷
    event 0 (Some a) 0 (Call 0 (SetTarget w (Some (cpu 1))) Done) ∷
    event 0 (Some a) 0 (Call 0 (Queue w) Yes) ∷
    event 1 None 0 Rest ∷
    event 1 None 0 (Begin (Threaded w) 2) ∷
    event 1 None 0 (End 4) ∷
    event 1 None 0 (Clean 0) ∷
    event 1 None 0 Rest ∷
    event 0 (Some a) 0 (End 0) ∷
    event 0 (Some a) 0 (Gone a) ∷
    event 0 None 0 Rest ∷
    []

-- without the last four turns of processor 1
abbrev pub unfinished : List Turn
unfinished =
    Take (cpu 0) a ∷ Next (cpu 0) ∷ Next (cpu 0) ∷ Next (cpu 1) ∷ Next (cpu 0) ∷ Next (cpu 0) ∷ Next (cpu 0) ∷ []
