-- The worked row targets-and-importance: targets set and unset, under each importance.
use Rattle.std.specs.Prelude.{List, None, Some, [], false, true, ◌∷◌}
use Rattle.nt_event.specs.declared.commands.Command.TheVariants as cmd
use Rattle.nt_event.specs.declared.commands.Importance.TheVariants.{High, Low, MediumHigh}
use Rattle.nt_event.specs.declared.commands.Reply.TheVariants.{Done, Yes}
use Rattle.nt_event.specs.declared.events.Begun.TheVariants.{Dpc, Threaded}
use Rattle.nt_event.specs.declared.events.Event.{Event}
use Rattle.nt_event.specs.declared.events.What.TheVariants.{Begin, Call, Clean, End, Gone, Rest, Switch}
use Rattle.nt_event.specs.declared.numbers.DpcNo.{DpcNo}
use Rattle.nt_event.specs.declared.numbers.RoutineNo.{RoutineNo}
use Rattle.nt_event.specs.declared.numbers.ThreadNo.{ThreadNo}
use Rattle.nt_event.specs.declared.scripts.Script.{Script}
use Rattle.nt_event.specs.Numbers.{cpu, dpc, routine, thread}
use Rattle.nt_rows.specs.Plain.{plain}
use Rattle.nt_rows.specs.Rows.{event, looks, runs, thread_on}

abbrev pub d : DpcNo
d = dpc 0

abbrev pub e : DpcNo
e = dpc 1

abbrev pub f : DpcNo
f = dpc 2

abbrev pub g : DpcNo
g = dpc 3

abbrev pub h : DpcNo
h = dpc 4

abbrev pub a : ThreadNo
a = thread 0

abbrev pub rd : RoutineNo
rd = routine 0

abbrev pub ra : RoutineNo
ra = routine 1

-- the script
abbrev pub script : Script
script =
    record plain {
      cpus = 3;
      depth = Some 1;
      dpcs =
          record { threaded = false; routine = rd } ∷ record { threaded = false; routine = rd } ∷
          record { threaded = false; routine = rd } ∷ record { threaded = false; routine = rd } ∷
          record { threaded = true; routine = rd } ∷ [];
      threads = thread_on 0 ra ∷ [];
      routines =
          runs [] ∷
          runs (cmd.Raise 2 ∷ cmd.SetTarget d (Some (cpu 1)) ∷ cmd.SetTarget d None ∷ cmd.SetImportance d Low ∷
          cmd.Queue d ∷ cmd.SetTarget e (Some (cpu 1)) ∷ cmd.SetImportance e MediumHigh ∷ cmd.Queue e ∷
          cmd.SetTarget f (Some (cpu 1)) ∷ cmd.SetImportance f Low ∷ cmd.Queue f ∷ cmd.SetTarget g (Some (cpu 1)) ∷
          cmd.SetImportance g High ∷ cmd.Queue g ∷ cmd.SetTarget h (Some (cpu 2)) ∷ cmd.Queue h ∷
          cmd.SetTarget h None ∷ cmd.Queue h ∷ cmd.Lower 0 ∷ []) ∷
          [];
    }

-- its robin run, the oldest event first
abbrev pub history : List Event
history =
    event 0 (Some a) 0 (Switch a None) ∷
    event 1 None 0 Rest ∷
    event 2 None 0 Rest ∷
    event 0 (Some a) 2 (Call 0 (cmd.Raise 2) Done) ∷
    event 0 (Some a) 2 (Call 0 (cmd.SetTarget d (Some (cpu 1))) Done) ∷
    event 0 (Some a) 2 (Call 0 (cmd.SetTarget d None) Done) ∷
    event 0 (Some a) 2 (Call 0 (cmd.SetImportance d Low) Done) ∷
    event 0 (Some a) 2 (Call 0 (cmd.Queue d) Yes) ∷
    event 0 (Some a) 2 (Call 0 (cmd.SetTarget e (Some (cpu 1))) Done) ∷
    event 0 (Some a) 2 (Call 0 (cmd.SetImportance e MediumHigh) Done) ∷
    event 0 (Some a) 2 (Call 0 (cmd.Queue e) Yes) ∷
    looks 1 ((2, 11) ∷ []) ∷
    event 0 (Some a) 2 (Call 0 (cmd.SetTarget f (Some (cpu 1))) Done) ∷
    event 1 None 2 (Begin (Dpc e) 10) ∷
    event 0 (Some a) 2 (Call 0 (cmd.SetImportance f Low) Done) ∷
    event 1 None 0 (End 13) ∷
    event 0 (Some a) 2 (Call 0 (cmd.Queue f) Yes) ∷
    looks 1 ((2, 17) ∷ []) ∷
    event 0 (Some a) 2 (Call 0 (cmd.SetTarget g (Some (cpu 1))) Done) ∷
    event 1 None 2 (Begin (Dpc f) 16) ∷
    event 0 (Some a) 2 (Call 0 (cmd.SetImportance g High) Done) ∷
    event 1 None 0 (End 19) ∷
    event 0 (Some a) 2 (Call 0 (cmd.Queue g) Yes) ∷
    looks 1 ((2, 23) ∷ []) ∷
    event 0 (Some a) 2 (Call 0 (cmd.SetTarget h (Some (cpu 2))) Done) ∷
    event 1 None 2 (Begin (Dpc g) 22) ∷
    event 0 (Some a) 2 (Call 0 (cmd.Queue h) Yes) ∷
    event 1 None 0 (End 25) ∷
    looks 2 ((0, 27) ∷ []) ∷
    event 0 (Some a) 2 (Call 0 (cmd.SetTarget h None) Done) ∷
    event 1 None 0 (Clean 2) ∷
    event 2 None 0 (Begin (Threaded h) 26) ∷
    event 0 (Some a) 2 (Call 0 (cmd.Queue h) Yes) ∷
    event 1 None 0 Rest ∷
    event 2 None 0 (End 31) ∷
    event 0 (Some a) 0 (Call 0 (cmd.Lower 0) Done) ∷
    event 2 None 0 (Clean 0) ∷
    event 0 (Some a) 0 (Begin (Threaded h) 32) ∷
    event 2 None 0 Rest ∷
    event 0 (Some a) 0 (End 37) ∷
    event 0 (Some a) 0 (Clean 0) ∷
    event 0 (Some a) 0 (End 0) ∷
    event 0 (Some a) 0 (Gone a) ∷
    event 0 None 2 (Begin (Dpc d) 7) ∷
    event 0 None 0 (End 43) ∷
    event 0 None 0 Rest ∷
    []
