-- The worked row busy-again: an insert for a processor that was idle and took up a thread.
use Rattle.std.specs.Prelude.{List, None, Some, [], false, ◌∷◌}
use Rattle.nt_event.specs.declared.commands.Command.TheVariants as cmd
use Rattle.nt_event.specs.declared.commands.Importance.TheVariants.{Low}
use Rattle.nt_event.specs.declared.commands.Mode.TheVariants.{Kernel}
use Rattle.nt_event.specs.declared.commands.Reply.TheVariants.{Blocked, Done, Yes}
use Rattle.nt_event.specs.declared.events.Begun.TheVariants.{Dpc}
use Rattle.nt_event.specs.declared.events.Event.{Event}
use Rattle.nt_event.specs.declared.events.What.TheVariants.{Begin, Call, Clean, End, Gone, Rest, Switch}
use Rattle.nt_event.specs.declared.numbers.DpcNo.{DpcNo}
use Rattle.nt_event.specs.declared.numbers.RoutineNo.{RoutineNo}
use Rattle.nt_event.specs.declared.numbers.ThreadNo.{ThreadNo}
use Rattle.nt_event.specs.declared.scripts.Script.{Script}
use Rattle.nt_event.specs.Numbers.{cpu, dpc, routine, thread}
use Rattle.nt_rows.specs.Plain.{plain}
use Rattle.nt_rows.specs.Rows.{event, looks, runs, thread_on}

abbrev pub a : ThreadNo
a = thread 0

abbrev pub b : ThreadNo
b = thread 1

abbrev pub d : DpcNo
d = dpc 0

abbrev pub rd : RoutineNo
rd = routine 0

abbrev pub ra : RoutineNo
ra = routine 1

abbrev pub rb : RoutineNo
rb = routine 2

-- the script
abbrev pub script : Script
script =
    record plain {
      cpus = 2;
      dpcs = record { threaded = false; routine = rd } ∷ [];
      threads = thread_on 0 ra ∷ thread_on 1 rb ∷ [];
      routines =
          runs [] ∷
          runs (cmd.SetTarget d (Some (cpu 1)) ∷ cmd.SetImportance d Low ∷ cmd.Release b ∷ cmd.Note 0 ∷ cmd.Note 0 ∷
          cmd.Queue d ∷ []) ∷
          runs (cmd.StartWait Kernel false ∷ cmd.Note 1 ∷ cmd.Note 2 ∷ cmd.Note 3 ∷ []) ∷
          [];
    }

-- its robin run, the oldest event first
abbrev pub history : List Event
history =
    event 0 (Some a) 0 (Switch a None) ∷
    event 1 (Some b) 0 (Switch b None) ∷
    event 0 (Some a) 0 (Call 0 (cmd.SetTarget d (Some (cpu 1))) Done) ∷
    event 1 (Some b) 0 (Call 1 (cmd.StartWait Kernel false) Blocked) ∷
    event 0 (Some a) 0 (Call 0 (cmd.SetImportance d Low) Done) ∷
    event 1 None 0 Rest ∷
    event 0 (Some a) 0 (Call 0 (cmd.Release b) Yes) ∷
    looks 1 ((2, 7) ∷ []) ∷
    event 0 (Some a) 0 (Call 0 (cmd.Note 0) Done) ∷
    event 1 None 0 (Clean 2) ∷
    event 0 (Some a) 0 (Call 0 (cmd.Note 0) Done) ∷
    event 1 (Some b) 0 (Switch b (Some 0)) ∷
    event 0 (Some a) 0 (Call 0 (cmd.Queue d) Yes) ∷
    event 1 (Some b) 0 (Call 1 (cmd.Note 1) Done) ∷
    event 0 (Some a) 0 (End 0) ∷
    event 1 (Some b) 0 (Call 1 (cmd.Note 2) Done) ∷
    event 0 (Some a) 0 (Gone a) ∷
    event 1 (Some b) 0 (Call 1 (cmd.Note 3) Done) ∷
    event 0 None 0 Rest ∷
    event 1 (Some b) 0 (End 1) ∷
    event 1 (Some b) 0 (Gone b) ∷
    event 1 None 2 (Begin (Dpc d) 12) ∷
    event 1 None 0 (End 21) ∷
    event 1 None 0 Rest ∷
    []
