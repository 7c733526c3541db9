-- The worked row threaded-off-depth-0: a depth limit of 0, and threaded DPCs switched off.
use Rattle.std.specs.Prelude.{List, None, Some, [], false, true, ◌∷◌}
use Rattle.nt_event.specs.declared.commands.Command.TheVariants as cmd
use Rattle.nt_event.specs.declared.commands.Importance.TheVariants.{Low}
use Rattle.nt_event.specs.declared.commands.Refusal.TheVariants.{NotThread}
use Rattle.nt_event.specs.declared.commands.Reply.TheVariants.{Done, Refused, Yes}
use Rattle.nt_event.specs.declared.events.Begun.TheVariants.{Dpc}
use Rattle.nt_event.specs.declared.events.Event.{Event}
use Rattle.nt_event.specs.declared.events.What.TheVariants.{Begin, Call, Clean, End, Gone, Rest, Switch}
use Rattle.nt_event.specs.declared.numbers.DpcNo.{DpcNo}
use Rattle.nt_event.specs.declared.numbers.RoutineNo.{RoutineNo}
use Rattle.nt_event.specs.declared.numbers.ThreadNo.{ThreadNo}
use Rattle.nt_event.specs.declared.scripts.Script.{Script}
use Rattle.nt_event.specs.Numbers.{cpu, dpc, routine, thread}
use Rattle.nt_rows.specs.Plain.{plain}
use Rattle.nt_rows.specs.Rows.{event, looks, runs, thread_on}

abbrev pub w : DpcNo
w = dpc 0

abbrev pub d : DpcNo
d = dpc 1

abbrev pub a : ThreadNo
a = thread 0

abbrev pub rw : RoutineNo
rw = routine 0

abbrev pub rd : RoutineNo
rd = routine 1

abbrev pub ra : RoutineNo
ra = routine 2

-- the script
abbrev pub script : Script
script =
    record plain {
      cpus = 2;
      depth = Some 0;
      threaded = Some false;
      dpcs = record { threaded = true; routine = rw } ∷ record { threaded = false; routine = rd } ∷ [];
      threads = thread_on 0 ra ∷ [];
      routines =
          runs (cmd.Note 1 ∷ []) ∷
          runs (cmd.EnterCrit ∷ []) ∷
          runs (cmd.SetImportance d Low ∷ cmd.Queue w ∷ cmd.Queue d ∷
          cmd.SetTarget w (Some (cpu 1)) ∷ cmd.Queue w ∷ []) ∷
          [];
    }

-- its robin run, the oldest event first
abbrev pub history : List Event
history =
    event 0 (Some a) 0 (Switch a None) ∷
    event 1 None 0 Rest ∷
    event 0 (Some a) 0 (Call 0 (cmd.SetImportance d Low) Done) ∷
    event 0 (Some a) 0 (Call 0 (cmd.Queue w) Yes) ∷
    event 0 (Some a) 2 (Begin (Dpc w) 3) ∷
    event 0 (Some a) 2 (Call 4 (cmd.Note 1) Done) ∷
    event 0 (Some a) 0 (End 4) ∷
    event 0 (Some a) 0 (Clean 2) ∷
    event 0 (Some a) 0 (Call 0 (cmd.Queue d) Yes) ∷
    event 0 (Some a) 2 (Begin (Dpc d) 8) ∷
    event 0 (Some a) 2 (Call 9 cmd.EnterCrit (Refused NotThread)) ∷
    event 0 (Some a) 0 (End 9) ∷
    event 0 (Some a) 0 (Clean 2) ∷
    event 0 (Some a) 0 (Call 0 (cmd.SetTarget w (Some (cpu 1))) Done) ∷
    event 0 (Some a) 0 (Call 0 (cmd.Queue w) Yes) ∷
    looks 1 ((2, 15) ∷ []) ∷
    event 0 (Some a) 0 (End 0) ∷
    event 1 None 2 (Begin (Dpc w) 14) ∷
    event 0 (Some a) 0 (Gone a) ∷
    event 1 None 2 (Call 17 (cmd.Note 1) Done) ∷
    event 0 None 0 Rest ∷
    event 1 None 0 (End 17) ∷
    event 1 None 0 (Clean 2) ∷
    event 1 None 0 Rest ∷
    []
