-- The worked row medium-again: an object whose importance is set back to Medium stands at the back again.
use Rattle.std.specs.Prelude.{List, None, Some, [], false, ◌∷◌}
use Rattle.nt_event.specs.declared.commands.Command.TheVariants as cmd
use Rattle.nt_event.specs.declared.commands.Importance.TheVariants.{High, Medium, MediumHigh}
use Rattle.nt_event.specs.declared.commands.Reply.TheVariants.{Done, Yes}
use Rattle.nt_event.specs.declared.events.Begun.TheVariants.{Dpc}
use Rattle.nt_event.specs.declared.events.Event.{Event}
use Rattle.nt_event.specs.declared.events.What.TheVariants.{Begin, Call, Clean, End, Gone, Rest, Switch}
use Rattle.nt_event.specs.declared.numbers.DpcNo.{DpcNo}
use Rattle.nt_event.specs.declared.numbers.RoutineNo.{RoutineNo}
use Rattle.nt_event.specs.declared.numbers.ThreadNo.{ThreadNo}
use Rattle.nt_event.specs.declared.scripts.Script.{Script}
use Rattle.nt_event.specs.Numbers.{dpc, routine, thread}
use Rattle.nt_rows.specs.Plain.{plain}
use Rattle.nt_rows.specs.Rows.{event, runs, thread_on}

abbrev pub d1 : DpcNo
d1 = dpc 0

abbrev pub d2 : DpcNo
d2 = dpc 1

abbrev pub d3 : DpcNo
d3 = dpc 2

abbrev pub a : ThreadNo
a = thread 0

abbrev pub ra : RoutineNo
ra = routine 0

abbrev pub q : RoutineNo
q = routine 1

-- the script
abbrev pub script : Script
script =
    record plain {
      dpcs =
          record { threaded = false; routine = q } ∷ record { threaded = false; routine = q } ∷
          record { threaded = false; routine = q } ∷ [];
      threads = thread_on 0 ra ∷ [];
      routines =
          runs (cmd.Raise 2 ∷ cmd.SetImportance d2 High ∷ cmd.Queue d1 ∷ cmd.Queue d2 ∷ cmd.Unqueue d2 ∷
          cmd.SetImportance d2 Medium ∷ cmd.Queue d2 ∷ cmd.SetImportance d3 MediumHigh ∷ cmd.Queue d3 ∷ cmd.Lower 0 ∷
          []) ∷
          runs [] ∷
          [];
    }

-- its robin run, the oldest event first
abbrev pub history : List Event
history =
    event 0 (Some a) 0 (Switch a None) ∷
    event 0 (Some a) 2 (Call 0 (cmd.Raise 2) Done) ∷
    event 0 (Some a) 2 (Call 0 (cmd.SetImportance d2 High) Done) ∷
    event 0 (Some a) 2 (Call 0 (cmd.Queue d1) Yes) ∷
    event 0 (Some a) 2 (Call 0 (cmd.Queue d2) Yes) ∷
    event 0 (Some a) 2 (Call 0 (cmd.Unqueue d2) Yes) ∷
    event 0 (Some a) 2 (Call 0 (cmd.SetImportance d2 Medium) Done) ∷
    event 0 (Some a) 2 (Call 0 (cmd.Queue d2) Yes) ∷
    event 0 (Some a) 2 (Call 0 (cmd.SetImportance d3 MediumHigh) Done) ∷
    event 0 (Some a) 2 (Call 0 (cmd.Queue d3) Yes) ∷
    event 0 (Some a) 0 (Call 0 (cmd.Lower 0) Done) ∷
    event 0 (Some a) 2 (Begin (Dpc d1) 3) ∷
    event 0 (Some a) 0 (End 11) ∷
    event 0 (Some a) 2 (Begin (Dpc d2) 7) ∷
    event 0 (Some a) 0 (End 13) ∷
    event 0 (Some a) 2 (Begin (Dpc d3) 9) ∷
    event 0 (Some a) 0 (End 15) ∷
    event 0 (Some a) 0 (Clean 2) ∷
    event 0 (Some a) 0 (End 0) ∷
    event 0 (Some a) 0 (Gone a) ∷
    event 0 None 0 Rest ∷
    []
