-- The worked row wait-taken-up-and-alerted: an alert that came in a kernel APC ends the wait that is taken up.
use Rattle.std.specs.Prelude.{List, None, Some, [], true, ◌∷◌}
use Rattle.nt_event.specs.declared.commands.Command.TheVariants as cmd
use Rattle.nt_event.specs.declared.commands.Mode.TheVariants.{Kernel}
use Rattle.nt_event.specs.declared.commands.Reply.TheVariants.{Blocked, Done, No, Status, Yes}
use Rattle.nt_event.specs.declared.events.Begun.TheVariants.{Apc}
use Rattle.nt_event.specs.declared.events.Event.{Event}
use Rattle.nt_event.specs.declared.events.What.TheVariants.{Begin, Call, Clean, End, Gone, Rest, Rewait, Switch}
use Rattle.nt_event.specs.declared.numbers.ApcNo.{ApcNo}
use Rattle.nt_event.specs.declared.numbers.RoutineNo.{RoutineNo}
use Rattle.nt_event.specs.declared.numbers.ThreadNo.{ThreadNo}
use Rattle.nt_event.specs.declared.scripts.Script.{Script}
use Rattle.nt_event.specs.Numbers.{apc, routine, thread}
use Rattle.nt_rows.specs.Plain.{plain}
use Rattle.nt_rows.specs.Rows.{event, runs, special_apc, thread_on}

abbrev pub a : ThreadNo
a = thread 0

abbrev pub b : ThreadNo
b = thread 1

abbrev pub s : ApcNo
s = apc 0

abbrev pub ra : RoutineNo
ra = routine 0

abbrev pub rb : RoutineNo
rb = routine 1

abbrev pub k : RoutineNo
k = routine 2

-- the script
abbrev pub script : Script
script =
    record plain {
      threads = thread_on 0 ra ∷ thread_on 0 rb ∷ [];
      apcs = special_apc a k ∷ [];
      routines =
          runs (cmd.StartWait Kernel true ∷ cmd.Note 1 ∷ []) ∷
          runs (cmd.InsertApc s ∷ []) ∷
          runs (cmd.Alert a Kernel ∷ []) ∷
          [];
    }

-- its robin run, the oldest event first
abbrev pub history : List Event
history =
    event 0 (Some a) 0 (Switch a None) ∷
    event 0 (Some a) 0 (Call 0 (cmd.StartWait Kernel true) Blocked) ∷
    event 0 (Some b) 0 (Switch b None) ∷
    event 0 (Some b) 0 (Call 2 (cmd.InsertApc s) Yes) ∷
    event 0 (Some b) 0 (Clean 2) ∷
    event 0 (Some b) 0 (Clean 1) ∷
    event 0 (Some b) 0 (End 2) ∷
    event 0 (Some b) 0 (Gone b) ∷
    event 0 (Some a) 0 (Switch a (Some 256)) ∷
    event 0 (Some a) 1 (Begin (Apc s) 3) ∷
    event 0 (Some a) 1 (Call 9 (cmd.Alert a Kernel) No) ∷
    event 0 (Some a) 0 (End 9) ∷
    event 0 (Some a) 0 (Clean 1) ∷
    event 0 (Some a) 0 (Rewait 0 (Status 257)) ∷
    event 0 (Some a) 0 (Call 0 (cmd.Note 1) Done) ∷
    event 0 (Some a) 0 (End 0) ∷
    event 0 (Some a) 0 (Gone a) ∷
    event 0 None 0 Rest ∷
    []
