-- The worked row alert-ends-a-delay: an alert ends a delay, whose expiry ends nothing then.
use Rattle.std.specs.Prelude.{List, None, Some, [], true, ◌∷◌}
use Rattle.nt_event.specs.declared.commands.Command.TheVariants as cmd
use Rattle.nt_event.specs.declared.commands.Mode.TheVariants.{Kernel, User}
use Rattle.nt_event.specs.declared.commands.Reply.TheVariants.{Blocked, Done, No, Yes}
use Rattle.nt_event.specs.declared.commands.TimerKey.TheVariants.{Delay as OfDelay}
use Rattle.nt_event.specs.declared.events.Begun.TheVariants.{Int}
use Rattle.nt_event.specs.declared.events.Event.{Event}
use Rattle.nt_event.specs.declared.events.What.TheVariants.{Begin, Call, Clean, End, Expire, Gone, Rest, Switch}
use Rattle.nt_event.specs.declared.numbers.RoutineNo.{RoutineNo}
use Rattle.nt_event.specs.declared.numbers.ThreadNo.{ThreadNo}
use Rattle.nt_event.specs.declared.scripts.Script.{Script}
use Rattle.nt_event.specs.Numbers.{routine, thread}
use Rattle.nt_rows.specs.Plain.{plain}
use Rattle.nt_rows.specs.Rows.{event, runs, thread_on}

abbrev pub a : ThreadNo
a = thread 0

abbrev pub b : ThreadNo
b = thread 1

abbrev pub ra : RoutineNo
ra = routine 0

abbrev pub rb : RoutineNo
rb = routine 1

-- the script
abbrev pub script : Script
script =
    record plain {
      threads = thread_on 0 ra ∷ thread_on 0 rb ∷ [];
      routines =
          runs (cmd.Delay User true 5 ∷ cmd.TestAlert Kernel ∷ []) ∷
          runs (cmd.Alert a User ∷ cmd.Alert a Kernel ∷ cmd.Clock 9 ∷ []) ∷
          [];
    }

-- its robin run, the oldest event first
abbrev pub history : List Event
history =
    event 0 (Some a) 0 (Switch a None) ∷
    event 0 (Some a) 0 (Call 0 (cmd.Delay User true 5) Blocked) ∷
    event 0 (Some b) 0 (Switch b None) ∷
    event 0 (Some b) 0 (Call 2 (cmd.Alert a User) No) ∷
    event 0 (Some b) 0 (Clean 2) ∷
    event 0 (Some b) 0 (Call 2 (cmd.Alert a Kernel) No) ∷
    event 0 (Some b) 0 (Call 2 (cmd.Clock 9) Done) ∷
    event 0 (Some b) 13 (Begin (Int 13) 6) ∷
    event 0 (Some b) 0 (End 7) ∷
    event 0 (Some b) 0 (Expire (OfDelay a) 1) ∷
    event 0 (Some b) 0 (Clean 2) ∷
    event 0 (Some b) 0 (End 2) ∷
    event 0 (Some b) 0 (Gone b) ∷
    event 0 (Some a) 0 (Switch a (Some 257)) ∷
    event 0 (Some a) 0 (Call 0 (cmd.TestAlert Kernel) Yes) ∷
    event 0 (Some a) 0 (End 0) ∷
    event 0 (Some a) 0 (Gone a) ∷
    event 0 None 0 Rest ∷
    []
