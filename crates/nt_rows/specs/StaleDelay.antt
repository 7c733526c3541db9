-- The worked row stale-delay: a delay that an alert ended expires in a later wait.
use Rattle.std.specs.Prelude.{List, None, Some, [], false, true, ◌∷◌}
use Rattle.nt_event.specs.declared.commands.Command.TheVariants as cmd
use Rattle.nt_event.specs.declared.commands.Mode.TheVariants.{Kernel, User}
use Rattle.nt_event.specs.declared.commands.Reply.TheVariants.{Blocked, Done, No, Yes}
use Rattle.nt_event.specs.declared.commands.TimerKey.TheVariants.{Delay as OfDelay}
use Rattle.nt_event.specs.declared.events.Begun.TheVariants.{Int}
use Rattle.nt_event.specs.declared.events.Event.{Event}
use Rattle.nt_event.specs.declared.events.What.TheVariants.{Begin, Call, Clean, End, Expire, Gone, Rest, Switch}
use Rattle.nt_event.specs.declared.numbers.RoutineNo.{RoutineNo}
use Rattle.nt_event.specs.declared.numbers.ThreadNo.{ThreadNo}
use Rattle.nt_event.specs.declared.scripts.Script.{Script}
use Rattle.nt_event.specs.Numbers.{routine, thread}
use Rattle.nt_rows.specs.Plain.{plain}
use Rattle.nt_rows.specs.Rows.{event, looks, runs, thread_on}

abbrev pub a : ThreadNo
a = thread 0

abbrev pub b : ThreadNo
b = thread 1

abbrev pub ra : RoutineNo
ra = routine 0

abbrev pub rb : RoutineNo
rb = routine 1

-- the script
abbrev pub script : Script
script =
    record plain {
      cpus = 2;
      threads = thread_on 0 ra ∷ thread_on 1 rb ∷ [];
      routines =
          runs (cmd.Raise 1 ∷ cmd.Delay User true 2 ∷ cmd.StartWait Kernel false ∷ cmd.Lower 0 ∷ []) ∷
          runs (cmd.Note 0 ∷ cmd.Alert a User ∷ cmd.Note 0 ∷ cmd.Note 0 ∷ cmd.Note 0 ∷ cmd.Clock 2 ∷ cmd.Release a ∷
          []) ∷
          [];
    }

-- its robin run, the oldest event first
abbrev pub history : List Event
history =
    event 0 (Some a) 0 (Switch a None) ∷
    event 1 (Some b) 0 (Switch b None) ∷
    event 0 (Some a) 1 (Call 0 (cmd.Raise 1) Done) ∷
    event 1 (Some b) 0 (Call 1 (cmd.Note 0) Done) ∷
    event 0 (Some a) 0 (Call 0 (cmd.Delay User true 2) Blocked) ∷
    event 1 (Some b) 0 (Call 1 (cmd.Alert a User) No) ∷
    looks 0 ((2, 6) ∷ []) ∷
    event 1 (Some b) 0 (Call 1 (cmd.Note 0) Done) ∷
    event 0 None 0 (Clean 2) ∷
    event 1 (Some b) 0 (Call 1 (cmd.Note 0) Done) ∷
    event 0 (Some a) 1 (Switch a (Some 257)) ∷
    event 1 (Some b) 0 (Call 1 (cmd.Note 0) Done) ∷
    event 0 (Some a) 0 (Call 0 (cmd.StartWait Kernel false) Blocked) ∷
    event 1 (Some b) 0 (Call 1 (cmd.Clock 2) Done) ∷
    event 0 None 0 Rest ∷
    event 1 (Some b) 13 (Begin (Int 13) 13) ∷
    event 1 (Some b) 0 (End 15) ∷
    event 1 (Some b) 0 (Expire (OfDelay a) 4) ∷
    event 1 (Some b) 0 (Clean 2) ∷
    event 1 (Some b) 0 (Call 1 (cmd.Release a) Yes) ∷
    looks 0 ((2, 20) ∷ []) ∷
    event 1 (Some b) 0 (End 1) ∷
    event 0 None 0 (Clean 2) ∷
    event 1 (Some b) 0 (Gone b) ∷
    event 0 (Some a) 1 (Switch a (Some 0)) ∷
    event 1 None 0 Rest ∷
    event 0 (Some a) 0 (Call 0 (cmd.Lower 0) Done) ∷
    event 0 (Some a) 0 (End 0) ∷
    event 0 (Some a) 0 (Gone a) ∷
    event 0 None 0 Rest ∷
    []
