-- The worked row alerts-of-both-modes: kernel and user alerts of a thread, before each kind of wait.
use Rattle.std.specs.Prelude.{List, None, Some, [], false, true, ◌∷◌}
use Rattle.nt_event.specs.declared.commands.Command.TheVariants as cmd
use Rattle.nt_event.specs.declared.commands.Mode.TheVariants.{Kernel, User}
use Rattle.nt_event.specs.declared.commands.Reply.TheVariants.{Done, No, Status, Yes}
use Rattle.nt_event.specs.declared.events.Event.{Event}
use Rattle.nt_event.specs.declared.events.What.TheVariants.{Call, End, Flush, Gone, Rest, Switch}
use Rattle.nt_event.specs.declared.numbers.ApcNo.{ApcNo}
use Rattle.nt_event.specs.declared.numbers.RoutineNo.{RoutineNo}
use Rattle.nt_event.specs.declared.numbers.ThreadNo.{ThreadNo}
use Rattle.nt_event.specs.declared.scripts.Script.{Script}
use Rattle.nt_event.specs.Numbers.{apc, routine, thread}
use Rattle.nt_rows.specs.Plain.{plain}
use Rattle.nt_rows.specs.Rows.{event, runs, thread_on, user_apc}

abbrev pub a : ThreadNo
a = thread 0

abbrev pub b : ThreadNo
b = thread 1

abbrev pub u : ApcNo
u = apc 0

abbrev pub ra : RoutineNo
ra = routine 0

abbrev pub rb : RoutineNo
rb = routine 1

abbrev pub k : RoutineNo
k = routine 2

abbrev pub m : RoutineNo
m = routine 3

-- the script
abbrev pub script : Script
script =
    record plain {
      cpus = 2;
      threads = thread_on 0 ra ∷ thread_on 1 rb ∷ [];
      apcs = user_apc a k m None ∷ [];
      routines =
          runs (cmd.TestAlert Kernel ∷ cmd.TestAlert User ∷ cmd.StartWait Kernel true ∷ cmd.TestAlert Kernel ∷
          cmd.StartWait User true ∷ cmd.TestAlert User ∷ cmd.StartWait User true ∷ cmd.StartWait User false ∷
          cmd.Delay User true 5 ∷ cmd.Note 9 ∷ []) ∷
          runs (cmd.Alert a Kernel ∷ cmd.Alert a User ∷ cmd.Alert a User ∷ cmd.Alert a Kernel ∷ cmd.InsertApc u ∷
          cmd.Release a ∷ cmd.Release b ∷ cmd.TestAlert Kernel ∷ cmd.Alert b Kernel ∷ cmd.Alert b Kernel ∷
          cmd.TestAlert Kernel ∷ cmd.Alert b User ∷ cmd.TestAlert Kernel ∷ cmd.TestAlert User ∷
          cmd.TestAlert User ∷ []) ∷
          runs [] ∷
          runs (cmd.Note 1 ∷ []) ∷
          [];
    }

-- its robin run, the oldest event first
abbrev pub history : List Event
history =
    event 0 (Some a) 0 (Switch a None) ∷
    event 1 (Some b) 0 (Switch b None) ∷
    event 0 (Some a) 0 (Call 0 (cmd.TestAlert Kernel) No) ∷
    event 1 (Some b) 0 (Call 1 (cmd.Alert a Kernel) No) ∷
    event 0 (Some a) 0 (Call 0 (cmd.TestAlert User) No) ∷
    event 1 (Some b) 0 (Call 1 (cmd.Alert a User) No) ∷
    event 0 (Some a) 0 (Call 0 (cmd.StartWait Kernel true) (Status 257)) ∷
    event 1 (Some b) 0 (Call 1 (cmd.Alert a User) Yes) ∷
    event 0 (Some a) 0 (Call 0 (cmd.TestAlert Kernel) No) ∷
    event 1 (Some b) 0 (Call 1 (cmd.Alert a Kernel) No) ∷
    event 0 (Some a) 0 (Call 0 (cmd.StartWait User true) (Status 257)) ∷
    event 1 (Some b) 0 (Call 1 (cmd.InsertApc u) Yes) ∷
    event 0 (Some a) 0 (Call 0 (cmd.TestAlert User) No) ∷
    event 1 (Some b) 0 (Call 1 (cmd.Release a) No) ∷
    event 0 (Some a) 0 (Call 0 (cmd.StartWait User true) (Status 0)) ∷
    event 1 (Some b) 0 (Call 1 (cmd.Release b) No) ∷
    event 0 (Some a) 0 (Call 0 (cmd.StartWait User false) (Status 192)) ∷
    event 1 (Some b) 0 (Call 1 (cmd.TestAlert Kernel) No) ∷
    event 0 (Some a) 0 (Call 0 (cmd.Delay User true 5) (Status 192)) ∷
    event 1 (Some b) 0 (Call 1 (cmd.Alert b Kernel) No) ∷
    event 0 (Some a) 0 (Call 0 (cmd.Note 9) Done) ∷
    event 1 (Some b) 0 (Call 1 (cmd.Alert b Kernel) Yes) ∷
    event 0 (Some a) 0 (End 0) ∷
    event 1 (Some b) 0 (Call 1 (cmd.TestAlert Kernel) Yes) ∷
    event 0 (Some a) 0 (Flush u 11) ∷
    event 1 (Some b) 0 (Call 1 (cmd.Alert b User) No) ∷
    event 0 (Some a) 0 (Gone a) ∷
    event 1 (Some b) 0 (Call 1 (cmd.TestAlert Kernel) No) ∷
    event 0 None 0 Rest ∷
    event 1 (Some b) 0 (Call 1 (cmd.TestAlert User) Yes) ∷
    event 1 (Some b) 0 (Call 1 (cmd.TestAlert User) No) ∷
    event 1 (Some b) 0 (End 1) ∷
    event 1 (Some b) 0 (Gone b) ∷
    event 1 None 0 Rest ∷
    []
