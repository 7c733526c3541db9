-- The worked row release-ends-a-wait: waits that another thread ends, and inserts and alerts that end none.
use Rattle.std.specs.Prelude.{List, None, Some, [], false, true, ◌∷◌}
use Rattle.nt_event.specs.declared.commands.Command.TheVariants as cmd
use Rattle.nt_event.specs.declared.commands.Mode.TheVariants.{Kernel, User}
use Rattle.nt_event.specs.declared.commands.Reply.TheVariants.{Blocked, Done, No, Status, Yes}
use Rattle.nt_event.specs.declared.events.Begun.TheVariants.{Apc}
use Rattle.nt_event.specs.declared.events.Event.{Event}
use Rattle.nt_event.specs.declared.events.What.TheVariants.{Begin, Call, Clean, End, Flush, Gone, Rest, Switch}
use Rattle.nt_event.specs.declared.numbers.ApcNo.{ApcNo}
use Rattle.nt_event.specs.declared.numbers.RoutineNo.{RoutineNo}
use Rattle.nt_event.specs.declared.numbers.ThreadNo.{ThreadNo}
use Rattle.nt_event.specs.declared.scripts.Script.{Script}
use Rattle.nt_event.specs.Numbers.{apc, routine, thread}
use Rattle.nt_rows.specs.Plain.{plain}
use Rattle.nt_rows.specs.Rows.{event, looks, runs, special_apc, thread_on, user_apc}

abbrev pub a : ThreadNo
a = thread 0

abbrev pub b : ThreadNo
b = thread 1

abbrev pub s : ApcNo
s = apc 0

abbrev pub u : ApcNo
u = apc 1

abbrev pub ra : RoutineNo
ra = routine 0

abbrev pub rb : RoutineNo
rb = routine 1

abbrev pub k : RoutineNo
k = routine 2

abbrev pub m : RoutineNo
m = routine 3

-- the script
abbrev pub script : Script
script =
    record plain {
      cpus = 2;
      threads = thread_on 0 ra ∷ thread_on 1 rb ∷ [];
      apcs = special_apc a k ∷ user_apc a k m None ∷ [];
      routines =
          runs (cmd.StartWait Kernel true ∷ cmd.StartWait User true ∷ cmd.StartWait User true ∷
          cmd.StartWait User true ∷ cmd.EnterGuard ∷ cmd.StartWait User false ∷ cmd.LeaveGuard ∷ []) ∷
          runs (cmd.Alert a User ∷ cmd.InsertApc u ∷ cmd.RemoveApc u ∷ cmd.Release a ∷ cmd.Alert a Kernel ∷ cmd.Note 1 ∷
          cmd.Note 1 ∷ cmd.Note 1 ∷ cmd.Note 1 ∷ cmd.Alert a Kernel ∷ cmd.Note 1 ∷ cmd.Note 1 ∷ cmd.Note 1 ∷
          cmd.Note 1 ∷ cmd.InsertApc s ∷ cmd.InsertApc u ∷ cmd.Release a ∷ []) ∷
          runs [] ∷
          runs [] ∷
          [];
    }

-- its robin run, the oldest event first
abbrev pub history : List Event
history =
    event 0 (Some a) 0 (Switch a None) ∷
    event 1 (Some b) 0 (Switch b None) ∷
    event 0 (Some a) 0 (Call 0 (cmd.StartWait Kernel true) Blocked) ∷
    event 1 (Some b) 0 (Call 1 (cmd.Alert a User) No) ∷
    event 0 None 0 Rest ∷
    event 1 (Some b) 0 (Call 1 (cmd.InsertApc u) Yes) ∷
    event 1 (Some b) 0 (Call 1 (cmd.RemoveApc u) Yes) ∷
    event 1 (Some b) 0 (Call 1 (cmd.Release a) Yes) ∷
    looks 0 ((2, 8) ∷ []) ∷
    event 1 (Some b) 0 (Call 1 (cmd.Alert a Kernel) No) ∷
    event 0 None 0 (Clean 2) ∷
    event 1 (Some b) 0 (Call 1 (cmd.Note 1) Done) ∷
    event 0 (Some a) 0 (Switch a (Some 0)) ∷
    event 1 (Some b) 0 (Call 1 (cmd.Note 1) Done) ∷
    event 0 (Some a) 0 (Call 0 (cmd.StartWait User true) (Status 257)) ∷
    event 1 (Some b) 0 (Call 1 (cmd.Note 1) Done) ∷
    event 0 (Some a) 0 (Call 0 (cmd.StartWait User true) (Status 257)) ∷
    event 1 (Some b) 0 (Call 1 (cmd.Note 1) Done) ∷
    event 0 (Some a) 0 (Call 0 (cmd.StartWait User true) Blocked) ∷
    event 1 (Some b) 0 (Call 1 (cmd.Alert a Kernel) No) ∷
    looks 0 ((2, 20) ∷ []) ∷
    event 1 (Some b) 0 (Call 1 (cmd.Note 1) Done) ∷
    event 0 None 0 (Clean 2) ∷
    event 1 (Some b) 0 (Call 1 (cmd.Note 1) Done) ∷
    event 0 (Some a) 0 (Switch a (Some 257)) ∷
    event 1 (Some b) 0 (Call 1 (cmd.Note 1) Done) ∷
    event 0 (Some a) 0 (Call 0 cmd.EnterGuard Done) ∷
    event 1 (Some b) 0 (Call 1 (cmd.Note 1) Done) ∷
    event 0 (Some a) 0 (Call 0 (cmd.StartWait User false) Blocked) ∷
    event 1 (Some b) 0 (Call 1 (cmd.InsertApc s) Yes) ∷
    looks 0 ((1, 30) ∷ []) ∷
    event 1 (Some b) 0 (Call 1 (cmd.InsertApc u) Yes) ∷
    event 0 None 0 Rest ∷
    event 1 (Some b) 0 (Call 1 (cmd.Release a) Yes) ∷
    looks 0 ((2, 34) ∷ []) ∷
    event 1 (Some b) 0 (End 1) ∷
    event 0 None 0 (Clean 2) ∷
    event 1 (Some b) 0 (Gone b) ∷
    event 0 (Some a) 0 (Switch a (Some 0)) ∷
    event 1 None 0 Rest ∷
    event 0 (Some a) 0 (Clean 1) ∷
    event 0 (Some a) 0 (Call 0 cmd.LeaveGuard Done) ∷
    event 0 (Some a) 1 (Begin (Apc s) 29) ∷
    event 0 (Some a) 0 (End 42) ∷
    event 0 (Some a) 0 (Clean 1) ∷
    event 0 (Some a) 0 (End 0) ∷
    event 0 (Some a) 0 (Flush u 31) ∷
    event 0 (Some a) 0 (Gone a) ∷
    event 0 None 0 Rest ∷
    []
