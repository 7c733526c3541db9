-- The worked row order-of-tests: alerts of both modes and a user APC before waits.
use Rattle.std.specs.Prelude.{List, None, Some, [], true, ◌∷◌}
use Rattle.nt_event.specs.declared.commands.Command.TheVariants as cmd
use Rattle.nt_event.specs.declared.commands.Mode.TheVariants.{Kernel, User}
use Rattle.nt_event.specs.declared.commands.Reply.TheVariants.{Blocked, No, Status, Yes}
use Rattle.nt_event.specs.declared.events.Event.{Event}
use Rattle.nt_event.specs.declared.events.What.TheVariants.{Call, Rest, Switch}
use Rattle.nt_event.specs.declared.numbers.ApcNo.{ApcNo}
use Rattle.nt_event.specs.declared.numbers.RoutineNo.{RoutineNo}
use Rattle.nt_event.specs.declared.numbers.ThreadNo.{ThreadNo}
use Rattle.nt_event.specs.declared.scripts.Script.{Script}
use Rattle.nt_event.specs.Numbers.{apc, routine, thread}
use Rattle.nt_rows.specs.Plain.{plain}
use Rattle.nt_rows.specs.Rows.{event, runs, thread_on, user_apc}

abbrev pub a : ThreadNo
a = thread 0

abbrev pub u : ApcNo
u = apc 0

abbrev pub ra : RoutineNo
ra = routine 0

abbrev pub k : RoutineNo
k = routine 1

-- the script
abbrev pub script : Script
script =
    record plain {
      threads = thread_on 0 ra ∷ [];
      apcs = user_apc a k k None ∷ [];
      routines =
          runs (cmd.Alert a User ∷ cmd.Alert a Kernel ∷ cmd.InsertApc u ∷ cmd.StartWait User true ∷
          cmd.StartWait User true ∷ cmd.RemoveApc u ∷ cmd.StartWait User true ∷ cmd.TestAlert Kernel ∷
          cmd.StartWait User true ∷ []) ∷
          runs [] ∷
          [];
    }

-- its robin run, the oldest event first
abbrev pub history : List Event
history =
    event 0 (Some a) 0 (Switch a None) ∷
    event 0 (Some a) 0 (Call 0 (cmd.Alert a User) No) ∷
    event 0 (Some a) 0 (Call 0 (cmd.Alert a Kernel) No) ∷
    event 0 (Some a) 0 (Call 0 (cmd.InsertApc u) Yes) ∷
    event 0 (Some a) 0 (Call 0 (cmd.StartWait User true) (Status 257)) ∷
    event 0 (Some a) 0 (Call 0 (cmd.StartWait User true) (Status 192)) ∷
    event 0 (Some a) 0 (Call 0 (cmd.RemoveApc u) Yes) ∷
    event 0 (Some a) 0 (Call 0 (cmd.StartWait User true) (Status 257)) ∷
    event 0 (Some a) 0 (Call 0 (cmd.TestAlert Kernel) No) ∷
    event 0 (Some a) 0 (Call 0 (cmd.StartWait User true) Blocked) ∷
    event 0 None 0 Rest ∷
    []
