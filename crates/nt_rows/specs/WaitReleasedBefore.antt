-- The worked row wait-released-before: releases that come before the wait.
use Rattle.std.specs.Prelude.{List, None, Some, [], false, ◌∷◌}
use Rattle.nt_event.specs.declared.commands.Command.TheVariants as cmd
use Rattle.nt_event.specs.declared.commands.Mode.TheVariants.{Kernel}
use Rattle.nt_event.specs.declared.commands.Reply.TheVariants.{Blocked, Done, No, Status, Yes}
use Rattle.nt_event.specs.declared.events.Begun.TheVariants.{Apc}
use Rattle.nt_event.specs.declared.events.Event.{Event}
use Rattle.nt_event.specs.declared.events.What.TheVariants.{Begin, Call, Clean, End, Gone, Rest, Switch}
use Rattle.nt_event.specs.declared.numbers.ApcNo.{ApcNo}
use Rattle.nt_event.specs.declared.numbers.RoutineNo.{RoutineNo}
use Rattle.nt_event.specs.declared.numbers.ThreadNo.{ThreadNo}
use Rattle.nt_event.specs.declared.scripts.Script.{Script}
use Rattle.nt_event.specs.Numbers.{apc, routine, thread}
use Rattle.nt_rows.specs.Plain.{plain}
use Rattle.nt_rows.specs.Rows.{event, runs, special_apc, thread_on}

abbrev pub a : ThreadNo
a = thread 0

abbrev pub b : ThreadNo
b = thread 1

abbrev pub s : ApcNo
s = apc 0

abbrev pub ra : RoutineNo
ra = routine 0

abbrev pub rb : RoutineNo
rb = routine 1

abbrev pub k : RoutineNo
k = routine 2

-- the script
abbrev pub script : Script
script =
    record plain {
      cpus = 2;
      threads = thread_on 0 ra ∷ thread_on 1 rb ∷ [];
      apcs = special_apc a k ∷ [];
      routines =
          runs (cmd.Note 1 ∷ cmd.Note 1 ∷ cmd.StartWait Kernel false ∷ cmd.EnterGuard ∷ cmd.InsertApc s ∷
          cmd.Release a ∷ cmd.LeaveGuard ∷ cmd.StartWait Kernel false ∷ cmd.StartWait Kernel false ∷ []) ∷
          runs (cmd.Release a ∷ cmd.Release a ∷ cmd.Note 2 ∷ cmd.Note 2 ∷ cmd.Note 2 ∷ cmd.Note 2 ∷ cmd.Note 2 ∷
          cmd.Note 2 ∷ cmd.Note 2 ∷ cmd.Release a ∷ cmd.Release a ∷ []) ∷
          runs [] ∷
          [];
    }

-- its robin run, the oldest event first
abbrev pub history : List Event
history =
    event 0 (Some a) 0 (Switch a None) ∷
    event 1 (Some b) 0 (Switch b None) ∷
    event 0 (Some a) 0 (Call 0 (cmd.Note 1) Done) ∷
    event 1 (Some b) 0 (Call 1 (cmd.Release a) No) ∷
    event 0 (Some a) 0 (Call 0 (cmd.Note 1) Done) ∷
    event 1 (Some b) 0 (Call 1 (cmd.Release a) No) ∷
    event 0 (Some a) 0 (Call 0 (cmd.StartWait Kernel false) (Status 0)) ∷
    event 1 (Some b) 0 (Call 1 (cmd.Note 2) Done) ∷
    event 0 (Some a) 0 (Call 0 cmd.EnterGuard Done) ∷
    event 1 (Some b) 0 (Call 1 (cmd.Note 2) Done) ∷
    event 0 (Some a) 0 (Call 0 (cmd.InsertApc s) Yes) ∷
    event 1 (Some b) 0 (Call 1 (cmd.Note 2) Done) ∷
    event 0 (Some a) 0 (Clean 1) ∷
    event 1 (Some b) 0 (Call 1 (cmd.Note 2) Done) ∷
    event 0 (Some a) 0 (Call 0 (cmd.Release a) No) ∷
    event 1 (Some b) 0 (Call 1 (cmd.Note 2) Done) ∷
    event 0 (Some a) 0 (Call 0 cmd.LeaveGuard Done) ∷
    event 1 (Some b) 0 (Call 1 (cmd.Note 2) Done) ∷
    event 0 (Some a) 1 (Begin (Apc s) 10) ∷
    event 1 (Some b) 0 (Call 1 (cmd.Note 2) Done) ∷
    event 0 (Some a) 0 (End 18) ∷
    event 1 (Some b) 0 (Call 1 (cmd.Release a) No) ∷
    event 0 (Some a) 0 (Clean 1) ∷
    event 1 (Some b) 0 (Call 1 (cmd.Release a) No) ∷
    event 0 (Some a) 0 (Call 0 (cmd.StartWait Kernel false) (Status 0)) ∷
    event 1 (Some b) 0 (End 1) ∷
    event 0 (Some a) 0 (Call 0 (cmd.StartWait Kernel false) Blocked) ∷
    event 1 (Some b) 0 (Gone b) ∷
    event 0 None 0 Rest ∷
    event 1 None 0 Rest ∷
    []
