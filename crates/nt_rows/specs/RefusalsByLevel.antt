-- The worked row refusals-by-level: what a thread's level, routine and regions forbid.
use Rattle.std.specs.Prelude.{List, None, Some, [], false, true, ◌∷◌}
use Rattle.nt_event.specs.declared.commands.Command.TheVariants as cmd
use Rattle.nt_event.specs.declared.commands.Mode.TheVariants.{Kernel, User}
use Rattle.nt_event.specs.declared.commands.Refusal.TheVariants.{NotBase, NotEntered, RegionsOpen, TooHigh}
use Rattle.nt_event.specs.declared.commands.Reply.TheVariants.{Blocked, Done, No, Refused, Yes}
use Rattle.nt_event.specs.declared.events.Begun.TheVariants.{Apc}
use Rattle.nt_event.specs.declared.events.Event.{Event}
use Rattle.nt_event.specs.declared.events.What.TheVariants.{Begin, Call, Clean, Rest, Switch}
use Rattle.nt_event.specs.declared.numbers.ApcNo.{ApcNo}
use Rattle.nt_event.specs.declared.numbers.RoutineNo.{RoutineNo}
use Rattle.nt_event.specs.declared.numbers.ThreadNo.{ThreadNo}
use Rattle.nt_event.specs.declared.numbers.TimerNo.{TimerNo}
use Rattle.nt_event.specs.declared.scripts.Script.{Script}
use Rattle.nt_event.specs.Numbers.{apc, routine, thread, timer}
use Rattle.nt_rows.specs.Plain.{plain}
use Rattle.nt_rows.specs.Rows.{event, normal_apc, runs, thread_on}

abbrev pub t : TimerNo
t = timer 0

abbrev pub main : ThreadNo
main = thread 0

abbrev pub n : ApcNo
n = apc 0

abbrev pub nk : RoutineNo
nk = routine 0

abbrev pub nn : RoutineNo
nn = routine 1

abbrev pub body : RoutineNo
body = routine 2

-- the script
abbrev pub script : Script
script =
    record plain {
      timers = record { dpc = None } ∷ [];
      threads = thread_on 0 body ∷ [];
      apcs = normal_apc main nk nn ∷ [];
      routines =
          runs (cmd.ToUser ∷ cmd.EnterCrit ∷ cmd.LeaveCrit ∷ cmd.LeaveGuard ∷ cmd.StartWait Kernel false ∷ []) ∷
          runs (cmd.ToUser ∷ cmd.EnterCrit ∷ cmd.Note 7 ∷ []) ∷
          runs (cmd.Raise 1 ∷ cmd.EnterCrit ∷ cmd.EnterGuard ∷ cmd.LeaveGuard ∷ cmd.LeaveGuard ∷ cmd.LeaveCrit ∷
          cmd.LeaveCrit ∷ cmd.ToUser ∷ cmd.Yield ∷ cmd.Raise 2 ∷ cmd.EnterCrit ∷ cmd.LeaveCrit ∷
          cmd.StartWait User true ∷ cmd.Delay User false 0 ∷ cmd.TestAlert User ∷ cmd.Yield ∷ cmd.ToUser ∷
          cmd.SetTimer t 9 0 ∷ cmd.CancelTimer t ∷ cmd.CancelTimer t ∷ cmd.Raise 3 ∷ cmd.TestAlert User ∷
          cmd.Lower 0 ∷ cmd.EnterCrit ∷ cmd.ToUser ∷ cmd.InsertApc n ∷ cmd.LeaveCrit ∷ cmd.EnterGuard ∷
          cmd.ToUser ∷ cmd.LeaveGuard ∷ cmd.ToUser ∷ []) ∷
          [];
    }

-- its robin run, the oldest event first
abbrev pub history : List Event
history =
    event 0 (Some main) 0 (Switch main None) ∷
    event 0 (Some main) 1 (Call 0 (cmd.Raise 1) Done) ∷
    event 0 (Some main) 1 (Call 0 cmd.EnterCrit Done) ∷
    event 0 (Some main) 1 (Call 0 cmd.EnterGuard Done) ∷
    event 0 (Some main) 1 (Call 0 cmd.LeaveGuard Done) ∷
    event 0 (Some main) 1 (Call 0 cmd.LeaveGuard (Refused NotEntered)) ∷
    event 0 (Some main) 1 (Call 0 cmd.LeaveCrit Done) ∷
    event 0 (Some main) 1 (Call 0 cmd.LeaveCrit (Refused NotEntered)) ∷
    event 0 (Some main) 1 (Call 0 cmd.ToUser (Refused TooHigh)) ∷
    event 0 (Some main) 0 (Call 0 cmd.Yield Done) ∷
    event 0 (Some main) 1 (Switch main None) ∷
    event 0 (Some main) 2 (Call 0 (cmd.Raise 2) Done) ∷
    event 0 (Some main) 2 (Call 0 cmd.EnterCrit (Refused TooHigh)) ∷
    event 0 (Some main) 2 (Call 0 cmd.LeaveCrit (Refused TooHigh)) ∷
    event 0 (Some main) 2 (Call 0 (cmd.StartWait User true) (Refused TooHigh)) ∷
    event 0 (Some main) 2 (Call 0 (cmd.Delay User false 0) (Refused TooHigh)) ∷
    event 0 (Some main) 2 (Call 0 (cmd.TestAlert User) No) ∷
    event 0 (Some main) 2 (Call 0 cmd.Yield (Refused TooHigh)) ∷
    event 0 (Some main) 2 (Call 0 cmd.ToUser (Refused TooHigh)) ∷
    event 0 (Some main) 2 (Call 0 (cmd.SetTimer t 9 0) No) ∷
    event 0 (Some main) 2 (Call 0 (cmd.CancelTimer t) Yes) ∷
    event 0 (Some main) 2 (Call 0 (cmd.CancelTimer t) No) ∷
    event 0 (Some main) 3 (Call 0 (cmd.Raise 3) Done) ∷
    event 0 (Some main) 3 (Call 0 (cmd.TestAlert User) (Refused TooHigh)) ∷
    event 0 (Some main) 0 (Call 0 (cmd.Lower 0) Done) ∷
    event 0 (Some main) 0 (Clean 1) ∷
    event 0 (Some main) 0 (Call 0 cmd.EnterCrit Done) ∷
    event 0 (Some main) 0 (Call 0 cmd.ToUser (Refused RegionsOpen)) ∷
    event 0 (Some main) 0 (Call 0 (cmd.InsertApc n) Yes) ∷
    event 0 (Some main) 0 (Clean 1) ∷
    event 0 (Some main) 0 (Call 0 cmd.LeaveCrit Done) ∷
    event 0 (Some main) 1 (Begin (Apc n) 28) ∷
    event 0 (Some main) 1 (Call 31 cmd.ToUser (Refused NotBase)) ∷
    event 0 (Some main) 1 (Call 31 cmd.EnterCrit Done) ∷
    event 0 (Some main) 1 (Call 31 cmd.LeaveCrit Done) ∷
    event 0 (Some main) 1 (Call 31 cmd.LeaveGuard (Refused NotEntered)) ∷
    event 0 (Some main) 0 (Call 31 (cmd.StartWait Kernel false) Blocked) ∷
    event 0 None 0 Rest ∷
    []
