-- The worked row refusals-of-a-dpc: what a DPC may not call, at its level and raised above it.
use Rattle.std.specs.Prelude.{List, None, Some, [], false, ◌∷◌}
use Rattle.nt_event.specs.declared.commands.Command.TheVariants as cmd
use Rattle.nt_event.specs.declared.commands.Mode.TheVariants.{Kernel}
use Rattle.nt_event.specs.declared.commands.Refusal.TheVariants.{NotThread, TooHigh}
use Rattle.nt_event.specs.declared.commands.Reply.TheVariants.{Done, No, Refused, Yes}
use Rattle.nt_event.specs.declared.events.Begun.TheVariants.{Dpc, Int}
use Rattle.nt_event.specs.declared.events.Event.{Event}
use Rattle.nt_event.specs.declared.events.What.TheVariants.{Begin, Call, Clean, End, Gone, Rest, Switch}
use Rattle.nt_event.specs.declared.numbers.ApcNo.{ApcNo}
use Rattle.nt_event.specs.declared.numbers.DpcNo.{DpcNo}
use Rattle.nt_event.specs.declared.numbers.RoutineNo.{RoutineNo}
use Rattle.nt_event.specs.declared.numbers.ThreadNo.{ThreadNo}
use Rattle.nt_event.specs.declared.numbers.TimerNo.{TimerNo}
use Rattle.nt_event.specs.declared.scripts.Script.{Script}
use Rattle.nt_event.specs.Numbers.{apc, cpu, dpc, routine, thread, timer}
use Rattle.nt_rows.specs.Plain.{plain}
use Rattle.nt_rows.specs.Rows.{event, runs, special_apc, thread_on}

abbrev pub d : DpcNo
d = dpc 0

abbrev pub t : TimerNo
t = timer 0

abbrev pub main : ThreadNo
main = thread 0

abbrev pub s : ApcNo
s = apc 0

abbrev pub rd : RoutineNo
rd = routine 0

abbrev pub body : RoutineNo
body = routine 1

abbrev pub sk : RoutineNo
sk = routine 2

-- the script
abbrev pub script : Script
script =
    record plain {
      dpcs = record { threaded = false; routine = rd } ∷ [];
      timers = record { dpc = None } ∷ [];
      threads = thread_on 0 body ∷ [];
      apcs = special_apc main sk ∷ [];
      routines =
          runs (cmd.EnterCrit ∷ cmd.EnterGuard ∷ cmd.LeaveCrit ∷ cmd.LeaveGuard ∷ cmd.StartWait Kernel false ∷
          cmd.Delay Kernel false 0 ∷ cmd.ToUser ∷ cmd.Yield ∷ cmd.TestAlert Kernel ∷ cmd.SetTimer t 5 0 ∷
          cmd.CancelTimer t ∷ cmd.InsertApc s ∷ cmd.RemoveApc s ∷ cmd.Release main ∷ cmd.Alert main Kernel ∷
          cmd.Raise 3 ∷ cmd.SetTimer t 5 0 ∷ cmd.CancelTimer t ∷ cmd.InsertApc s ∷ cmd.RemoveApc s ∷
          cmd.Release main ∷ cmd.Alert main Kernel ∷ cmd.EnterCrit ∷ cmd.Queue d ∷ cmd.Unqueue d ∷
          cmd.Interrupt (cpu 0) 5 ∷ cmd.Clock 1 ∷ cmd.Note 1 ∷ []) ∷
          runs (cmd.Queue d ∷ cmd.TestAlert Kernel ∷ []) ∷
          runs [] ∷
          [];
    }

-- its robin run, the oldest event first
abbrev pub history : List Event
history =
    event 0 (Some main) 0 (Switch main None) ∷
    event 0 (Some main) 0 (Call 0 (cmd.Queue d) Yes) ∷
    event 0 (Some main) 2 (Begin (Dpc d) 1) ∷
    event 0 (Some main) 2 (Call 2 cmd.EnterCrit (Refused NotThread)) ∷
    event 0 (Some main) 2 (Call 2 cmd.EnterGuard (Refused NotThread)) ∷
    event 0 (Some main) 2 (Call 2 cmd.LeaveCrit (Refused NotThread)) ∷
    event 0 (Some main) 2 (Call 2 cmd.LeaveGuard (Refused NotThread)) ∷
    event 0 (Some main) 2 (Call 2 (cmd.StartWait Kernel false) (Refused NotThread)) ∷
    event 0 (Some main) 2 (Call 2 (cmd.Delay Kernel false 0) (Refused NotThread)) ∷
    event 0 (Some main) 2 (Call 2 cmd.ToUser (Refused NotThread)) ∷
    event 0 (Some main) 2 (Call 2 cmd.Yield (Refused NotThread)) ∷
    event 0 (Some main) 2 (Call 2 (cmd.TestAlert Kernel) (Refused NotThread)) ∷
    event 0 (Some main) 2 (Call 2 (cmd.SetTimer t 5 0) No) ∷
    event 0 (Some main) 2 (Call 2 (cmd.CancelTimer t) Yes) ∷
    event 0 (Some main) 2 (Call 2 (cmd.InsertApc s) Yes) ∷
    event 0 (Some main) 2 (Call 2 (cmd.RemoveApc s) Yes) ∷
    event 0 (Some main) 2 (Call 2 (cmd.Release main) No) ∷
    event 0 (Some main) 2 (Call 2 (cmd.Alert main Kernel) No) ∷
    event 0 (Some main) 3 (Call 2 (cmd.Raise 3) Done) ∷
    event 0 (Some main) 3 (Call 2 (cmd.SetTimer t 5 0) (Refused TooHigh)) ∷
    event 0 (Some main) 3 (Call 2 (cmd.CancelTimer t) (Refused TooHigh)) ∷
    event 0 (Some main) 3 (Call 2 (cmd.InsertApc s) (Refused TooHigh)) ∷
    event 0 (Some main) 3 (Call 2 (cmd.RemoveApc s) (Refused TooHigh)) ∷
    event 0 (Some main) 3 (Call 2 (cmd.Release main) (Refused TooHigh)) ∷
    event 0 (Some main) 3 (Call 2 (cmd.Alert main Kernel) (Refused TooHigh)) ∷
    event 0 (Some main) 3 (Call 2 cmd.EnterCrit (Refused NotThread)) ∷
    event 0 (Some main) 3 (Call 2 (cmd.Queue d) Yes) ∷
    event 0 (Some main) 3 (Call 2 (cmd.Unqueue d) Yes) ∷
    event 0 (Some main) 3 (Call 2 (cmd.Interrupt (cpu 0) 5) Done) ∷
    event 0 (Some main) 5 (Begin (Int 5) 28) ∷
    event 0 (Some main) 3 (End 29) ∷
    event 0 (Some main) 3 (Call 2 (cmd.Clock 1) Done) ∷
    event 0 (Some main) 13 (Begin (Int 13) 31) ∷
    event 0 (Some main) 3 (End 32) ∷
    event 0 (Some main) 3 (Call 2 (cmd.Note 1) Done) ∷
    event 0 (Some main) 0 (End 2) ∷
    event 0 (Some main) 0 (Clean 2) ∷
    event 0 (Some main) 0 (Clean 1) ∷
    event 0 (Some main) 0 (Call 0 (cmd.TestAlert Kernel) Yes) ∷
    event 0 (Some main) 0 (End 0) ∷
    event 0 (Some main) 0 (Gone main) ∷
    event 0 None 0 Rest ∷
    []
