-- The worked row held-levels: a raise and a lower to the level that holds, regions at level 2, and two interrupts at
-- once.
use Rattle.std.specs.Prelude.{List, None, Some, [], ◌∷◌}
use Rattle.nt_event.specs.declared.commands.Command.TheVariants as cmd
use Rattle.nt_event.specs.declared.commands.Refusal.TheVariants.{TooHigh}
use Rattle.nt_event.specs.declared.commands.Reply.TheVariants.{Done, Refused}
use Rattle.nt_event.specs.declared.events.Begun.TheVariants.{Int}
use Rattle.nt_event.specs.declared.events.Event.{Event}
use Rattle.nt_event.specs.declared.events.What.TheVariants.{Begin, Call, End, Gone, Rest, Switch}
use Rattle.nt_event.specs.declared.numbers.RoutineNo.{RoutineNo}
use Rattle.nt_event.specs.declared.numbers.ThreadNo.{ThreadNo}
use Rattle.nt_event.specs.declared.scripts.Script.{Script}
use Rattle.nt_event.specs.Numbers.{cpu, routine, thread}
use Rattle.nt_rows.specs.Plain.{plain}
use Rattle.nt_rows.specs.Rows.{event, runs, thread_on}

abbrev pub main : ThreadNo
main = thread 0

abbrev pub body : RoutineNo
body = routine 0

-- the script
abbrev pub script : Script
script =
    record plain {
      threads = thread_on 0 body ∷ [];
      routines =
          runs (cmd.Raise 2 ∷ cmd.Raise 2 ∷ cmd.EnterGuard ∷ cmd.LeaveGuard ∷ cmd.Lower 2 ∷ cmd.Raise 15 ∷
          cmd.Interrupt (cpu 0) 3 ∷ cmd.Interrupt (cpu 0) 5 ∷ cmd.Lower 0 ∷ []) ∷
          [];
    }

-- its robin run, the oldest event first
abbrev pub history : List Event
history =
    event 0 (Some main) 0 (Switch main None) ∷
    event 0 (Some main) 2 (Call 0 (cmd.Raise 2) Done) ∷
    event 0 (Some main) 2 (Call 0 (cmd.Raise 2) Done) ∷
    event 0 (Some main) 2 (Call 0 cmd.EnterGuard (Refused TooHigh)) ∷
    event 0 (Some main) 2 (Call 0 cmd.LeaveGuard (Refused TooHigh)) ∷
    event 0 (Some main) 2 (Call 0 (cmd.Lower 2) Done) ∷
    event 0 (Some main) 15 (Call 0 (cmd.Raise 15) Done) ∷
    event 0 (Some main) 15 (Call 0 (cmd.Interrupt (cpu 0) 3) Done) ∷
    event 0 (Some main) 15 (Call 0 (cmd.Interrupt (cpu 0) 5) Done) ∷
    event 0 (Some main) 0 (Call 0 (cmd.Lower 0) Done) ∷
    event 0 (Some main) 5 (Begin (Int 5) 8) ∷
    event 0 (Some main) 0 (End 10) ∷
    event 0 (Some main) 3 (Begin (Int 3) 7) ∷
    event 0 (Some main) 0 (End 12) ∷
    event 0 (Some main) 0 (End 0) ∷
    event 0 (Some main) 0 (Gone main) ∷
    event 0 None 0 Rest ∷
    []
