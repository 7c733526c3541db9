-- The worked row regions.
use Rattle.std.specs.Prelude.{List, None, Some, [], ◌∷◌}
use Rattle.nt_event.specs.declared.commands.Command.TheVariants as cmd
use Rattle.nt_event.specs.declared.commands.Reply.TheVariants.{Done, Yes}
use Rattle.nt_event.specs.declared.events.Begun.TheVariants.{Apc}
use Rattle.nt_event.specs.declared.events.Event.{Event}
use Rattle.nt_event.specs.declared.events.What.TheVariants.{Begin, Call, Clean, End, Gone, Normal, Rest, Switch}
use Rattle.nt_event.specs.declared.numbers.ApcNo.{ApcNo}
use Rattle.nt_event.specs.declared.numbers.RoutineNo.{RoutineNo}
use Rattle.nt_event.specs.declared.numbers.ThreadNo.{ThreadNo}
use Rattle.nt_event.specs.declared.scripts.Script.{Script}
use Rattle.nt_event.specs.Numbers.{apc, routine, thread}
use Rattle.nt_rows.specs.Plain.{plain}
use Rattle.nt_rows.specs.Rows.{event, normal_apc, runs, special_apc, thread_on}

abbrev pub main : ThreadNo
main = thread 0

abbrev pub n : ApcNo
n = apc 0

abbrev pub s : ApcNo
s = apc 1

abbrev pub body : RoutineNo
body = routine 0

abbrev pub q : RoutineNo
q = routine 1

-- the script
abbrev pub script : Script
script =
    record plain {
      threads = thread_on 0 body ∷ [];
      apcs = normal_apc main q q ∷ special_apc main q ∷ [];
      routines =
          runs (cmd.EnterCrit ∷ cmd.InsertApc n ∷ cmd.InsertApc s ∷ cmd.LeaveCrit ∷ cmd.EnterGuard ∷
          cmd.InsertApc s ∷ cmd.InsertApc n ∷ cmd.LeaveGuard ∷ []) ∷
          runs [] ∷
          [];
    }

-- its robin run, the oldest event first
abbrev pub history : List Event
history =
    event 0 (Some main) 0 (Switch main None) ∷
    event 0 (Some main) 0 (Call 0 cmd.EnterCrit Done) ∷
    event 0 (Some main) 0 (Call 0 (cmd.InsertApc n) Yes) ∷
    event 0 (Some main) 0 (Clean 1) ∷
    event 0 (Some main) 0 (Call 0 (cmd.InsertApc s) Yes) ∷
    event 0 (Some main) 1 (Begin (Apc s) 4) ∷
    event 0 (Some main) 0 (End 5) ∷
    event 0 (Some main) 0 (Clean 1) ∷
    event 0 (Some main) 0 (Call 0 cmd.LeaveCrit Done) ∷
    event 0 (Some main) 1 (Begin (Apc n) 2) ∷
    event 0 (Some main) 0 (Normal 9) ∷
    event 0 (Some main) 0 (Clean 1) ∷
    event 0 (Some main) 0 (End 9) ∷
    event 0 (Some main) 0 (Clean 1) ∷
    event 0 (Some main) 0 (Call 0 cmd.EnterGuard Done) ∷
    event 0 (Some main) 0 (Call 0 (cmd.InsertApc s) Yes) ∷
    event 0 (Some main) 0 (Clean 1) ∷
    event 0 (Some main) 0 (Call 0 (cmd.InsertApc n) Yes) ∷
    event 0 (Some main) 0 (Clean 1) ∷
    event 0 (Some main) 0 (Call 0 cmd.LeaveGuard Done) ∷
    event 0 (Some main) 1 (Begin (Apc s) 15) ∷
    event 0 (Some main) 0 (End 20) ∷
    event 0 (Some main) 1 (Begin (Apc n) 17) ∷
    event 0 (Some main) 0 (Normal 22) ∷
    event 0 (Some main) 0 (Clean 1) ∷
    event 0 (Some main) 0 (End 22) ∷
    event 0 (Some main) 0 (Clean 1) ∷
    event 0 (Some main) 0 (End 0) ∷
    event 0 (Some main) 0 (Gone main) ∷
    event 0 None 0 Rest ∷
    []
