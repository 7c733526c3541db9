-- The worked row regions-given-up: an inner region asks for nothing, and a kernel routine gives up the region that it
-- entered.
use Rattle.std.specs.Prelude.{List, None, Some, [], ◌∷◌}
use Rattle.nt_event.specs.declared.commands.Command.TheVariants as cmd
use Rattle.nt_event.specs.declared.commands.Refusal.TheVariants.{NotEntered}
use Rattle.nt_event.specs.declared.commands.Reply.TheVariants.{Done, Refused, Yes}
use Rattle.nt_event.specs.declared.events.Begun.TheVariants.{Apc}
use Rattle.nt_event.specs.declared.events.Event.{Event}
use Rattle.nt_event.specs.declared.events.What.TheVariants.{Begin, Call, Clean, End, Gone, Normal, Rest, Switch}
use Rattle.nt_event.specs.declared.numbers.ApcNo.{ApcNo}
use Rattle.nt_event.specs.declared.numbers.RoutineNo.{RoutineNo}
use Rattle.nt_event.specs.declared.numbers.ThreadNo.{ThreadNo}
use Rattle.nt_event.specs.declared.scripts.Script.{Script}
use Rattle.nt_event.specs.Numbers.{apc, routine, thread}
use Rattle.nt_rows.specs.Plain.{plain}
use Rattle.nt_rows.specs.Rows.{event, normal_apc, runs, special_apc, thread_on}

abbrev pub main : ThreadNo
main = thread 0

abbrev pub n : ApcNo
n = apc 0

abbrev pub s : ApcNo
s = apc 1

abbrev pub nk : RoutineNo
nk = routine 0

abbrev pub nn : RoutineNo
nn = routine 1

abbrev pub body : RoutineNo
body = routine 2

abbrev pub sk : RoutineNo
sk = routine 3

-- the script
abbrev pub script : Script
script =
    record plain {
      threads = thread_on 0 body ∷ [];
      apcs = normal_apc main nk nn ∷ special_apc main sk ∷ [];
      routines =
          runs (cmd.EnterCrit ∷ []) ∷
          runs (cmd.LeaveCrit ∷ []) ∷
          runs (cmd.EnterCrit ∷ cmd.EnterCrit ∷ cmd.LeaveCrit ∷ cmd.LeaveCrit ∷ cmd.InsertApc n ∷ cmd.Raise 1 ∷
          cmd.InsertApc s ∷ []) ∷
          runs [] ∷
          [];
    }

-- its robin run, the oldest event first
abbrev pub history : List Event
history =
    event 0 (Some main) 0 (Switch main None) ∷
    event 0 (Some main) 0 (Call 0 cmd.EnterCrit Done) ∷
    event 0 (Some main) 0 (Call 0 cmd.EnterCrit Done) ∷
    event 0 (Some main) 0 (Call 0 cmd.LeaveCrit Done) ∷
    event 0 (Some main) 0 (Call 0 cmd.LeaveCrit Done) ∷
    event 0 (Some main) 0 (Clean 1) ∷
    event 0 (Some main) 0 (Call 0 (cmd.InsertApc n) Yes) ∷
    event 0 (Some main) 1 (Begin (Apc n) 6) ∷
    event 0 (Some main) 1 (Call 7 cmd.EnterCrit Done) ∷
    event 0 (Some main) 0 (Normal 7) ∷
    event 0 (Some main) 0 (Clean 1) ∷
    event 0 (Some main) 0 (Call 7 cmd.LeaveCrit (Refused NotEntered)) ∷
    event 0 (Some main) 0 (End 7) ∷
    event 0 (Some main) 0 (Clean 1) ∷
    event 0 (Some main) 1 (Call 0 (cmd.Raise 1) Done) ∷
    event 0 (Some main) 1 (Call 0 (cmd.InsertApc s) Yes) ∷
    event 0 (Some main) 0 (End 0) ∷
    event 0 (Some main) 1 (Begin (Apc s) 15) ∷
    event 0 (Some main) 0 (End 17) ∷
    event 0 (Some main) 0 (Clean 1) ∷
    event 0 (Some main) 0 (Gone main) ∷
    event 0 None 0 Rest ∷
    []
