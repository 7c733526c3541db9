-- The worked row apcs-in-a-normal-routine: a normal routine inserts a special and a normal kernel APC.
use Rattle.std.specs.Prelude.{List, None, Some, [], ◌∷◌}
use Rattle.nt_event.specs.declared.commands.Command.TheVariants as cmd
use Rattle.nt_event.specs.declared.commands.Reply.TheVariants.{Done, Yes}
use Rattle.nt_event.specs.declared.events.Begun.TheVariants.{Apc}
use Rattle.nt_event.specs.declared.events.Event.{Event}
use Rattle.nt_event.specs.declared.events.What.TheVariants.{Begin, Call, Clean, End, Gone, Normal, Rest, Switch}
use Rattle.nt_event.specs.declared.numbers.ApcNo.{ApcNo}
use Rattle.nt_event.specs.declared.numbers.RoutineNo.{RoutineNo}
use Rattle.nt_event.specs.declared.numbers.ThreadNo.{ThreadNo}
use Rattle.nt_event.specs.declared.scripts.Script.{Script}
use Rattle.nt_event.specs.Numbers.{apc, routine, thread}
use Rattle.nt_rows.specs.Plain.{plain}
use Rattle.nt_rows.specs.Rows.{event, normal_apc, runs, special_apc, thread_on}

abbrev pub main : ThreadNo
main = thread 0

abbrev pub s : ApcNo
s = apc 0

abbrev pub n : ApcNo
n = apc 1

abbrev pub o : ApcNo
o = apc 2

abbrev pub body : RoutineNo
body = routine 0

abbrev pub k : RoutineNo
k = routine 1

abbrev pub m : RoutineNo
m = routine 2

abbrev pub x : RoutineNo
x = routine 3

-- the script
abbrev pub script : Script
script =
    record plain {
      threads = thread_on 0 body ∷ [];
      apcs = special_apc main k ∷ normal_apc main k m ∷ normal_apc main k x ∷ [];
      routines =
          runs (cmd.InsertApc n ∷ []) ∷
          runs [] ∷
          runs (cmd.InsertApc s ∷ cmd.InsertApc o ∷ cmd.Note 1 ∷ []) ∷
          runs (cmd.Note 2 ∷ []) ∷
          [];
    }

-- its robin run, the oldest event first
abbrev pub history : List Event
history =
    event 0 (Some main) 0 (Switch main None) ∷
    event 0 (Some main) 0 (Call 0 (cmd.InsertApc n) Yes) ∷
    event 0 (Some main) 1 (Begin (Apc n) 1) ∷
    event 0 (Some main) 0 (Normal 2) ∷
    event 0 (Some main) 0 (Clean 1) ∷
    event 0 (Some main) 0 (Call 2 (cmd.InsertApc s) Yes) ∷
    event 0 (Some main) 1 (Begin (Apc s) 5) ∷
    event 0 (Some main) 0 (End 6) ∷
    event 0 (Some main) 0 (Clean 1) ∷
    event 0 (Some main) 0 (Call 2 (cmd.InsertApc o) Yes) ∷
    event 0 (Some main) 0 (Clean 1) ∷
    event 0 (Some main) 0 (Call 2 (cmd.Note 1) Done) ∷
    event 0 (Some main) 0 (End 2) ∷
    event 0 (Some main) 1 (Begin (Apc o) 9) ∷
    event 0 (Some main) 0 (Normal 13) ∷
    event 0 (Some main) 0 (Clean 1) ∷
    event 0 (Some main) 0 (Call 13 (cmd.Note 2) Done) ∷
    event 0 (Some main) 0 (End 13) ∷
    event 0 (Some main) 0 (Clean 1) ∷
    event 0 (Some main) 0 (End 0) ∷
    event 0 (Some main) 0 (Gone main) ∷
    event 0 None 0 Rest ∷
    []
