-- The worked row region-left-by-a-kernel-routine: kernel routines that leave one region, and give up another at their
-- end.
use Rattle.std.specs.Prelude.{List, None, Some, [], ◌∷◌}
use Rattle.nt_event.specs.declared.commands.Command.TheVariants as cmd
use Rattle.nt_event.specs.declared.commands.Reply.TheVariants.{Done, Yes}
use Rattle.nt_event.specs.declared.events.Begun.TheVariants.{Apc}
use Rattle.nt_event.specs.declared.events.Event.{Event}
use Rattle.nt_event.specs.declared.events.What.TheVariants.{Begin, Call, Clean, End, Gone, Normal, Rest, Switch}
use Rattle.nt_event.specs.declared.numbers.ApcNo.{ApcNo}
use Rattle.nt_event.specs.declared.numbers.RoutineNo.{RoutineNo}
use Rattle.nt_event.specs.declared.numbers.ThreadNo.{ThreadNo}
use Rattle.nt_event.specs.declared.scripts.Script.{Script}
use Rattle.nt_event.specs.Numbers.{apc, routine, thread}
use Rattle.nt_rows.specs.Plain.{plain}
use Rattle.nt_rows.specs.Rows.{event, normal_apc, runs, special_apc, thread_on}

abbrev pub a : ThreadNo
a = thread 0

abbrev pub s : ApcNo
s = apc 0

abbrev pub s2 : ApcNo
s2 = apc 1

abbrev pub n : ApcNo
n = apc 2

abbrev pub ra : RoutineNo
ra = routine 0

abbrev pub k : RoutineNo
k = routine 1

abbrev pub m : RoutineNo
m = routine 2

abbrev pub q : RoutineNo
q = routine 3

-- the script
abbrev pub script : Script
script =
    record plain {
      threads = thread_on 0 ra ∷ [];
      apcs = special_apc a k ∷ special_apc a q ∷ normal_apc a k m ∷ [];
      routines =
          runs (cmd.InsertApc n ∷ cmd.InsertApc s ∷ []) ∷
          runs (cmd.EnterGuard ∷ cmd.EnterCrit ∷ cmd.InsertApc s2 ∷ cmd.LeaveCrit ∷ []) ∷
          runs (cmd.Note 1 ∷ cmd.EnterCrit ∷ cmd.InsertApc s ∷ []) ∷
          runs [] ∷
          [];
    }

-- its robin run, the oldest event first
abbrev pub history : List Event
history =
    event 0 (Some a) 0 (Switch a None) ∷
    event 0 (Some a) 0 (Call 0 (cmd.InsertApc n) Yes) ∷
    event 0 (Some a) 1 (Begin (Apc n) 1) ∷
    event 0 (Some a) 1 (Call 2 cmd.EnterGuard Done) ∷
    event 0 (Some a) 1 (Call 2 cmd.EnterCrit Done) ∷
    event 0 (Some a) 1 (Call 2 (cmd.InsertApc s2) Yes) ∷
    event 0 (Some a) 1 (Call 2 cmd.LeaveCrit Done) ∷
    event 0 (Some a) 0 (Normal 2) ∷
    event 0 (Some a) 1 (Begin (Apc s2) 5) ∷
    event 0 (Some a) 0 (End 8) ∷
    event 0 (Some a) 0 (Clean 1) ∷
    event 0 (Some a) 0 (Call 2 (cmd.Note 1) Done) ∷
    event 0 (Some a) 0 (Call 2 cmd.EnterCrit Done) ∷
    event 0 (Some a) 0 (Call 2 (cmd.InsertApc s) Yes) ∷
    event 0 (Some a) 1 (Begin (Apc s) 13) ∷
    event 0 (Some a) 1 (Call 14 cmd.EnterGuard Done) ∷
    event 0 (Some a) 1 (Call 14 cmd.EnterCrit Done) ∷
    event 0 (Some a) 1 (Call 14 (cmd.InsertApc s2) Yes) ∷
    event 0 (Some a) 1 (Call 14 cmd.LeaveCrit Done) ∷
    event 0 (Some a) 0 (End 14) ∷
    event 0 (Some a) 1 (Begin (Apc s2) 17) ∷
    event 0 (Some a) 0 (End 20) ∷
    event 0 (Some a) 0 (Clean 1) ∷
    event 0 (Some a) 0 (End 2) ∷
    event 0 (Some a) 0 (Clean 1) ∷
    event 0 (Some a) 0 (Call 0 (cmd.InsertApc s) Yes) ∷
    event 0 (Some a) 1 (Begin (Apc s) 25) ∷
    event 0 (Some a) 1 (Call 26 cmd.EnterGuard Done) ∷
    event 0 (Some a) 1 (Call 26 cmd.EnterCrit Done) ∷
    event 0 (Some a) 1 (Call 26 (cmd.InsertApc s2) Yes) ∷
    event 0 (Some a) 1 (Call 26 cmd.LeaveCrit Done) ∷
    event 0 (Some a) 0 (End 26) ∷
    event 0 (Some a) 1 (Begin (Apc s2) 29) ∷
    event 0 (Some a) 0 (End 32) ∷
    event 0 (Some a) 0 (Clean 1) ∷
    event 0 (Some a) 0 (End 0) ∷
    event 0 (Some a) 0 (Gone a) ∷
    event 0 None 0 Rest ∷
    []
