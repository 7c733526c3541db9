-- The worked row rundown.
use Rattle.std.specs.Prelude.{List, None, Some, [], ◌∷◌}
use Rattle.nt_event.specs.declared.commands.Command.TheVariants.{EnterGuard, InsertApc, Note}
use Rattle.nt_event.specs.declared.commands.Reply.TheVariants.{Done, No, Yes}
use Rattle.nt_event.specs.declared.events.Begun.TheVariants.{Apc}
use Rattle.nt_event.specs.declared.events.Event.{Event}
use Rattle.nt_event.specs.declared.events.What.TheVariants.{Begin, Call, Clean, End, Flush, Gone, Rest, Switch}
use Rattle.nt_event.specs.declared.numbers.ApcNo.{ApcNo}
use Rattle.nt_event.specs.declared.numbers.RoutineNo.{RoutineNo}
use Rattle.nt_event.specs.declared.numbers.ThreadNo.{ThreadNo}
use Rattle.nt_event.specs.declared.scripts.Script.{Script}
use Rattle.nt_event.specs.Numbers.{apc, routine, thread}
use Rattle.nt_rows.specs.Plain.{plain}
use Rattle.nt_rows.specs.Rows.{event, runs, special_apc, thread_on, user_apc}

abbrev pub main : ThreadNo
main = thread 0

abbrev pub s : ApcNo
s = apc 0

abbrev pub u1 : ApcNo
u1 = apc 1

abbrev pub u2 : ApcNo
u2 = apc 2

abbrev pub u3 : ApcNo
u3 = apc 3

abbrev pub body : RoutineNo
body = routine 0

abbrev pub k : RoutineNo
k = routine 1

abbrev pub r : RoutineNo
r = routine 2

abbrev pub q : RoutineNo
q = routine 3

-- the script
abbrev pub script : Script
script =
    record plain {
      threads = thread_on 0 body ∷ [];
      apcs = special_apc main k ∷ user_apc main q q (Some r) ∷ user_apc main q q None ∷ user_apc main q q None ∷ [];
      routines =
          runs (EnterGuard ∷ InsertApc s ∷ InsertApc u1 ∷ InsertApc u2 ∷ []) ∷
          runs (InsertApc u3 ∷ []) ∷
          runs (Note 5 ∷ []) ∷
          runs [] ∷
          [];
    }

-- its robin run, the oldest event first
abbrev pub history : List Event
history =
    event 0 (Some main) 0 (Switch main None) ∷
    event 0 (Some main) 0 (Call 0 EnterGuard Done) ∷
    event 0 (Some main) 0 (Call 0 (InsertApc s) Yes) ∷
    event 0 (Some main) 0 (Clean 1) ∷
    event 0 (Some main) 0 (Call 0 (InsertApc u1) Yes) ∷
    event 0 (Some main) 0 (Call 0 (InsertApc u2) Yes) ∷
    event 0 (Some main) 0 (End 0) ∷
    event 0 (Some main) 1 (Begin (Apc s) 2) ∷
    event 0 (Some main) 1 (Call 7 (InsertApc u3) No) ∷
    event 0 (Some main) 0 (End 7) ∷
    event 0 (Some main) 0 (Clean 1) ∷
    event 0 (Some main) 0 (Flush u1 4) ∷
    event 0 (Some main) 0 (Call 11 (Note 5) Done) ∷
    event 0 (Some main) 0 (End 11) ∷
    event 0 (Some main) 0 (Flush u2 5) ∷
    event 0 (Some main) 0 (Gone main) ∷
    event 0 None 0 Rest ∷
    []
