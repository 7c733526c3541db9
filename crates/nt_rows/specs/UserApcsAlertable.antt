-- The worked row user-apcs-alertable.
use Rattle.std.specs.Prelude.{List, None, Some, [], true, ◌∷◌}
use Rattle.nt_event.specs.declared.commands.Command.TheVariants.{InsertApc, StartWait, ToUser}
use Rattle.nt_event.specs.declared.commands.Mode.TheVariants.{User}
use Rattle.nt_event.specs.declared.commands.Reply.TheVariants.{Done, Status, Yes}
use Rattle.nt_event.specs.declared.events.Begun.TheVariants.{Apc}
use Rattle.nt_event.specs.declared.events.Event.{Event}
use Rattle.nt_event.specs.declared.events.What.TheVariants.{Begin, Call, End, Gone, Normal, Rest, Switch}
use Rattle.nt_event.specs.declared.numbers.ApcNo.{ApcNo}
use Rattle.nt_event.specs.declared.numbers.RoutineNo.{RoutineNo}
use Rattle.nt_event.specs.declared.numbers.ThreadNo.{ThreadNo}
use Rattle.nt_event.specs.declared.scripts.Script.{Script}
use Rattle.nt_event.specs.Numbers.{apc, routine, thread}
use Rattle.nt_rows.specs.Plain.{plain}
use Rattle.nt_rows.specs.Rows.{event, runs, thread_on, user_apc}

abbrev pub main : ThreadNo
main = thread 0

abbrev pub u1 : ApcNo
u1 = apc 0

abbrev pub u2 : ApcNo
u2 = apc 1

abbrev pub body : RoutineNo
body = routine 0

abbrev pub q : RoutineNo
q = routine 1

-- the script
abbrev pub script : Script
script =
    record plain {
      threads = thread_on 0 body ∷ [];
      apcs = user_apc main q q None ∷ user_apc main q q None ∷ [];
      routines =
          runs (InsertApc u1 ∷ InsertApc u2 ∷ StartWait User true ∷ ToUser ∷ []) ∷
          runs [] ∷
          [];
    }

-- its robin run, the oldest event first
abbrev pub history : List Event
history =
    event 0 (Some main) 0 (Switch main None) ∷
    event 0 (Some main) 0 (Call 0 (InsertApc u1) Yes) ∷
    event 0 (Some main) 0 (Call 0 (InsertApc u2) Yes) ∷
    event 0 (Some main) 0 (Call 0 (StartWait User true) (Status 192)) ∷
    event 0 (Some main) 1 (Begin (Apc u1) 1) ∷
    event 0 (Some main) 0 (Normal 4) ∷
    event 0 (Some main) 0 (End 4) ∷
    event 0 (Some main) 1 (Begin (Apc u2) 2) ∷
    event 0 (Some main) 0 (Normal 7) ∷
    event 0 (Some main) 0 (End 7) ∷
    event 0 (Some main) 0 (Call 0 ToUser Done) ∷
    event 0 (Some main) 0 (End 0) ∷
    event 0 (Some main) 0 (Gone main) ∷
    event 0 None 0 Rest ∷
    []
