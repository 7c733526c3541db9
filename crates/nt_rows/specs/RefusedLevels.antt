-- The worked row refused-levels.
use Rattle.std.specs.Prelude.{List, None, Some, [], ◌∷◌}
use Rattle.nt_event.specs.declared.commands.Command.TheVariants.{Lower, Raise}
use Rattle.nt_event.specs.declared.commands.Refusal.TheVariants.{NotGreater, NotLess}
use Rattle.nt_event.specs.declared.commands.Reply.TheVariants.{Done, Refused}
use Rattle.nt_event.specs.declared.events.Event.{Event}
use Rattle.nt_event.specs.declared.events.What.TheVariants.{Call, End, Gone, Rest, Switch}
use Rattle.nt_event.specs.declared.numbers.RoutineNo.{RoutineNo}
use Rattle.nt_event.specs.declared.numbers.ThreadNo.{ThreadNo}
use Rattle.nt_event.specs.declared.scripts.Script.{Script}
use Rattle.nt_event.specs.Numbers.{routine, thread}
use Rattle.nt_rows.specs.Plain.{plain}
use Rattle.nt_rows.specs.Rows.{event, runs, thread_on}

abbrev pub main : ThreadNo
main = thread 0

abbrev pub body : RoutineNo
body = routine 0

abbrev pub q : RoutineNo
q = routine 1

-- the script
abbrev pub script : Script
script =
    record plain {
      threads = thread_on 0 body ∷ [];
      routines =
          runs (Raise 2 ∷ Raise 1 ∷ Lower 3 ∷ []) ∷
          runs [] ∷
          [];
    }

-- its robin run, the oldest event first
abbrev pub history : List Event
history =
    event 0 (Some main) 0 (Switch main None) ∷
    event 0 (Some main) 2 (Call 0 (Raise 2) Done) ∷
    event 0 (Some main) 2 (Call 0 (Raise 1) (Refused NotGreater)) ∷
    event 0 (Some main) 2 (Call 0 (Lower 3) (Refused NotLess)) ∷
    event 0 (Some main) 0 (End 0) ∷
    event 0 (Some main) 0 (Gone main) ∷
    event 0 None 0 Rest ∷
    []
