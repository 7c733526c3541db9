-- The worked row normal-in-normal: a normal kernel APC waits for the one in progress.
use Rattle.std.specs.Prelude.{List, None, Some, [], ◌∷◌}
use Rattle.nt_event.specs.declared.commands.Command.TheVariants.{InsertApc}
use Rattle.nt_event.specs.declared.commands.Reply.TheVariants.{Yes}
use Rattle.nt_event.specs.declared.events.Begun.TheVariants.{Apc}
use Rattle.nt_event.specs.declared.events.Event.{Event}
use Rattle.nt_event.specs.declared.events.What.TheVariants.{Begin, Call, Clean, End, Gone, Normal, Rest, Switch}
use Rattle.nt_event.specs.declared.numbers.ApcNo.{ApcNo}
use Rattle.nt_event.specs.declared.numbers.RoutineNo.{RoutineNo}
use Rattle.nt_event.specs.declared.numbers.ThreadNo.{ThreadNo}
use Rattle.nt_event.specs.declared.scripts.Script.{Script}
use Rattle.nt_event.specs.Numbers.{apc, routine, thread}
use Rattle.nt_rows.specs.Plain.{plain}
use Rattle.nt_rows.specs.Rows.{event, normal_apc, runs, thread_on}

abbrev pub main : ThreadNo
main = thread 0

abbrev pub n : ApcNo
n = apc 0

abbrev pub m : ApcNo
m = apc 1

abbrev pub body : RoutineNo
body = routine 0

abbrev pub r : RoutineNo
r = routine 1

abbrev pub q : RoutineNo
q = routine 2

-- the script: n's normal routine inserts m
abbrev pub script : Script
script =
    record plain {
      threads = thread_on 0 body ∷ [];
      apcs = normal_apc main q r ∷ normal_apc main q q ∷ [];
      routines =
          runs (InsertApc n ∷ []) ∷
          runs (InsertApc m ∷ []) ∷
          runs [] ∷
          [];
    }

-- its robin run, the oldest event first
abbrev pub history : List Event
history =
    event 0 (Some main) 0 (Switch main None) ∷
    event 0 (Some main) 0 (Call 0 (InsertApc n) Yes) ∷
    event 0 (Some main) 1 (Begin (Apc n) 1) ∷
    event 0 (Some main) 0 (Normal 2) ∷
    event 0 (Some main) 0 (Clean 1) ∷
    event 0 (Some main) 0 (Call 2 (InsertApc m) Yes) ∷
    event 0 (Some main) 0 (Clean 1) ∷
    event 0 (Some main) 0 (End 2) ∷
    event 0 (Some main) 1 (Begin (Apc m) 5) ∷
    event 0 (Some main) 0 (Normal 8) ∷
    event 0 (Some main) 0 (Clean 1) ∷
    event 0 (Some main) 0 (End 8) ∷
    event 0 (Some main) 0 (Clean 1) ∷
    event 0 (Some main) 0 (End 0) ∷
    event 0 (Some main) 0 (Gone main) ∷
    event 0 None 0 Rest ∷
    []
