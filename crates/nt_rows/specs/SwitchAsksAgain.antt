-- The worked row switch-asks-again: a kernel APC for a thread that doesn't run, whose request was served meanwhile,
-- is delivered
-- once the thread is taken up.
use Rattle.std.specs.Prelude.{List, None, Some, [], ◌∷◌}
use Rattle.nt_event.specs.declared.commands.Command.TheVariants.{InsertApc, Note}
use Rattle.nt_event.specs.declared.commands.Reply.TheVariants.{Done, Yes}
use Rattle.nt_event.specs.declared.events.Begun.TheVariants.{Apc}
use Rattle.nt_event.specs.declared.events.Event.{Event}
use Rattle.nt_event.specs.declared.events.What.TheVariants.{Begin, Call, Clean, End, Gone, Rest, Switch}
use Rattle.nt_event.specs.declared.numbers.ApcNo.{ApcNo}
use Rattle.nt_event.specs.declared.numbers.RoutineNo.{RoutineNo}
use Rattle.nt_event.specs.declared.numbers.ThreadNo.{ThreadNo}
use Rattle.nt_event.specs.declared.scripts.Script.{Script}
use Rattle.nt_event.specs.Numbers.{apc, routine, thread}
use Rattle.nt_rows.specs.Plain.{plain}
use Rattle.nt_rows.specs.Rows.{event, runs, special_apc, thread_on}

abbrev pub a : ThreadNo
a = thread 0

abbrev pub b : ThreadNo
b = thread 1

abbrev pub n : ApcNo
n = apc 0

abbrev pub ra : RoutineNo
ra = routine 0

abbrev pub rb : RoutineNo
rb = routine 1

abbrev pub q : RoutineNo
q = routine 2

-- the script
abbrev pub script : Script
script =
    record plain {
      threads = thread_on 0 ra ∷ thread_on 0 rb ∷ [];
      apcs = special_apc b q ∷ [];
      routines =
          runs (InsertApc n ∷ []) ∷
          runs (Note 1 ∷ []) ∷
          runs [] ∷
          [];
    }

-- its robin run, the oldest event first
abbrev pub history : List Event
history =
    event 0 (Some a) 0 (Switch a None) ∷
    event 0 (Some a) 0 (Call 0 (InsertApc n) Yes) ∷
    event 0 (Some a) 0 (Clean 1) ∷
    event 0 (Some a) 0 (End 0) ∷
    event 0 (Some a) 0 (Gone a) ∷
    event 0 (Some b) 0 (Switch b None) ∷
    event 0 (Some b) 1 (Begin (Apc n) 1) ∷
    event 0 (Some b) 0 (End 6) ∷
    event 0 (Some b) 0 (Clean 1) ∷
    event 0 (Some b) 0 (Call 5 (Note 1) Done) ∷
    event 0 (Some b) 0 (End 5) ∷
    event 0 (Some b) 0 (Gone b) ∷
    event 0 None 0 Rest ∷
    []
