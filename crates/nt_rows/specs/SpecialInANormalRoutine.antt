-- The worked row special-in-a-normal-routine: a special kernel APC passes a normal one that waits for a normal
-- routine.
use Rattle.std.specs.Prelude.{List, None, Some, [], ◌∷◌}
use Rattle.nt_event.specs.declared.commands.Command.TheVariants as cmd
use Rattle.nt_event.specs.declared.commands.Reply.TheVariants.{Done, Yes}
use Rattle.nt_event.specs.declared.events.Begun.TheVariants.{Apc}
use Rattle.nt_event.specs.declared.events.Event.{Event}
use Rattle.nt_event.specs.declared.events.What.TheVariants.{Begin, Call, Clean, End, Gone, Normal, Rest, Switch}
use Rattle.nt_event.specs.declared.numbers.ApcNo.{ApcNo}
use Rattle.nt_event.specs.declared.numbers.RoutineNo.{RoutineNo}
use Rattle.nt_event.specs.declared.numbers.ThreadNo.{ThreadNo}
use Rattle.nt_event.specs.declared.scripts.Script.{Script}
use Rattle.nt_event.specs.Numbers.{apc, routine, thread}
use Rattle.nt_rows.specs.Plain.{plain}
use Rattle.nt_rows.specs.Rows.{event, normal_apc, runs, special_apc, thread_on}

abbrev pub a : ThreadNo
a = thread 0

abbrev pub s : ApcNo
s = apc 0

abbrev pub n : ApcNo
n = apc 1

abbrev pub n2 : ApcNo
n2 = apc 2

abbrev pub ra : RoutineNo
ra = routine 0

abbrev pub m : RoutineNo
m = routine 1

abbrev pub k : RoutineNo
k = routine 2

abbrev pub q : RoutineNo
q = routine 3

-- the script
abbrev pub script : Script
script =
    record plain {
      threads = thread_on 0 ra ∷ [];
      apcs = special_apc a k ∷ normal_apc a q m ∷ normal_apc a q q ∷ [];
      routines =
          runs (cmd.InsertApc n ∷ []) ∷
          runs (cmd.InsertApc n2 ∷ cmd.InsertApc s ∷ cmd.Note 1 ∷ []) ∷
          runs (cmd.Note 2 ∷ []) ∷
          runs [] ∷
          [];
    }

-- its robin run, the oldest event first
abbrev pub history : List Event
history =
    event 0 (Some a) 0 (Switch a None) ∷
    event 0 (Some a) 0 (Call 0 (cmd.InsertApc n) Yes) ∷
    event 0 (Some a) 1 (Begin (Apc n) 1) ∷
    event 0 (Some a) 0 (Normal 2) ∷
    event 0 (Some a) 0 (Clean 1) ∷
    event 0 (Some a) 0 (Call 2 (cmd.InsertApc n2) Yes) ∷
    event 0 (Some a) 0 (Clean 1) ∷
    event 0 (Some a) 0 (Call 2 (cmd.InsertApc s) Yes) ∷
    event 0 (Some a) 1 (Begin (Apc s) 7) ∷
    event 0 (Some a) 1 (Call 8 (cmd.Note 2) Done) ∷
    event 0 (Some a) 0 (End 8) ∷
    event 0 (Some a) 0 (Clean 1) ∷
    event 0 (Some a) 0 (Call 2 (cmd.Note 1) Done) ∷
    event 0 (Some a) 0 (End 2) ∷
    event 0 (Some a) 1 (Begin (Apc n2) 5) ∷
    event 0 (Some a) 0 (Normal 14) ∷
    event 0 (Some a) 0 (Clean 1) ∷
    event 0 (Some a) 0 (End 14) ∷
    event 0 (Some a) 0 (Clean 1) ∷
    event 0 (Some a) 0 (End 0) ∷
    event 0 (Some a) 0 (Gone a) ∷
    event 0 None 0 Rest ∷
    []
