-- The worked row removed-apcs: removals of APCs of each kind.
use Rattle.std.specs.Prelude.{List, None, Some, [], ◌∷◌}
use Rattle.nt_event.specs.declared.commands.Command.TheVariants as cmd
use Rattle.nt_event.specs.declared.commands.Reply.TheVariants.{Done, No, Yes}
use Rattle.nt_event.specs.declared.events.Begun.TheVariants.{Apc}
use Rattle.nt_event.specs.declared.events.Event.{Event}
use Rattle.nt_event.specs.declared.events.What.TheVariants.{Begin, Call, Clean, End, Flush, Gone, Normal, Rest, Switch}
use Rattle.nt_event.specs.declared.numbers.ApcNo.{ApcNo}
use Rattle.nt_event.specs.declared.numbers.RoutineNo.{RoutineNo}
use Rattle.nt_event.specs.declared.numbers.ThreadNo.{ThreadNo}
use Rattle.nt_event.specs.declared.scripts.Script.{Script}
use Rattle.nt_event.specs.Numbers.{apc, routine, thread}
use Rattle.nt_rows.specs.Plain.{plain}
use Rattle.nt_rows.specs.Rows.{event, normal_apc, runs, special_apc, thread_on, user_apc}

abbrev pub a : ThreadNo
a = thread 0

abbrev pub s : ApcNo
s = apc 0

abbrev pub n : ApcNo
n = apc 1

abbrev pub u : ApcNo
u = apc 2

abbrev pub ra : RoutineNo
ra = routine 0

abbrev pub k : RoutineNo
k = routine 1

abbrev pub m : RoutineNo
m = routine 2

abbrev pub r : RoutineNo
r = routine 3

-- the script
abbrev pub script : Script
script =
    record plain {
      threads = thread_on 0 ra ∷ [];
      apcs = special_apc a k ∷ normal_apc a k m ∷ user_apc a k m (Some r) ∷ [];
      routines =
          runs (cmd.EnterGuard ∷ cmd.RemoveApc s ∷ cmd.InsertApc s ∷ cmd.InsertApc s ∷ cmd.InsertApc n ∷
          cmd.InsertApc u ∷ cmd.RemoveApc s ∷ cmd.RemoveApc s ∷ cmd.RemoveApc n ∷ cmd.InsertApc n ∷
          cmd.RemoveApc u ∷ cmd.InsertApc u ∷ cmd.LeaveGuard ∷ cmd.RemoveApc n ∷ cmd.RemoveApc u ∷
          cmd.InsertApc u ∷ []) ∷
          runs (cmd.Note 1 ∷ []) ∷
          runs (cmd.Note 2 ∷ []) ∷
          runs (cmd.Note 3 ∷ []) ∷
          [];
    }

-- its robin run, the oldest event first
abbrev pub history : List Event
history =
    event 0 (Some a) 0 (Switch a None) ∷
    event 0 (Some a) 0 (Call 0 cmd.EnterGuard Done) ∷
    event 0 (Some a) 0 (Call 0 (cmd.RemoveApc s) No) ∷
    event 0 (Some a) 0 (Call 0 (cmd.InsertApc s) Yes) ∷
    event 0 (Some a) 0 (Clean 1) ∷
    event 0 (Some a) 0 (Call 0 (cmd.InsertApc s) No) ∷
    event 0 (Some a) 0 (Call 0 (cmd.InsertApc n) Yes) ∷
    event 0 (Some a) 0 (Clean 1) ∷
    event 0 (Some a) 0 (Call 0 (cmd.InsertApc u) Yes) ∷
    event 0 (Some a) 0 (Call 0 (cmd.RemoveApc s) Yes) ∷
    event 0 (Some a) 0 (Call 0 (cmd.RemoveApc s) No) ∷
    event 0 (Some a) 0 (Call 0 (cmd.RemoveApc n) Yes) ∷
    event 0 (Some a) 0 (Call 0 (cmd.InsertApc n) Yes) ∷
    event 0 (Some a) 0 (Clean 1) ∷
    event 0 (Some a) 0 (Call 0 (cmd.RemoveApc u) Yes) ∷
    event 0 (Some a) 0 (Call 0 (cmd.InsertApc u) Yes) ∷
    event 0 (Some a) 0 (Call 0 cmd.LeaveGuard Done) ∷
    event 0 (Some a) 1 (Begin (Apc n) 12) ∷
    event 0 (Some a) 1 (Call 17 (cmd.Note 1) Done) ∷
    event 0 (Some a) 0 (Normal 17) ∷
    event 0 (Some a) 0 (Clean 1) ∷
    event 0 (Some a) 0 (Call 17 (cmd.Note 2) Done) ∷
    event 0 (Some a) 0 (End 17) ∷
    event 0 (Some a) 0 (Clean 1) ∷
    event 0 (Some a) 0 (Call 0 (cmd.RemoveApc n) No) ∷
    event 0 (Some a) 0 (Call 0 (cmd.RemoveApc u) Yes) ∷
    event 0 (Some a) 0 (Call 0 (cmd.InsertApc u) Yes) ∷
    event 0 (Some a) 0 (End 0) ∷
    event 0 (Some a) 0 (Flush u 26) ∷
    event 0 (Some a) 0 (Call 28 (cmd.Note 3) Done) ∷
    event 0 (Some a) 0 (End 28) ∷
    event 0 (Some a) 0 (Gone a) ∷
    event 0 None 0 Rest ∷
    []
