-- The worked row doors-closed-in-a-delay: a delay in a guarded region that a thread never leaves, and a rundown
-- routine that inserts its APC again.
use Rattle.std.specs.Prelude.{List, None, Some, [], false, ◌∷◌}
use Rattle.nt_event.specs.declared.commands.Command.TheVariants as cmd
use Rattle.nt_event.specs.declared.commands.Mode.TheVariants.{Kernel}
use Rattle.nt_event.specs.declared.commands.Reply.TheVariants.{Blocked, Done, No, Yes}
use Rattle.nt_event.specs.declared.commands.TimerKey.TheVariants.{Delay as OfDelay}
use Rattle.nt_event.specs.declared.events.Begun.TheVariants.{Int}
use Rattle.nt_event.specs.declared.events.Event.{Event}
use Rattle.nt_event.specs.declared.events.What.TheVariants.{Begin, Call, Clean, End, Expire, Flush, Gone, Rest, Switch}
use Rattle.nt_event.specs.declared.numbers.ApcNo.{ApcNo}
use Rattle.nt_event.specs.declared.numbers.RoutineNo.{RoutineNo}
use Rattle.nt_event.specs.declared.numbers.ThreadNo.{ThreadNo}
use Rattle.nt_event.specs.declared.scripts.Script.{Script}
use Rattle.nt_event.specs.Numbers.{apc, routine, thread}
use Rattle.nt_rows.specs.Plain.{plain}
use Rattle.nt_rows.specs.Rows.{event, runs, thread_on, user_apc}

abbrev pub a : ThreadNo
a = thread 0

abbrev pub b : ThreadNo
b = thread 1

abbrev pub u : ApcNo
u = apc 0

abbrev pub ra : RoutineNo
ra = routine 0

abbrev pub rb : RoutineNo
rb = routine 1

abbrev pub q : RoutineNo
q = routine 2

abbrev pub m : RoutineNo
m = routine 3

abbrev pub r : RoutineNo
r = routine 4

-- the script
abbrev pub script : Script
script =
    record plain {
      threads = thread_on 0 ra ∷ thread_on 0 rb ∷ [];
      apcs = user_apc a q m (Some r) ∷ [];
      routines =
          runs (cmd.InsertApc u ∷ cmd.EnterGuard ∷ cmd.Delay Kernel false 3 ∷ []) ∷
          runs (cmd.Clock 3 ∷ cmd.Clock 3 ∷ []) ∷
          runs [] ∷
          runs (cmd.Note 1 ∷ []) ∷
          runs (cmd.Note 5 ∷ cmd.InsertApc u ∷ []) ∷
          [];
    }

-- its robin run, the oldest event first
abbrev pub history : List Event
history =
    event 0 (Some a) 0 (Switch a None) ∷
    event 0 (Some a) 0 (Call 0 (cmd.InsertApc u) Yes) ∷
    event 0 (Some a) 0 (Call 0 cmd.EnterGuard Done) ∷
    event 0 (Some a) 0 (Call 0 (cmd.Delay Kernel false 3) Blocked) ∷
    event 0 (Some b) 0 (Switch b None) ∷
    event 0 (Some b) 0 (Call 4 (cmd.Clock 3) Done) ∷
    event 0 (Some b) 13 (Begin (Int 13) 5) ∷
    event 0 (Some b) 0 (End 6) ∷
    event 0 (Some b) 0 (Expire (OfDelay a) 3) ∷
    event 0 (Some b) 0 (Clean 2) ∷
    event 0 (Some b) 0 (Call 4 (cmd.Clock 3) Done) ∷
    event 0 (Some b) 13 (Begin (Int 13) 10) ∷
    event 0 (Some b) 0 (End 11) ∷
    event 0 (Some b) 0 (Clean 2) ∷
    event 0 (Some b) 0 (End 4) ∷
    event 0 (Some b) 0 (Gone b) ∷
    event 0 (Some a) 0 (Switch a (Some 0)) ∷
    event 0 (Some a) 0 (End 0) ∷
    event 0 (Some a) 0 (Clean 1) ∷
    event 0 (Some a) 0 (Flush u 1) ∷
    event 0 (Some a) 0 (Call 19 (cmd.Note 5) Done) ∷
    event 0 (Some a) 0 (Call 19 (cmd.InsertApc u) No) ∷
    event 0 (Some a) 0 (End 19) ∷
    event 0 (Some a) 0 (Gone a) ∷
    event 0 None 0 Rest ∷
    []
