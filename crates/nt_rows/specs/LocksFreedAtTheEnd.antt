-- The worked row locks-freed-at-the-end: two locks of a frame are freed at its end, the last one first.
use Rattle.std.specs.Prelude.{List, None, Some, [], false, ◌∷◌}
use Rattle.nt_event.specs.declared.commands.Command.TheVariants as cmd
use Rattle.nt_event.specs.declared.commands.Refusal.TheVariants.{HeldHere, NotLast}
use Rattle.nt_event.specs.declared.commands.Reply.TheVariants.{Done, Refused, Yes}
use Rattle.nt_event.specs.declared.events.Begun.TheVariants.{Dpc}
use Rattle.nt_event.specs.declared.events.Event.{Event}
use Rattle.nt_event.specs.declared.events.What.TheVariants.{Begin, Call, Clean, End, Free, Gone, Rest, Switch}
use Rattle.nt_event.specs.declared.numbers.DpcNo.{DpcNo}
use Rattle.nt_event.specs.declared.numbers.LockNo.{LockNo}
use Rattle.nt_event.specs.declared.numbers.RoutineNo.{RoutineNo}
use Rattle.nt_event.specs.declared.numbers.ThreadNo.{ThreadNo}
use Rattle.nt_event.specs.declared.scripts.Script.{Script}
use Rattle.nt_event.specs.Numbers.{dpc, lock, routine, thread}
use Rattle.nt_rows.specs.Plain.{plain}
use Rattle.nt_rows.specs.Rows.{event, runs, thread_on}

abbrev pub d : DpcNo
d = dpc 0

abbrev pub a : ThreadNo
a = thread 0

abbrev pub j : LockNo
j = lock 0

abbrev pub k : LockNo
k = lock 1

abbrev pub l : LockNo
l = lock 2

abbrev pub ra : RoutineNo
ra = routine 0

abbrev pub rd : RoutineNo
rd = routine 1

-- the script
abbrev pub script : Script
script =
    record plain {
      dpcs = record { threaded = false; routine = rd } ∷ [];
      threads = thread_on 0 ra ∷ [];
      routines =
          runs (cmd.Queue d ∷ cmd.Acquire l ∷ cmd.Acquire j ∷ cmd.Raise 2 ∷ cmd.Lower 2 ∷ cmd.Unlock l ∷ []) ∷
          runs (cmd.Acquire k ∷ cmd.Acquire j ∷ cmd.Acquire k ∷ []) ∷
          [];
      locks = 3;
    }

-- its robin run, the oldest event first
abbrev pub history : List Event
history =
    event 0 (Some a) 0 (Switch a None) ∷
    event 0 (Some a) 0 (Call 0 (cmd.Queue d) Yes) ∷
    event 0 (Some a) 2 (Begin (Dpc d) 1) ∷
    event 0 (Some a) 2 (Call 2 (cmd.Acquire k) Done) ∷
    event 0 (Some a) 2 (Call 2 (cmd.Acquire j) Done) ∷
    event 0 (Some a) 2 (Call 2 (cmd.Acquire k) (Refused HeldHere)) ∷
    event 0 (Some a) 2 (Free 2 j) ∷
    event 0 (Some a) 2 (Free 2 k) ∷
    event 0 (Some a) 0 (End 2) ∷
    event 0 (Some a) 0 (Clean 2) ∷
    event 0 (Some a) 2 (Call 0 (cmd.Acquire l) Done) ∷
    event 0 (Some a) 2 (Call 0 (cmd.Acquire j) Done) ∷
    event 0 (Some a) 2 (Call 0 (cmd.Raise 2) Done) ∷
    event 0 (Some a) 2 (Call 0 (cmd.Lower 2) Done) ∷
    event 0 (Some a) 2 (Call 0 (cmd.Unlock l) (Refused NotLast)) ∷
    event 0 (Some a) 2 (Free 0 j) ∷
    event 0 (Some a) 0 (Free 0 l) ∷
    event 0 (Some a) 0 (End 0) ∷
    event 0 (Some a) 0 (Gone a) ∷
    event 0 None 0 Rest ∷
    []
