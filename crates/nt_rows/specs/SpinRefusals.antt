-- The worked row spin-refusals: what a held lock forbids, and a lock that is freed at the end.
use Rattle.std.specs.Prelude.{List, None, Some, [], ◌∷◌}
use Rattle.nt_event.specs.declared.commands.Command.TheVariants as cmd
use Rattle.nt_event.specs.declared.commands.Refusal.TheVariants.{HeldHere, LockHeld, NotLast}
use Rattle.nt_event.specs.declared.commands.Reply.TheVariants.{Done, Refused}
use Rattle.nt_event.specs.declared.events.Event.{Event}
use Rattle.nt_event.specs.declared.events.What.TheVariants.{Call, End, Free, Gone, Rest, Switch}
use Rattle.nt_event.specs.declared.numbers.LockNo.{LockNo}
use Rattle.nt_event.specs.declared.numbers.RoutineNo.{RoutineNo}
use Rattle.nt_event.specs.declared.numbers.ThreadNo.{ThreadNo}
use Rattle.nt_event.specs.declared.scripts.Script.{Script}
use Rattle.nt_event.specs.Numbers.{lock, routine, thread}
use Rattle.nt_rows.specs.Plain.{plain}
use Rattle.nt_rows.specs.Rows.{event, runs, thread_on}

abbrev pub main : ThreadNo
main = thread 0

abbrev pub j : LockNo
j = lock 0

abbrev pub k : LockNo
k = lock 1

abbrev pub body : RoutineNo
body = routine 0

-- the script
abbrev pub script : Script
script =
    record plain {
      threads = thread_on 0 body ∷ [];
      routines =
          runs (cmd.Acquire k ∷ cmd.Acquire k ∷ cmd.Lower 0 ∷ cmd.Unlock j ∷ []) ∷
          [];
      locks = 2;
    }

-- its robin run, the oldest event first
abbrev pub history : List Event
history =
    event 0 (Some main) 0 (Switch main None) ∷
    event 0 (Some main) 2 (Call 0 (cmd.Acquire k) Done) ∷
    event 0 (Some main) 2 (Call 0 (cmd.Acquire k) (Refused HeldHere)) ∷
    event 0 (Some main) 2 (Call 0 (cmd.Lower 0) (Refused LockHeld)) ∷
    event 0 (Some main) 2 (Call 0 (cmd.Unlock j) (Refused NotLast)) ∷
    event 0 (Some main) 0 (Free 0 k) ∷
    event 0 (Some main) 0 (End 0) ∷
    event 0 (Some main) 0 (Gone main) ∷
    event 0 None 0 Rest ∷
    []
