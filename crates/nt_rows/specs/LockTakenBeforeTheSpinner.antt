-- The worked row lock-taken-before-the-spinner: a thread acquires a lock again before those that spin on it try again.
use Rattle.std.specs.Prelude.{List, None, Some, [], ◌∷◌}
use Rattle.nt_event.specs.declared.commands.Command.TheVariants as cmd
use Rattle.nt_event.specs.declared.commands.Reply.TheVariants.{Done, Spin}
use Rattle.nt_event.specs.declared.events.Event.{Event}
use Rattle.nt_event.specs.declared.events.What.TheVariants.{Call, End, Gone, Rest, Switch}
use Rattle.nt_event.specs.declared.numbers.LockNo.{LockNo}
use Rattle.nt_event.specs.declared.numbers.RoutineNo.{RoutineNo}
use Rattle.nt_event.specs.declared.numbers.ThreadNo.{ThreadNo}
use Rattle.nt_event.specs.declared.scripts.Script.{Script}
use Rattle.nt_event.specs.Numbers.{lock, routine, thread}
use Rattle.nt_rows.specs.Plain.{plain}
use Rattle.nt_rows.specs.Rows.{event, looks, runs, thread_on}

abbrev pub a : ThreadNo
a = thread 0

abbrev pub b : ThreadNo
b = thread 1

abbrev pub c : ThreadNo
c = thread 2

abbrev pub k : LockNo
k = lock 0

abbrev pub ra : RoutineNo
ra = routine 0

abbrev pub rb : RoutineNo
rb = routine 1

abbrev pub rc : RoutineNo
rc = routine 2

-- the script
abbrev pub script : Script
script =
    record plain {
      cpus = 3;
      threads = thread_on 0 ra ∷ thread_on 1 rb ∷ thread_on 2 rc ∷ [];
      routines =
          runs (cmd.Acquire k ∷ cmd.Unlock k ∷ cmd.Acquire k ∷ cmd.Unlock k ∷ []) ∷
          runs (cmd.Acquire k ∷ cmd.Note 2 ∷ cmd.Unlock k ∷ []) ∷
          runs (cmd.Acquire k ∷ cmd.Note 3 ∷ cmd.Unlock k ∷ []) ∷
          [];
      locks = 1;
    }

-- its robin run, the oldest event first
abbrev pub history : List Event
history =
    event 0 (Some a) 0 (Switch a None) ∷
    event 1 (Some b) 0 (Switch b None) ∷
    event 2 (Some c) 0 (Switch c None) ∷
    event 0 (Some a) 2 (Call 0 (cmd.Acquire k) Done) ∷
    event 1 (Some b) 2 (Call 1 (cmd.Acquire k) Spin) ∷
    event 2 (Some c) 2 (Call 2 (cmd.Acquire k) Spin) ∷
    event 0 (Some a) 0 (Call 0 (cmd.Unlock k) Done) ∷
    looks 1 ((12, 7) ∷ []) ∷
    looks 2 ((12, 7) ∷ []) ∷
    event 0 (Some a) 2 (Call 0 (cmd.Acquire k) Done) ∷
    event 1 (Some b) 2 (Call 1 (cmd.Acquire k) Spin) ∷
    event 2 (Some c) 2 (Call 2 (cmd.Acquire k) Spin) ∷
    event 0 (Some a) 0 (Call 0 (cmd.Unlock k) Done) ∷
    looks 1 ((12, 13) ∷ []) ∷
    looks 2 ((12, 13) ∷ []) ∷
    event 0 (Some a) 0 (End 0) ∷
    event 1 (Some b) 2 (Call 1 (cmd.Acquire k) Done) ∷
    event 2 (Some c) 2 (Call 2 (cmd.Acquire k) Spin) ∷
    event 0 (Some a) 0 (Gone a) ∷
    event 1 (Some b) 2 (Call 1 (cmd.Note 2) Done) ∷
    event 0 None 0 Rest ∷
    event 1 (Some b) 0 (Call 1 (cmd.Unlock k) Done) ∷
    looks 2 ((12, 22) ∷ []) ∷
    event 1 (Some b) 0 (End 1) ∷
    event 2 (Some c) 2 (Call 2 (cmd.Acquire k) Done) ∷
    event 1 (Some b) 0 (Gone b) ∷
    event 2 (Some c) 2 (Call 2 (cmd.Note 3) Done) ∷
    event 1 None 0 Rest ∷
    event 2 (Some c) 0 (Call 2 (cmd.Unlock k) Done) ∷
    event 2 (Some c) 0 (End 2) ∷
    event 2 (Some c) 0 (Gone c) ∷
    event 2 None 0 Rest ∷
    []
