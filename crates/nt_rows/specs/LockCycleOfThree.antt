-- The worked row lock-cycle-of-three: three processors, each of which waits for the lock of the next.
use Rattle.std.specs.Prelude.{List, None, Some, [], false, ◌∷◌}
use Rattle.nt_event.specs.declared.commands.Command.TheVariants as cmd
use Rattle.nt_event.specs.declared.commands.Reply.TheVariants.{Done, Spin, Yes}
use Rattle.nt_event.specs.declared.events.Begun.TheVariants.{Dpc}
use Rattle.nt_event.specs.declared.events.Event.{Event}
use Rattle.nt_event.specs.declared.events.What.TheVariants.{Begin, Call, Switch}
use Rattle.nt_event.specs.declared.numbers.DpcNo.{DpcNo}
use Rattle.nt_event.specs.declared.numbers.LockNo.{LockNo}
use Rattle.nt_event.specs.declared.numbers.RoutineNo.{RoutineNo}
use Rattle.nt_event.specs.declared.numbers.ThreadNo.{ThreadNo}
use Rattle.nt_event.specs.declared.scripts.Script.{Script}
use Rattle.nt_event.specs.Numbers.{cpu, dpc, lock, routine, thread}
use Rattle.nt_rows.specs.Plain.{plain}
use Rattle.nt_rows.specs.Rows.{event, runs, thread_on}

abbrev pub d : DpcNo
d = dpc 0

abbrev pub a : ThreadNo
a = thread 0

abbrev pub b : ThreadNo
b = thread 1

abbrev pub c : ThreadNo
c = thread 2

abbrev pub i : LockNo
i = lock 0

abbrev pub j : LockNo
j = lock 1

abbrev pub k : LockNo
k = lock 2

abbrev pub ra : RoutineNo
ra = routine 0

abbrev pub rb : RoutineNo
rb = routine 1

abbrev pub rc : RoutineNo
rc = routine 2

abbrev pub rd : RoutineNo
rd = routine 3

-- the script
abbrev pub script : Script
script =
    record plain {
      cpus = 3;
      dpcs = record { threaded = false; routine = rd } ∷ [];
      threads = thread_on 0 ra ∷ thread_on 1 rb ∷ thread_on 2 rc ∷ [];
      routines =
          runs (cmd.Acquire i ∷ cmd.Acquire j ∷ []) ∷
          runs (cmd.Acquire j ∷ cmd.Note 1 ∷ cmd.Note 1 ∷ cmd.Note 1 ∷ cmd.Acquire k ∷ []) ∷
          runs (cmd.SetTarget d (Some (cpu 2)) ∷ cmd.Queue d ∷ []) ∷
          runs (cmd.Acquire k ∷ cmd.Acquire i ∷ []) ∷
          [];
      locks = 3;
    }

-- its robin run, the oldest event first
abbrev pub history : List Event
history =
    event 0 (Some a) 0 (Switch a None) ∷
    event 1 (Some b) 0 (Switch b None) ∷
    event 2 (Some c) 0 (Switch c None) ∷
    event 0 (Some a) 2 (Call 0 (cmd.Acquire i) Done) ∷
    event 1 (Some b) 2 (Call 1 (cmd.Acquire j) Done) ∷
    event 2 (Some c) 0 (Call 2 (cmd.SetTarget d (Some (cpu 2))) Done) ∷
    event 0 (Some a) 2 (Call 0 (cmd.Acquire j) Spin) ∷
    event 1 (Some b) 2 (Call 1 (cmd.Note 1) Done) ∷
    event 2 (Some c) 0 (Call 2 (cmd.Queue d) Yes) ∷
    event 1 (Some b) 2 (Call 1 (cmd.Note 1) Done) ∷
    event 2 (Some c) 2 (Begin (Dpc d) 8) ∷
    event 1 (Some b) 2 (Call 1 (cmd.Note 1) Done) ∷
    event 2 (Some c) 2 (Call 10 (cmd.Acquire k) Done) ∷
    event 1 (Some b) 2 (Call 1 (cmd.Acquire k) Spin) ∷
    event 2 (Some c) 2 (Call 10 (cmd.Acquire i) Spin) ∷
    []
