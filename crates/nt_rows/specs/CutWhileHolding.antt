-- The worked row cut-while-holding: a processor is cut while it holds a lock.
use Rattle.std.specs.Prelude.{List, None, Some, [], false, ◌∷◌}
use Rattle.nt_event.specs.declared.commands.Command.TheVariants as cmd
use Rattle.nt_event.specs.declared.commands.Reply.TheVariants.{Done, Spin, Yes}
use Rattle.nt_event.specs.declared.events.Begun.TheVariants.{Dpc}
use Rattle.nt_event.specs.declared.events.Event.{Event}
use Rattle.nt_event.specs.declared.events.What.TheVariants.{Begin, Call, Switch}
use Rattle.nt_event.specs.declared.numbers.DpcNo.{DpcNo}
use Rattle.nt_event.specs.declared.numbers.LockNo.{LockNo}
use Rattle.nt_event.specs.declared.numbers.RoutineNo.{RoutineNo}
use Rattle.nt_event.specs.declared.numbers.ThreadNo.{ThreadNo}
use Rattle.nt_event.specs.declared.scripts.Script.{Script}
use Rattle.nt_event.specs.Numbers.{dpc, lock, routine, thread}
use Rattle.nt_rows.specs.Plain.{plain}
use Rattle.nt_rows.specs.Rows.{event, runs, thread_on}

abbrev pub d : DpcNo
d = dpc 0

abbrev pub a : ThreadNo
a = thread 0

abbrev pub b : ThreadNo
b = thread 1

abbrev pub k : LockNo
k = lock 0

abbrev pub ra : RoutineNo
ra = routine 0

abbrev pub rb : RoutineNo
rb = routine 1

abbrev pub rd : RoutineNo
rd = routine 2

-- the script
abbrev pub script : Script
script =
    record plain {
      cpus = 2;
      dpcs = record { threaded = false; routine = rd } ∷ [];
      threads = thread_on 0 ra ∷ thread_on 1 rb ∷ [];
      routines =
          runs (cmd.Acquire k ∷ cmd.Note 1 ∷ cmd.Note 1 ∷ cmd.Note 1 ∷ cmd.Unlock k ∷ []) ∷
          runs (cmd.Queue d ∷ []) ∷
          runs (cmd.Acquire k ∷ cmd.Queue d ∷ []) ∷
          [];
      locks = 1;
    }

-- its robin run, the oldest event first
abbrev pub history : List Event
history =
    event 0 (Some a) 0 (Switch a None) ∷
    event 1 (Some b) 0 (Switch b None) ∷
    event 0 (Some a) 2 (Call 0 (cmd.Acquire k) Done) ∷
    event 1 (Some b) 0 (Call 1 (cmd.Queue d) Yes) ∷
    event 0 (Some a) 2 (Call 0 (cmd.Note 1) Done) ∷
    event 1 (Some b) 2 (Begin (Dpc d) 3) ∷
    event 0 (Some a) 2 (Call 0 (cmd.Note 1) Done) ∷
    event 1 (Some b) 2 (Call 5 (cmd.Acquire k) Spin) ∷
    event 0 (Some a) 2 (Call 0 (cmd.Note 1) Done) ∷
    []
