-- The worked row timer-due-behind-spinners: a due timer is left where all processors spin.
use Rattle.std.specs.Prelude.{List, None, Some, [], false, ◌∷◌}
use Rattle.nt_event.specs.declared.commands.Command.TheVariants as cmd
use Rattle.nt_event.specs.declared.commands.Reply.TheVariants.{Done, No, Spin}
use Rattle.nt_event.specs.declared.events.Begun.TheVariants.{Int}
use Rattle.nt_event.specs.declared.events.Event.{Event}
use Rattle.nt_event.specs.declared.events.What.TheVariants.{Begin, Call, End, Switch}
use Rattle.nt_event.specs.declared.numbers.DpcNo.{DpcNo}
use Rattle.nt_event.specs.declared.numbers.LockNo.{LockNo}
use Rattle.nt_event.specs.declared.numbers.RoutineNo.{RoutineNo}
use Rattle.nt_event.specs.declared.numbers.ThreadNo.{ThreadNo}
use Rattle.nt_event.specs.declared.numbers.TimerNo.{TimerNo}
use Rattle.nt_event.specs.declared.scripts.Script.{Script}
use Rattle.nt_event.specs.Numbers.{dpc, lock, routine, thread, timer}
use Rattle.nt_rows.specs.Plain.{plain}
use Rattle.nt_rows.specs.Rows.{event, runs, thread_on}

abbrev pub t : TimerNo
t = timer 0

abbrev pub d : DpcNo
d = dpc 0

abbrev pub a : ThreadNo
a = thread 0

abbrev pub b : ThreadNo
b = thread 1

abbrev pub j : LockNo
j = lock 0

abbrev pub k : LockNo
k = lock 1

abbrev pub ra : RoutineNo
ra = routine 0

abbrev pub rb : RoutineNo
rb = routine 1

abbrev pub rd : RoutineNo
rd = routine 2

-- the script
abbrev pub script : Script
script =
    record plain {
      cpus = 2;
      dpcs = record { threaded = false; routine = rd } ∷ [];
      timers = record { dpc = Some d } ∷ [];
      threads = thread_on 0 ra ∷ thread_on 1 rb ∷ [];
      routines =
          runs (cmd.Acquire k ∷ cmd.SetTimer t 3 0 ∷ cmd.Clock 5 ∷ cmd.Acquire j ∷ []) ∷
          runs (cmd.Acquire j ∷ cmd.Acquire k ∷ []) ∷
          runs (cmd.Note 3 ∷ []) ∷
          [];
      locks = 2;
    }

-- its robin run, the oldest event first
abbrev pub history : List Event
history =
    event 0 (Some a) 0 (Switch a None) ∷
    event 1 (Some b) 0 (Switch b None) ∷
    event 0 (Some a) 2 (Call 0 (cmd.Acquire k) Done) ∷
    event 1 (Some b) 2 (Call 1 (cmd.Acquire j) Done) ∷
    event 0 (Some a) 2 (Call 0 (cmd.SetTimer t 3 0) No) ∷
    event 1 (Some b) 2 (Call 1 (cmd.Acquire k) Spin) ∷
    event 0 (Some a) 2 (Call 0 (cmd.Clock 5) Done) ∷
    event 0 (Some a) 13 (Begin (Int 13) 6) ∷
    event 0 (Some a) 2 (End 7) ∷
    event 0 (Some a) 2 (Call 0 (cmd.Acquire j) Spin) ∷
    []
