-- The worked row interrupt-while-spinning: an interrupt begins while its processor spins.
use Rattle.std.specs.Prelude.{List, None, Some, [], false, ◌∷◌}
use Rattle.nt_event.specs.declared.commands.Command.TheVariants as cmd
use Rattle.nt_event.specs.declared.commands.Refusal.TheVariants.{TooHigh}
use Rattle.nt_event.specs.declared.commands.Reply.TheVariants.{Done, Refused, Spin, Yes}
use Rattle.nt_event.specs.declared.events.Begun.TheVariants.{Dpc, Int}
use Rattle.nt_event.specs.declared.events.Event.{Event}
use Rattle.nt_event.specs.declared.events.What.TheVariants.{Begin, Call, Clean, End, Free, Gone, Rest, Switch}
use Rattle.nt_event.specs.declared.numbers.DpcNo.{DpcNo}
use Rattle.nt_event.specs.declared.numbers.LockNo.{LockNo}
use Rattle.nt_event.specs.declared.numbers.RoutineNo.{RoutineNo}
use Rattle.nt_event.specs.declared.numbers.ThreadNo.{ThreadNo}
use Rattle.nt_event.specs.declared.scripts.Script.{Script}
use Rattle.nt_event.specs.Numbers.{cpu, dpc, lock, routine, thread}
use Rattle.nt_rows.specs.Plain.{plain}
use Rattle.nt_rows.specs.Rows.{event, looks, runs, thread_on}

abbrev pub d : DpcNo
d = dpc 0

abbrev pub a : ThreadNo
a = thread 0

abbrev pub b : ThreadNo
b = thread 1

abbrev pub k : LockNo
k = lock 0

abbrev pub ra : RoutineNo
ra = routine 0

abbrev pub rb : RoutineNo
rb = routine 1

abbrev pub r5 : RoutineNo
r5 = routine 2

abbrev pub rd : RoutineNo
rd = routine 3

-- the script
abbrev pub script : Script
script =
    record plain {
      cpus = 2;
      isrs = record { cpu = cpu 1; level = 5; routine = r5 } ∷ [];
      dpcs = record { threaded = false; routine = rd } ∷ [];
      threads = thread_on 0 ra ∷ thread_on 1 rb ∷ [];
      routines =
          runs (cmd.Acquire k ∷ cmd.SetTarget d (Some (cpu 1)) ∷ cmd.Interrupt (cpu 1) 5 ∷ cmd.Note 1 ∷
          cmd.Note 1 ∷ cmd.Unlock k ∷ []) ∷
          runs (cmd.Note 2 ∷ cmd.Acquire k ∷ cmd.Note 3 ∷ cmd.Unlock k ∷ []) ∷
          runs (cmd.Acquire k ∷ cmd.Queue d ∷ cmd.Unlock k ∷ []) ∷
          runs (cmd.Acquire k ∷ cmd.Note 4 ∷ []) ∷
          [];
      locks = 1;
    }

-- its robin run, the oldest event first
abbrev pub history : List Event
history =
    event 0 (Some a) 0 (Switch a None) ∷
    event 1 (Some b) 0 (Switch b None) ∷
    event 0 (Some a) 2 (Call 0 (cmd.Acquire k) Done) ∷
    event 1 (Some b) 0 (Call 1 (cmd.Note 2) Done) ∷
    event 0 (Some a) 2 (Call 0 (cmd.SetTarget d (Some (cpu 1))) Done) ∷
    event 1 (Some b) 2 (Call 1 (cmd.Acquire k) Spin) ∷
    event 0 (Some a) 2 (Call 0 (cmd.Interrupt (cpu 1) 5) Done) ∷
    looks 1 ((5, 7) ∷ []) ∷
    event 0 (Some a) 2 (Call 0 (cmd.Note 1) Done) ∷
    event 1 (Some b) 5 (Begin (Int 5) 6) ∷
    event 0 (Some a) 2 (Call 0 (cmd.Note 1) Done) ∷
    event 1 (Some b) 5 (Call 9 (cmd.Acquire k) (Refused TooHigh)) ∷
    event 0 (Some a) 0 (Call 0 (cmd.Unlock k) Done) ∷
    looks 1 ((12, 13) ∷ []) ∷
    event 0 (Some a) 0 (End 0) ∷
    event 1 (Some b) 5 (Call 9 (cmd.Queue d) Yes) ∷
    event 0 (Some a) 0 (Gone a) ∷
    event 1 (Some b) 5 (Call 9 (cmd.Unlock k) (Refused TooHigh)) ∷
    event 0 None 0 Rest ∷
    event 1 (Some b) 2 (End 9) ∷
    event 1 (Some b) 2 (Call 1 (cmd.Acquire k) Done) ∷
    event 1 (Some b) 2 (Call 1 (cmd.Note 3) Done) ∷
    event 1 (Some b) 0 (Call 1 (cmd.Unlock k) Done) ∷
    event 1 (Some b) 2 (Begin (Dpc d) 15) ∷
    event 1 (Some b) 2 (Call 23 (cmd.Acquire k) Done) ∷
    event 1 (Some b) 2 (Call 23 (cmd.Note 4) Done) ∷
    event 1 (Some b) 2 (Free 23 k) ∷
    event 1 (Some b) 0 (End 23) ∷
    event 1 (Some b) 0 (Clean 2) ∷
    event 1 (Some b) 0 (End 1) ∷
    event 1 (Some b) 0 (Gone b) ∷
    event 1 None 0 Rest ∷
    []
