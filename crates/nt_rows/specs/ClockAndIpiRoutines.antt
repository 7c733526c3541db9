-- The worked row clock-and-ipi-routines: routines of levels 13 and 14, and a timer without a DPC.
use Rattle.std.specs.Prelude.{List, None, Some, [], false, ◌∷◌}
use Rattle.nt_event.specs.declared.commands.Command.TheVariants as cmd
use Rattle.nt_event.specs.declared.commands.Reply.TheVariants.{Done, No, Yes}
use Rattle.nt_event.specs.declared.commands.TimerKey.TheVariants.{Timer as OfTimer}
use Rattle.nt_event.specs.declared.events.Begun.TheVariants.{Dpc, Int}
use Rattle.nt_event.specs.declared.events.Event.{Event}
use Rattle.nt_event.specs.declared.events.What.TheVariants.{Begin, Call, Clean, End, Expire, Fire, Gone, Rest, Switch}
use Rattle.nt_event.specs.declared.numbers.DpcNo.{DpcNo}
use Rattle.nt_event.specs.declared.numbers.RoutineNo.{RoutineNo}
use Rattle.nt_event.specs.declared.numbers.ThreadNo.{ThreadNo}
use Rattle.nt_event.specs.declared.numbers.TimerNo.{TimerNo}
use Rattle.nt_event.specs.declared.scripts.Script.{Script}
use Rattle.nt_event.specs.Numbers.{cpu, dpc, routine, thread, timer}
use Rattle.nt_rows.specs.Plain.{plain}
use Rattle.nt_rows.specs.Rows.{event, looks, runs, thread_on}

abbrev pub d : DpcNo
d = dpc 0

abbrev pub t : TimerNo
t = timer 0

abbrev pub q : TimerNo
q = timer 1

abbrev pub a : ThreadNo
a = thread 0

abbrev pub b : ThreadNo
b = thread 1

abbrev pub r13 : RoutineNo
r13 = routine 0

abbrev pub r14 : RoutineNo
r14 = routine 1

abbrev pub r3 : RoutineNo
r3 = routine 2

abbrev pub rd : RoutineNo
rd = routine 3

abbrev pub ra : RoutineNo
ra = routine 4

abbrev pub rb : RoutineNo
rb = routine 5

-- the script
abbrev pub script : Script
script =
    record plain {
      cpus = 2;
      isrs =
          record { cpu = cpu 0; level = 13; routine = r13 } ∷ record { cpu = cpu 1; level = 14; routine = r14 } ∷
          record { cpu = cpu 1; level = 3; routine = r3 } ∷ [];
      dpcs = record { threaded = false; routine = rd } ∷ [];
      timers = record { dpc = Some d } ∷ record { dpc = None } ∷ [];
      threads = thread_on 0 ra ∷ thread_on 1 rb ∷ [];
      routines =
          runs (cmd.Note 13 ∷ cmd.Queue d ∷ []) ∷
          runs (cmd.Interrupt (cpu 1) 3 ∷ cmd.Note 14 ∷ []) ∷
          runs (cmd.Note 3 ∷ []) ∷
          runs (cmd.Note 2 ∷ []) ∷
          runs (cmd.SetTimer t 0 3 ∷ cmd.SetTimer q 2 0 ∷ cmd.Clock 3 ∷ cmd.Interrupt (cpu 1) 14 ∷ cmd.SetTimer q 0 0 ∷
          cmd.CancelTimer q ∷ cmd.Clock 3 ∷ cmd.CancelTimer t ∷ []) ∷
          runs (cmd.Interrupt (cpu 0) 14 ∷ cmd.Raise 14 ∷ cmd.Interrupt (cpu 1) 14 ∷ cmd.Interrupt (cpu 1) 14 ∷
          cmd.Lower 3 ∷ cmd.Lower 0 ∷ []) ∷
          [];
    }

-- its robin run, the oldest event first
abbrev pub history : List Event
history =
    event 0 (Some a) 0 (Switch a None) ∷
    event 1 (Some b) 0 (Switch b None) ∷
    event 0 (Some a) 0 (Call 0 (cmd.SetTimer t 0 3) No) ∷
    event 1 (Some b) 0 (Call 1 (cmd.Interrupt (cpu 0) 14) Done) ∷
    looks 0 ((14, 4) ∷ []) ∷
    event 1 (Some b) 14 (Call 1 (cmd.Raise 14) Done) ∷
    event 0 (Some a) 14 (Begin (Int 14) 3) ∷
    event 1 (Some b) 14 (Call 1 (cmd.Interrupt (cpu 1) 14) Done) ∷
    event 0 (Some a) 0 (End 6) ∷
    event 1 (Some b) 14 (Call 1 (cmd.Interrupt (cpu 1) 14) Done) ∷
    event 0 (Some a) 0 (Expire (OfTimer t) 2) ∷
    event 1 (Some b) 3 (Call 1 (cmd.Lower 3) Done) ∷
    event 0 (Some a) 0 (Fire d Yes) ∷
    event 1 (Some b) 14 (Begin (Int 14) 9) ∷
    event 0 (Some a) 2 (Begin (Dpc d) 12) ∷
    event 1 (Some b) 14 (Call 13 (cmd.Interrupt (cpu 1) 3) Done) ∷
    event 0 (Some a) 2 (Call 14 (cmd.Note 2) Done) ∷
    event 1 (Some b) 14 (Call 13 (cmd.Note 14) Done) ∷
    event 0 (Some a) 0 (End 14) ∷
    event 1 (Some b) 3 (End 13) ∷
    event 0 (Some a) 0 (Clean 2) ∷
    event 1 (Some b) 0 (Call 1 (cmd.Lower 0) Done) ∷
    event 0 (Some a) 0 (Call 0 (cmd.SetTimer q 2 0) No) ∷
    event 1 (Some b) 3 (Begin (Int 3) 15) ∷
    event 0 (Some a) 0 (Call 0 (cmd.Clock 3) Done) ∷
    event 1 (Some b) 3 (Call 23 (cmd.Note 3) Done) ∷
    event 0 (Some a) 13 (Begin (Int 13) 24) ∷
    event 1 (Some b) 0 (End 23) ∷
    event 0 (Some a) 13 (Call 26 (cmd.Note 13) Done) ∷
    event 1 (Some b) 0 (End 1) ∷
    event 0 (Some a) 13 (Call 26 (cmd.Queue d) Yes) ∷
    event 1 (Some b) 0 (Gone b) ∷
    event 0 (Some a) 0 (End 26) ∷
    event 1 None 0 Rest ∷
    event 0 (Some a) 0 (Expire (OfTimer q) 22) ∷
    event 0 (Some a) 0 (Expire (OfTimer t) 10) ∷
    event 0 (Some a) 0 (Fire d No) ∷
    event 0 (Some a) 2 (Begin (Dpc d) 30) ∷
    event 0 (Some a) 2 (Call 37 (cmd.Note 2) Done) ∷
    event 0 (Some a) 0 (End 37) ∷
    event 0 (Some a) 0 (Clean 2) ∷
    event 0 (Some a) 0 (Call 0 (cmd.Interrupt (cpu 1) 14) Done) ∷
    looks 1 ((14, 42) ∷ []) ∷
    event 0 (Some a) 0 (Call 0 (cmd.SetTimer q 0 0) No) ∷
    event 1 None 14 (Begin (Int 14) 41) ∷
    event 0 (Some a) 0 (Expire (OfTimer q) 43) ∷
    event 1 None 14 (Call 44 (cmd.Interrupt (cpu 1) 3) Done) ∷
    event 0 (Some a) 0 (Clean 2) ∷
    event 1 None 14 (Call 44 (cmd.Note 14) Done) ∷
    event 0 (Some a) 0 (Call 0 (cmd.CancelTimer q) No) ∷
    event 1 None 0 (End 44) ∷
    event 0 (Some a) 0 (Call 0 (cmd.Clock 3) Done) ∷
    event 1 None 3 (Begin (Int 3) 46) ∷
    event 0 (Some a) 13 (Begin (Int 13) 51) ∷
    event 1 None 3 (Call 52 (cmd.Note 3) Done) ∷
    event 0 (Some a) 13 (Call 53 (cmd.Note 13) Done) ∷
    event 1 None 0 (End 52) ∷
    event 0 (Some a) 13 (Call 53 (cmd.Queue d) Yes) ∷
    event 1 None 0 Rest ∷
    event 0 (Some a) 0 (End 53) ∷
    event 0 (Some a) 0 (Expire (OfTimer t) 35) ∷
    event 0 (Some a) 0 (Fire d No) ∷
    event 0 (Some a) 2 (Begin (Dpc d) 57) ∷
    event 0 (Some a) 2 (Call 62 (cmd.Note 2) Done) ∷
    event 0 (Some a) 0 (End 62) ∷
    event 0 (Some a) 0 (Clean 2) ∷
    event 0 (Some a) 0 (Call 0 (cmd.CancelTimer t) Yes) ∷
    event 0 (Some a) 0 (End 0) ∷
    event 0 (Some a) 0 (Gone a) ∷
    event 0 None 0 Rest ∷
    []
