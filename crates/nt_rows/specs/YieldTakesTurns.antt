-- The worked row yield-takes-turns: threads that yield, alone and among others.
use Rattle.std.specs.Prelude.{List, None, Some, [], ◌∷◌}
use Rattle.nt_event.specs.declared.commands.Command.TheVariants as cmd
use Rattle.nt_event.specs.declared.commands.Reply.TheVariants.{Done}
use Rattle.nt_event.specs.declared.events.Event.{Event}
use Rattle.nt_event.specs.declared.events.What.TheVariants.{Call, End, Gone, Rest, Switch}
use Rattle.nt_event.specs.declared.numbers.RoutineNo.{RoutineNo}
use Rattle.nt_event.specs.declared.numbers.ThreadNo.{ThreadNo}
use Rattle.nt_event.specs.declared.scripts.Script.{Script}
use Rattle.nt_event.specs.Numbers.{routine, thread}
use Rattle.nt_rows.specs.Plain.{plain}
use Rattle.nt_rows.specs.Rows.{event, runs, thread_on}

abbrev pub a : ThreadNo
a = thread 0

abbrev pub b : ThreadNo
b = thread 1

abbrev pub c : ThreadNo
c = thread 2

abbrev pub z : ThreadNo
z = thread 3

abbrev pub ra : RoutineNo
ra = routine 0

abbrev pub rb : RoutineNo
rb = routine 1

abbrev pub rz : RoutineNo
rz = routine 2

-- the script
abbrev pub script : Script
script =
    record plain {
      cpus = 2;
      threads = thread_on 0 ra ∷ thread_on 0 rb ∷ thread_on 0 rb ∷ thread_on 1 rz ∷ [];
      routines =
          runs (cmd.Note 1 ∷ cmd.Yield ∷ cmd.Note 2 ∷ cmd.Raise 1 ∷ cmd.Yield ∷ cmd.Note 3 ∷ []) ∷
          runs (cmd.Yield ∷ cmd.Note 4 ∷ cmd.Yield ∷ []) ∷
          runs (cmd.Yield ∷ cmd.Yield ∷ []) ∷
          [];
    }

-- its robin run, the oldest event first
abbrev pub history : List Event
history =
    event 0 (Some a) 0 (Switch a None) ∷
    event 1 (Some z) 0 (Switch z None) ∷
    event 0 (Some a) 0 (Call 0 (cmd.Note 1) Done) ∷
    event 1 (Some z) 0 (Call 1 cmd.Yield Done) ∷
    event 0 (Some a) 0 (Call 0 cmd.Yield Done) ∷
    event 1 (Some z) 0 (Switch z None) ∷
    event 0 (Some b) 0 (Switch b None) ∷
    event 1 (Some z) 0 (Call 1 cmd.Yield Done) ∷
    event 0 (Some b) 0 (Call 6 cmd.Yield Done) ∷
    event 1 (Some z) 0 (Switch z None) ∷
    event 0 (Some c) 0 (Switch c None) ∷
    event 1 (Some z) 0 (End 1) ∷
    event 0 (Some c) 0 (Call 10 cmd.Yield Done) ∷
    event 1 (Some z) 0 (Gone z) ∷
    event 0 (Some a) 0 (Switch a None) ∷
    event 1 None 0 Rest ∷
    event 0 (Some a) 0 (Call 0 (cmd.Note 2) Done) ∷
    event 0 (Some a) 1 (Call 0 (cmd.Raise 1) Done) ∷
    event 0 (Some a) 0 (Call 0 cmd.Yield Done) ∷
    event 0 (Some b) 0 (Switch b None) ∷
    event 0 (Some b) 0 (Call 6 (cmd.Note 4) Done) ∷
    event 0 (Some b) 0 (Call 6 cmd.Yield Done) ∷
    event 0 (Some c) 0 (Switch c None) ∷
    event 0 (Some c) 0 (Call 10 (cmd.Note 4) Done) ∷
    event 0 (Some c) 0 (Call 10 cmd.Yield Done) ∷
    event 0 (Some a) 1 (Switch a None) ∷
    event 0 (Some a) 1 (Call 0 (cmd.Note 3) Done) ∷
    event 0 (Some a) 0 (End 0) ∷
    event 0 (Some a) 0 (Gone a) ∷
    event 0 (Some b) 0 (Switch b None) ∷
    event 0 (Some b) 0 (End 6) ∷
    event 0 (Some b) 0 (Gone b) ∷
    event 0 (Some c) 0 (Switch c None) ∷
    event 0 (Some c) 0 (End 10) ∷
    event 0 (Some c) 0 (Gone c) ∷
    event 0 None 0 Rest ∷
    []
