-- The worked row doors-and-gone: calls on a thread that ends, and on one that is gone.
use Rattle.std.specs.Prelude.{List, None, Some, [], ◌∷◌}
use Rattle.nt_event.specs.declared.commands.Command.TheVariants as cmd
use Rattle.nt_event.specs.declared.commands.Mode.TheVariants.{Kernel, User}
use Rattle.nt_event.specs.declared.commands.Reply.TheVariants.{Done, No, Yes}
use Rattle.nt_event.specs.declared.events.Event.{Event}
use Rattle.nt_event.specs.declared.events.What.TheVariants.{Call, End, Flush, Gone, Rest, Switch}
use Rattle.nt_event.specs.declared.numbers.ApcNo.{ApcNo}
use Rattle.nt_event.specs.declared.numbers.RoutineNo.{RoutineNo}
use Rattle.nt_event.specs.declared.numbers.ThreadNo.{ThreadNo}
use Rattle.nt_event.specs.declared.scripts.Script.{Script}
use Rattle.nt_event.specs.Numbers.{apc, routine, thread}
use Rattle.nt_rows.specs.Plain.{plain}
use Rattle.nt_rows.specs.Rows.{event, normal_apc, runs, special_apc, thread_on, user_apc}

abbrev pub a : ThreadNo
a = thread 0

abbrev pub b : ThreadNo
b = thread 1

abbrev pub u : ApcNo
u = apc 0

abbrev pub s : ApcNo
s = apc 1

abbrev pub n : ApcNo
n = apc 2

abbrev pub ra : RoutineNo
ra = routine 0

abbrev pub rb : RoutineNo
rb = routine 1

abbrev pub k : RoutineNo
k = routine 2

abbrev pub m : RoutineNo
m = routine 3

abbrev pub r : RoutineNo
r = routine 4

-- the script
abbrev pub script : Script
script =
    record plain {
      cpus = 2;
      threads = thread_on 0 ra ∷ thread_on 1 rb ∷ [];
      apcs = user_apc a k m (Some r) ∷ special_apc a k ∷ normal_apc a k m ∷ [];
      routines =
          runs (cmd.InsertApc u ∷ []) ∷
          runs (cmd.Note 0 ∷ cmd.InsertApc s ∷ cmd.InsertApc n ∷ cmd.InsertApc u ∷ cmd.Alert a User ∷ cmd.Release a ∷
          cmd.Note 0 ∷ cmd.Note 0 ∷ cmd.Note 0 ∷ cmd.Note 0 ∷ cmd.InsertApc s ∷ cmd.RemoveApc s ∷
          cmd.Alert a Kernel ∷ cmd.Release a ∷ cmd.InsertApc u ∷ []) ∷
          runs (cmd.Note 1 ∷ []) ∷
          runs (cmd.Note 2 ∷ []) ∷
          runs (cmd.Note 3 ∷ []) ∷
          [];
    }

-- its robin run, the oldest event first
abbrev pub history : List Event
history =
    event 0 (Some a) 0 (Switch a None) ∷
    event 1 (Some b) 0 (Switch b None) ∷
    event 0 (Some a) 0 (Call 0 (cmd.InsertApc u) Yes) ∷
    event 1 (Some b) 0 (Call 1 (cmd.Note 0) Done) ∷
    event 0 (Some a) 0 (End 0) ∷
    event 1 (Some b) 0 (Call 1 (cmd.InsertApc s) No) ∷
    event 0 (Some a) 0 (Flush u 2) ∷
    event 1 (Some b) 0 (Call 1 (cmd.InsertApc n) No) ∷
    event 0 (Some a) 0 (Call 6 (cmd.Note 3) Done) ∷
    event 1 (Some b) 0 (Call 1 (cmd.InsertApc u) No) ∷
    event 0 (Some a) 0 (End 6) ∷
    event 1 (Some b) 0 (Call 1 (cmd.Alert a User) No) ∷
    event 0 (Some a) 0 (Gone a) ∷
    event 1 (Some b) 0 (Call 1 (cmd.Release a) No) ∷
    event 0 None 0 Rest ∷
    event 1 (Some b) 0 (Call 1 (cmd.Note 0) Done) ∷
    event 1 (Some b) 0 (Call 1 (cmd.Note 0) Done) ∷
    event 1 (Some b) 0 (Call 1 (cmd.Note 0) Done) ∷
    event 1 (Some b) 0 (Call 1 (cmd.Note 0) Done) ∷
    event 1 (Some b) 0 (Call 1 (cmd.InsertApc s) No) ∷
    event 1 (Some b) 0 (Call 1 (cmd.RemoveApc s) No) ∷
    event 1 (Some b) 0 (Call 1 (cmd.Alert a Kernel) No) ∷
    event 1 (Some b) 0 (Call 1 (cmd.Release a) No) ∷
    event 1 (Some b) 0 (Call 1 (cmd.InsertApc u) No) ∷
    event 1 (Some b) 0 (End 1) ∷
    event 1 (Some b) 0 (Gone b) ∷
    event 1 None 0 Rest ∷
    []
