-- The worked row user-apc-ends-a-wait: a user APC ends a wait, and the next one follows it.
use Rattle.std.specs.Prelude.{List, None, Some, [], false, true, ◌∷◌}
use Rattle.nt_event.specs.declared.commands.Command.TheVariants as cmd
use Rattle.nt_event.specs.declared.commands.Mode.TheVariants.{User}
use Rattle.nt_event.specs.declared.commands.Reply.TheVariants.{Blocked, Done, No, Status, Yes}
use Rattle.nt_event.specs.declared.events.Begun.TheVariants.{Apc}
use Rattle.nt_event.specs.declared.events.Event.{Event}
use Rattle.nt_event.specs.declared.events.What.TheVariants.{Begin, Call, Clean, End, Gone, Normal, Rest, Switch}
use Rattle.nt_event.specs.declared.numbers.ApcNo.{ApcNo}
use Rattle.nt_event.specs.declared.numbers.RoutineNo.{RoutineNo}
use Rattle.nt_event.specs.declared.numbers.ThreadNo.{ThreadNo}
use Rattle.nt_event.specs.declared.scripts.Script.{Script}
use Rattle.nt_event.specs.Numbers.{apc, routine, thread}
use Rattle.nt_rows.specs.Plain.{plain}
use Rattle.nt_rows.specs.Rows.{event, looks, runs, thread_on, user_apc}

abbrev pub a : ThreadNo
a = thread 0

abbrev pub b : ThreadNo
b = thread 1

abbrev pub u : ApcNo
u = apc 0

abbrev pub v : ApcNo
v = apc 1

abbrev pub ra : RoutineNo
ra = routine 0

abbrev pub rb : RoutineNo
rb = routine 1

abbrev pub k : RoutineNo
k = routine 2

abbrev pub m : RoutineNo
m = routine 3

-- the script
abbrev pub script : Script
script =
    record plain {
      cpus = 2;
      threads = thread_on 0 ra ∷ thread_on 1 rb ∷ [];
      apcs = user_apc a k m None ∷ user_apc a k m None ∷ [];
      routines =
          runs (cmd.StartWait User true ∷ cmd.ToUser ∷ cmd.Note 1 ∷ cmd.StartWait User false ∷ cmd.ToUser ∷ []) ∷
          runs (cmd.Note 0 ∷ cmd.Note 0 ∷ cmd.Note 0 ∷ cmd.InsertApc u ∷ cmd.InsertApc v ∷ cmd.Note 0 ∷ cmd.Note 0 ∷
          cmd.Note 0 ∷ cmd.Note 0 ∷ cmd.Note 0 ∷ cmd.Note 0 ∷ cmd.Note 0 ∷ cmd.Note 0 ∷ cmd.Release a ∷ []) ∷
          runs [] ∷
          runs (cmd.Note 2 ∷ []) ∷
          [];
    }

-- its robin run, the oldest event first
abbrev pub history : List Event
history =
    event 0 (Some a) 0 (Switch a None) ∷
    event 1 (Some b) 0 (Switch b None) ∷
    event 0 (Some a) 0 (Call 0 (cmd.StartWait User true) Blocked) ∷
    event 1 (Some b) 0 (Call 1 (cmd.Note 0) Done) ∷
    event 0 None 0 Rest ∷
    event 1 (Some b) 0 (Call 1 (cmd.Note 0) Done) ∷
    event 1 (Some b) 0 (Call 1 (cmd.Note 0) Done) ∷
    event 1 (Some b) 0 (Call 1 (cmd.InsertApc u) Yes) ∷
    looks 0 ((2, 8) ∷ []) ∷
    event 1 (Some b) 0 (Call 1 (cmd.InsertApc v) Yes) ∷
    event 0 None 0 (Clean 2) ∷
    event 1 (Some b) 0 (Call 1 (cmd.Note 0) Done) ∷
    event 0 (Some a) 0 (Switch a (Some 192)) ∷
    event 1 (Some b) 0 (Call 1 (cmd.Note 0) Done) ∷
    event 0 (Some a) 1 (Begin (Apc u) 7) ∷
    event 1 (Some b) 0 (Call 1 (cmd.Note 0) Done) ∷
    event 0 (Some a) 0 (Normal 14) ∷
    event 1 (Some b) 0 (Call 1 (cmd.Note 0) Done) ∷
    event 0 (Some a) 0 (Call 14 (cmd.Note 2) Done) ∷
    event 1 (Some b) 0 (Call 1 (cmd.Note 0) Done) ∷
    event 0 (Some a) 0 (End 14) ∷
    event 1 (Some b) 0 (Call 1 (cmd.Note 0) Done) ∷
    event 0 (Some a) 1 (Begin (Apc v) 9) ∷
    event 1 (Some b) 0 (Call 1 (cmd.Note 0) Done) ∷
    event 0 (Some a) 0 (Normal 22) ∷
    event 1 (Some b) 0 (Call 1 (cmd.Note 0) Done) ∷
    event 0 (Some a) 0 (Call 22 (cmd.Note 2) Done) ∷
    event 1 (Some b) 0 (Call 1 (cmd.Release a) No) ∷
    event 0 (Some a) 0 (End 22) ∷
    event 1 (Some b) 0 (End 1) ∷
    event 0 (Some a) 0 (Call 0 cmd.ToUser Done) ∷
    event 1 (Some b) 0 (Gone b) ∷
    event 0 (Some a) 0 (Call 0 (cmd.Note 1) Done) ∷
    event 1 None 0 Rest ∷
    event 0 (Some a) 0 (Call 0 (cmd.StartWait User false) (Status 0)) ∷
    event 0 (Some a) 0 (Call 0 cmd.ToUser Done) ∷
    event 0 (Some a) 0 (End 0) ∷
    event 0 (Some a) 0 (Gone a) ∷
    event 0 None 0 Rest ∷
    []
