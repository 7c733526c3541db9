-- The worked row marks-cleared: what a delay and the beginning of a user APC leave of the marks.
use Rattle.std.specs.Prelude.{List, None, Some, [], false, true, ◌∷◌}
use Rattle.nt_event.specs.declared.commands.Command.TheVariants as cmd
use Rattle.nt_event.specs.declared.commands.Mode.TheVariants.{Kernel, User}
use Rattle.nt_event.specs.declared.commands.Reply.TheVariants.{Blocked, Done, No, Status, Yes}
use Rattle.nt_event.specs.declared.events.Begun.TheVariants.{Apc}
use Rattle.nt_event.specs.declared.events.Event.{Event}
use Rattle.nt_event.specs.declared.events.What.TheVariants.{Begin, Call, End, Normal, Rest, Switch}
use Rattle.nt_event.specs.declared.numbers.ApcNo.{ApcNo}
use Rattle.nt_event.specs.declared.numbers.RoutineNo.{RoutineNo}
use Rattle.nt_event.specs.declared.numbers.ThreadNo.{ThreadNo}
use Rattle.nt_event.specs.declared.scripts.Script.{Script}
use Rattle.nt_event.specs.Numbers.{apc, routine, thread}
use Rattle.nt_rows.specs.Plain.{plain}
use Rattle.nt_rows.specs.Rows.{event, runs, thread_on, user_apc}

abbrev pub a : ThreadNo
a = thread 0

abbrev pub u : ApcNo
u = apc 0

abbrev pub ra : RoutineNo
ra = routine 0

abbrev pub k : RoutineNo
k = routine 1

-- the script
abbrev pub script : Script
script =
    record plain {
      threads = thread_on 0 ra ∷ [];
      apcs = user_apc a k k None ∷ [];
      routines =
          runs (cmd.Release a ∷ cmd.Delay Kernel false 0 ∷ cmd.StartWait Kernel false ∷ cmd.InsertApc u ∷
          cmd.StartWait User true ∷ cmd.ToUser ∷ cmd.StartWait User false ∷ []) ∷
          runs [] ∷
          [];
    }

-- its robin run, the oldest event first
abbrev pub history : List Event
history =
    event 0 (Some a) 0 (Switch a None) ∷
    event 0 (Some a) 0 (Call 0 (cmd.Release a) No) ∷
    event 0 (Some a) 0 (Call 0 (cmd.Delay Kernel false 0) (Status 0)) ∷
    event 0 (Some a) 0 (Call 0 (cmd.StartWait Kernel false) (Status 0)) ∷
    event 0 (Some a) 0 (Call 0 (cmd.InsertApc u) Yes) ∷
    event 0 (Some a) 0 (Call 0 (cmd.StartWait User true) (Status 192)) ∷
    event 0 (Some a) 1 (Begin (Apc u) 4) ∷
    event 0 (Some a) 0 (Normal 6) ∷
    event 0 (Some a) 0 (End 6) ∷
    event 0 (Some a) 0 (Call 0 cmd.ToUser Done) ∷
    event 0 (Some a) 0 (Call 0 (cmd.StartWait User false) Blocked) ∷
    event 0 None 0 Rest ∷
    []
