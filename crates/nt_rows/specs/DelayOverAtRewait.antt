-- The worked row delay-over-at-rewait: the due time of a delay passes in the APC that interrupts it.
use Rattle.std.specs.Prelude.{List, None, Some, [], false, ◌∷◌}
use Rattle.nt_event.specs.declared.commands.Command.TheVariants as cmd
use Rattle.nt_event.specs.declared.commands.Mode.TheVariants.{Kernel}
use Rattle.nt_event.specs.declared.commands.Reply.TheVariants.{Blocked, Done, Status, Yes}
use Rattle.nt_event.specs.declared.commands.TimerKey.TheVariants.{Delay as OfDelay}
use Rattle.nt_event.specs.declared.events.Begun.TheVariants.{Apc, Int}
use Rattle.nt_event.specs.declared.events.Event.{Event}
use Rattle.nt_event.specs.declared.events.What.TheVariants.{Begin, Call, Clean, End, Expire, Gone, Rest, Rewait, Switch}
use Rattle.nt_event.specs.declared.numbers.ApcNo.{ApcNo}
use Rattle.nt_event.specs.declared.numbers.RoutineNo.{RoutineNo}
use Rattle.nt_event.specs.declared.numbers.ThreadNo.{ThreadNo}
use Rattle.nt_event.specs.declared.scripts.Script.{Script}
use Rattle.nt_event.specs.Numbers.{apc, routine, thread}
use Rattle.nt_rows.specs.Plain.{plain}
use Rattle.nt_rows.specs.Rows.{event, looks, runs, special_apc, thread_on}

abbrev pub a : ThreadNo
a = thread 0

abbrev pub b : ThreadNo
b = thread 1

abbrev pub s : ApcNo
s = apc 0

abbrev pub ra : RoutineNo
ra = routine 0

abbrev pub rb : RoutineNo
rb = routine 1

abbrev pub k : RoutineNo
k = routine 2

-- the script
abbrev pub script : Script
script =
    record plain {
      cpus = 2;
      threads = thread_on 0 ra ∷ thread_on 1 rb ∷ [];
      apcs = special_apc a k ∷ [];
      routines =
          runs (cmd.Delay Kernel false 2 ∷ []) ∷
          runs (cmd.Note 0 ∷ cmd.InsertApc s ∷ []) ∷
          runs (cmd.Clock 2 ∷ []) ∷
          [];
    }

-- its robin run, the oldest event first
abbrev pub history : List Event
history =
    event 0 (Some a) 0 (Switch a None) ∷
    event 1 (Some b) 0 (Switch b None) ∷
    event 0 (Some a) 0 (Call 0 (cmd.Delay Kernel false 2) Blocked) ∷
    event 1 (Some b) 0 (Call 1 (cmd.Note 0) Done) ∷
    event 0 None 0 Rest ∷
    event 1 (Some b) 0 (Call 1 (cmd.InsertApc s) Yes) ∷
    looks 0 ((1, 6) ∷ (2, 6) ∷ []) ∷
    event 1 (Some b) 0 (End 1) ∷
    event 0 None 0 (Clean 2) ∷
    event 1 (Some b) 0 (Gone b) ∷
    event 0 (Some a) 0 (Switch a (Some 256)) ∷
    event 1 None 0 Rest ∷
    event 0 (Some a) 1 (Begin (Apc s) 5) ∷
    event 0 (Some a) 1 (Call 12 (cmd.Clock 2) Done) ∷
    event 0 (Some a) 13 (Begin (Int 13) 13) ∷
    event 0 (Some a) 1 (End 14) ∷
    event 0 (Some a) 1 (Expire (OfDelay a) 2) ∷
    event 0 (Some a) 1 (Clean 2) ∷
    event 0 (Some a) 0 (End 12) ∷
    event 0 (Some a) 0 (Clean 1) ∷
    event 0 (Some a) 0 (Rewait 0 (Status 0)) ∷
    event 0 (Some a) 0 (End 0) ∷
    event 0 (Some a) 0 (Gone a) ∷
    event 0 None 0 Rest ∷
    []
