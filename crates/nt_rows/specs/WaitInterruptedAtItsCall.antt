-- The worked row wait-interrupted-at-its-call: a wait is interrupted by a kernel APC before it blocks.
use Rattle.std.specs.Prelude.{List, None, Some, [], false, ◌∷◌}
use Rattle.nt_event.specs.declared.commands.Command.TheVariants as cmd
use Rattle.nt_event.specs.declared.commands.Mode.TheVariants.{Kernel}
use Rattle.nt_event.specs.declared.commands.Reply.TheVariants.{No, Status, Yes}
use Rattle.nt_event.specs.declared.events.Begun.TheVariants.{Apc}
use Rattle.nt_event.specs.declared.events.Event.{Event}
use Rattle.nt_event.specs.declared.events.Turn.{Turn}
use Rattle.nt_event.specs.declared.events.Turn.TheVariants.{Next, Switch as Take}
use Rattle.nt_event.specs.declared.events.What.TheVariants.{Begin, Call, Clean, End, Gone, Rest, Rewait, Switch}
use Rattle.nt_event.specs.declared.numbers.ApcNo.{ApcNo}
use Rattle.nt_event.specs.declared.numbers.RoutineNo.{RoutineNo}
use Rattle.nt_event.specs.declared.numbers.ThreadNo.{ThreadNo}
use Rattle.nt_event.specs.declared.scripts.Script.{Script}
use Rattle.nt_event.specs.Numbers.{apc, cpu, routine, thread}
use Rattle.nt_rows.specs.Plain.{plain}
use Rattle.nt_rows.specs.Rows.{event, runs, special_apc, thread_on}

abbrev pub a : ThreadNo
a = thread 0

abbrev pub b : ThreadNo
b = thread 1

abbrev pub s : ApcNo
s = apc 0

abbrev pub ra : RoutineNo
ra = routine 0

abbrev pub rb : RoutineNo
rb = routine 1

abbrev pub q : RoutineNo
q = routine 2

-- the script
abbrev pub script : Script
script =
    record plain {
      cpus = 2;
      threads = thread_on 0 ra ∷ thread_on 1 rb ∷ [];
      apcs = special_apc a q ∷ [];
      routines =
          runs (cmd.StartWait Kernel false ∷ []) ∷
          runs (cmd.InsertApc s ∷ cmd.Release a ∷ []) ∷
          runs [] ∷
          [];
    }

-- the turns, in order
abbrev pub schedule : List Turn
schedule =
    Take (cpu 0) a ∷ Take (cpu 1) b ∷ Next (cpu 1) ∷ Next (cpu 1) ∷ Next (cpu 1) ∷ Next (cpu 1) ∷ Next (cpu 1) ∷
    Next (cpu 0) ∷ Next (cpu 0) ∷ Next (cpu 0) ∷ Next (cpu 0) ∷ Next (cpu 0) ∷ Next (cpu 0) ∷ Next (cpu 0) ∷
    Next (cpu 0) ∷ []

-- what they make, the oldest event first
abbrev pub history : List Event
history =
    event 0 (Some a) 0 (Switch a None) ∷
    event 1 (Some b) 0 (Switch b None) ∷
    event 1 (Some b) 0 (Call 1 (cmd.InsertApc s) Yes) ∷
    event 1 (Some b) 0 (Call 1 (cmd.Release a) No) ∷
    event 1 (Some b) 0 (End 1) ∷
    event 1 (Some b) 0 (Gone b) ∷
    event 1 None 0 Rest ∷
    event 0 (Some a) 0 (Call 0 (cmd.StartWait Kernel false) (Status 256)) ∷
    event 0 (Some a) 1 (Begin (Apc s) 2) ∷
    event 0 (Some a) 0 (End 8) ∷
    event 0 (Some a) 0 (Clean 1) ∷
    event 0 (Some a) 0 (Rewait 0 (Status 0)) ∷
    event 0 (Some a) 0 (End 0) ∷
    event 0 (Some a) 0 (Gone a) ∷
    event 0 None 0 Rest ∷
    []
