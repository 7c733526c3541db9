-- The worked row unqueue-tells-a-lane: a removal touches the queue where the object stood, and an ask is noticed by it.
use Rattle.std.specs.Prelude.{List, None, Some, [], false, true, ◌∷◌}
use Rattle.nt_event.specs.declared.commands.Command.TheVariants as cmd
use Rattle.nt_event.specs.declared.commands.Importance.TheVariants.{Low}
use Rattle.nt_event.specs.declared.commands.Reply.TheVariants.{Done, Yes}
use Rattle.nt_event.specs.declared.events.Begun.TheVariants.{Threaded}
use Rattle.nt_event.specs.declared.events.Event.{Event}
use Rattle.nt_event.specs.declared.events.Turn.{Turn}
use Rattle.nt_event.specs.declared.events.Turn.TheVariants.{Next, Switch as Take}
use Rattle.nt_event.specs.declared.events.What.TheVariants.{Begin, Call, Switch}
use Rattle.nt_event.specs.declared.numbers.DpcNo.{DpcNo}
use Rattle.nt_event.specs.declared.numbers.RoutineNo.{RoutineNo}
use Rattle.nt_event.specs.declared.numbers.ThreadNo.{ThreadNo}
use Rattle.nt_event.specs.declared.scripts.Script.{Script}
use Rattle.nt_event.specs.Numbers.{cpu, dpc, routine, thread}
use Rattle.nt_rows.specs.Plain.{plain}
use Rattle.nt_rows.specs.Rows.{event, runs, thread_on}

abbrev pub a : ThreadNo
a = thread 0

abbrev pub b : ThreadNo
b = thread 1

abbrev pub d : DpcNo
d = dpc 0

abbrev pub v : DpcNo
v = dpc 1

abbrev pub q : RoutineNo
q = routine 0

abbrev pub ra : RoutineNo
ra = routine 1

abbrev pub rb : RoutineNo
rb = routine 2

-- the script
abbrev pub script : Script
script =
    record plain {
      cpus = 2;
      dpcs = record { threaded = false; routine = q } ∷ record { threaded = true; routine = q } ∷ [];
      threads = thread_on 0 ra ∷ thread_on 1 rb ∷ [];
      routines =
          runs [] ∷
          runs (cmd.SetTarget v (Some (cpu 1)) ∷ cmd.Queue v ∷ []) ∷
          runs (cmd.SetImportance d Low ∷ cmd.Queue d ∷ cmd.Unqueue d ∷ cmd.Note 1 ∷ []) ∷
          [];
    }

-- the turns, in order: no look is among them
abbrev pub schedule : List Turn
schedule =
    Take (cpu 0) a ∷ Take (cpu 1) b ∷ Next (cpu 1) ∷ Next (cpu 1) ∷ Next (cpu 0) ∷ Next (cpu 0) ∷ Next (cpu 1) ∷
    Next (cpu 1) ∷ []

-- what they make, the oldest event first
abbrev pub history : List Event
history =
    event 0 (Some a) 0 (Switch a None) ∷
    event 1 (Some b) 0 (Switch b None) ∷
    event 1 (Some b) 0 (Call 1 (cmd.SetImportance d Low) Done) ∷
    event 1 (Some b) 0 (Call 1 (cmd.Queue d) Yes) ∷
    event 0 (Some a) 0 (Call 0 (cmd.SetTarget v (Some (cpu 1))) Done) ∷
    event 0 (Some a) 0 (Call 0 (cmd.Queue v) Yes) ∷
    event 1 (Some b) 0 (Call 1 (cmd.Unqueue d) Yes) ∷
    event 1 (Some b) 0 (Begin (Threaded v) 5) ∷
    []
