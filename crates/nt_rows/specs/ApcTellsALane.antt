-- The worked row apc-tells-a-lane: an insert of an APC is noticed by the lane of its thread, without a look.
use Rattle.std.specs.Prelude.{List, None, Some, [], ◌∷◌}
use Rattle.nt_event.specs.declared.commands.Command.TheVariants as cmd
use Rattle.nt_event.specs.declared.commands.Mode.TheVariants.{Kernel}
use Rattle.nt_event.specs.declared.commands.Reply.TheVariants.{No, Yes}
use Rattle.nt_event.specs.declared.events.Begun.TheVariants.{Apc}
use Rattle.nt_event.specs.declared.events.Event.{Event}
use Rattle.nt_event.specs.declared.events.Turn.{Turn}
use Rattle.nt_event.specs.declared.events.Turn.TheVariants.{Next, Switch as Take}
use Rattle.nt_event.specs.declared.events.What.TheVariants.{Begin, Call, Switch}
use Rattle.nt_event.specs.declared.numbers.ApcNo.{ApcNo}
use Rattle.nt_event.specs.declared.numbers.RoutineNo.{RoutineNo}
use Rattle.nt_event.specs.declared.numbers.ThreadNo.{ThreadNo}
use Rattle.nt_event.specs.declared.scripts.Script.{Script}
use Rattle.nt_event.specs.Numbers.{apc, cpu, routine, thread}
use Rattle.nt_rows.specs.Plain.{plain}
use Rattle.nt_rows.specs.Rows.{event, runs, special_apc, thread_on}

abbrev pub w : ThreadNo
w = thread 0

abbrev pub x : ThreadNo
x = thread 1

abbrev pub s : ApcNo
s = apc 0

abbrev pub rw : RoutineNo
rw = routine 0

abbrev pub rx : RoutineNo
rx = routine 1

abbrev pub q : RoutineNo
q = routine 2

-- the script
abbrev pub script : Script
script =
    record plain {
      cpus = 2;
      threads = thread_on 0 rw ∷ thread_on 1 rx ∷ [];
      apcs = special_apc w q ∷ [];
      routines =
          runs (cmd.TestAlert Kernel ∷ cmd.Note 1 ∷ []) ∷
          runs (cmd.InsertApc s ∷ []) ∷
          runs [] ∷
          [];
    }

-- the turns, in order: no look is among them
abbrev pub schedule : List Turn
schedule = Take (cpu 0) w ∷ Take (cpu 1) x ∷ Next (cpu 1) ∷ Next (cpu 0) ∷ Next (cpu 0) ∷ []

-- what they make, the oldest event first
abbrev pub history : List Event
history =
    event 0 (Some w) 0 (Switch w None) ∷
    event 1 (Some x) 0 (Switch x None) ∷
    event 1 (Some x) 0 (Call 1 (cmd.InsertApc s) Yes) ∷
    event 0 (Some w) 0 (Call 0 (cmd.TestAlert Kernel) No) ∷
    event 0 (Some w) 1 (Begin (Apc s) 2) ∷
    []
