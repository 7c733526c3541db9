-- The worked row wait-interrupted-again: a wait that is taken up is interrupted by another kernel APC.
use Rattle.std.specs.Prelude.{List, None, Some, [], true, ◌∷◌}
use Rattle.nt_event.specs.declared.commands.Command.TheVariants as cmd
use Rattle.nt_event.specs.declared.commands.Mode.TheVariants.{User}
use Rattle.nt_event.specs.declared.commands.Reply.TheVariants.{Blocked, Done, No, Status, Yes}
use Rattle.nt_event.specs.declared.events.Begun.TheVariants.{Apc}
use Rattle.nt_event.specs.declared.events.Event.{Event}
use Rattle.nt_event.specs.declared.events.Turn.{Turn}
use Rattle.nt_event.specs.declared.events.Turn.TheVariants.{Next, Switch as Take}
use Rattle.nt_event.specs.declared.events.What.TheVariants.{Begin, Call, Clean, End, Gone, Rest, Rewait, Switch}
use Rattle.nt_event.specs.declared.numbers.ApcNo.{ApcNo}
use Rattle.nt_event.specs.declared.numbers.RoutineNo.{RoutineNo}
use Rattle.nt_event.specs.declared.numbers.ThreadNo.{ThreadNo}
use Rattle.nt_event.specs.declared.scripts.Script.{Script}
use Rattle.nt_event.specs.Numbers.{apc, cpu, routine, thread}
use Rattle.nt_rows.specs.Plain.{plain}
use Rattle.nt_rows.specs.Rows.{event, runs, special_apc, thread_on}

abbrev pub a : ThreadNo
a = thread 0

abbrev pub b : ThreadNo
b = thread 1

abbrev pub s1 : ApcNo
s1 = apc 0

abbrev pub s2 : ApcNo
s2 = apc 1

abbrev pub ra : RoutineNo
ra = routine 0

abbrev pub rb : RoutineNo
rb = routine 1

abbrev pub k : RoutineNo
k = routine 2

abbrev pub q : RoutineNo
q = routine 3

-- the script
abbrev pub script : Script
script =
    record plain {
      cpus = 2;
      threads = thread_on 0 ra ∷ thread_on 1 rb ∷ [];
      apcs = special_apc a k ∷ special_apc a q ∷ [];
      routines =
          runs (cmd.StartWait User true ∷ []) ∷
          runs (cmd.InsertApc s1 ∷ cmd.Note 1 ∷ cmd.InsertApc s2 ∷ cmd.Release a ∷ []) ∷
          runs (cmd.Note 2 ∷ []) ∷
          runs [] ∷
          [];
    }

-- the turns, in order
abbrev pub schedule : List Turn
schedule =
    Take (cpu 0) a ∷ Next (cpu 0) ∷ Next (cpu 0) ∷ Take (cpu 1) b ∷ Next (cpu 1) ∷ Take (cpu 0) a ∷ Next (cpu 0) ∷
    Next (cpu 0) ∷ Next (cpu 0) ∷ Next (cpu 0) ∷ Next (cpu 0) ∷ Next (cpu 1) ∷ Next (cpu 1) ∷ Next (cpu 0) ∷
    Next (cpu 0) ∷ Next (cpu 0) ∷ Next (cpu 1) ∷ Next (cpu 1) ∷ Next (cpu 0) ∷ Next (cpu 0) ∷ Next (cpu 0) ∷
    Next (cpu 1) ∷ Next (cpu 1) ∷ Next (cpu 0) ∷ Next (cpu 0) ∷ []

-- what they make, the oldest event first
abbrev pub history : List Event
history =
    event 0 (Some a) 0 (Switch a None) ∷
    event 0 (Some a) 0 (Call 0 (cmd.StartWait User true) Blocked) ∷
    event 0 None 0 Rest ∷
    event 1 (Some b) 0 (Switch b None) ∷
    event 1 (Some b) 0 (Call 3 (cmd.InsertApc s1) Yes) ∷
    event 0 (Some a) 0 (Switch a (Some 256)) ∷
    event 0 (Some a) 0 (Clean 2) ∷
    event 0 (Some a) 1 (Begin (Apc s1) 4) ∷
    event 0 (Some a) 1 (Call 7 (cmd.Note 2) Done) ∷
    event 0 (Some a) 0 (End 7) ∷
    event 0 (Some a) 0 (Clean 1) ∷
    event 1 (Some b) 0 (Call 3 (cmd.Note 1) Done) ∷
    event 1 (Some b) 0 (Call 3 (cmd.InsertApc s2) Yes) ∷
    event 0 (Some a) 0 (Rewait 0 (Status 256)) ∷
    event 0 (Some a) 1 (Begin (Apc s2) 12) ∷
    event 0 (Some a) 0 (End 14) ∷
    event 1 (Some b) 0 (Call 3 (cmd.Release a) No) ∷
    event 1 (Some b) 0 (End 3) ∷
    event 0 (Some a) 0 (Clean 1) ∷
    event 0 (Some a) 0 (Rewait 0 (Status 0)) ∷
    event 0 (Some a) 0 (End 0) ∷
    event 1 (Some b) 0 (Gone b) ∷
    event 1 None 0 Rest ∷
    event 0 (Some a) 0 (Gone a) ∷
    event 0 None 0 Rest ∷
    []
