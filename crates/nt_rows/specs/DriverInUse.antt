-- The worked row driver-in-use.
use Rattle.std.specs.Prelude.{List, None, Some, [], false, ◌∷◌}
use Rattle.nt_event.specs.declared.commands.Command.TheVariants as cmd
use Rattle.nt_event.specs.declared.commands.Mode.TheVariants.{Kernel}
use Rattle.nt_event.specs.declared.commands.Reply.TheVariants.{Blocked, Done, No, Status, Yes}
use Rattle.nt_event.specs.declared.events.Begun.TheVariants.{Apc, Dpc, Int}
use Rattle.nt_event.specs.declared.events.Event.{Event}
use Rattle.nt_event.specs.declared.events.What.TheVariants.{Begin, Call, Clean, End, Gone, Rest, Rewait, Switch}
use Rattle.nt_event.specs.declared.numbers.ApcNo.{ApcNo}
use Rattle.nt_event.specs.declared.numbers.DpcNo.{DpcNo}
use Rattle.nt_event.specs.declared.numbers.RoutineNo.{RoutineNo}
use Rattle.nt_event.specs.declared.numbers.ThreadNo.{ThreadNo}
use Rattle.nt_event.specs.declared.numbers.TimerNo.{TimerNo}
use Rattle.nt_event.specs.declared.scripts.Script.{Script}
use Rattle.nt_event.specs.Numbers.{apc, cpu, dpc, routine, thread, timer}
use Rattle.nt_rows.specs.Plain.{plain}
use Rattle.nt_rows.specs.Rows.{event, looks, runs, special_apc, thread_on}

abbrev pub d : DpcNo
d = dpc 0

abbrev pub late : DpcNo
late = dpc 1

abbrev pub limit : TimerNo
limit = timer 0

abbrev pub req : ThreadNo
req = thread 0

abbrev pub dev : ThreadNo
dev = thread 1

abbrev pub complete : ApcNo
complete = apc 0

abbrev pub isr5 : RoutineNo
isr5 = routine 0

abbrev pub finish : RoutineNo
finish = routine 1

abbrev pub expired : RoutineNo
expired = routine 2

abbrev pub request : RoutineNo
request = routine 3

abbrev pub completed : RoutineNo
completed = routine 4

abbrev pub device : RoutineNo
device = routine 5

-- the script
abbrev pub script : Script
script =
    record plain {
      cpus = 2;
      isrs = record { cpu = cpu 0; level = 5; routine = isr5 } ∷ [];
      dpcs = record { threaded = false; routine = finish } ∷ record { threaded = false; routine = expired } ∷ [];
      timers = record { dpc = Some late } ∷ [];
      threads = thread_on 1 request ∷ thread_on 0 device ∷ [];
      apcs = special_apc req completed ∷ [];
      routines =
          runs (cmd.Queue d ∷ []) ∷
          runs (cmd.InsertApc complete ∷ cmd.CancelTimer limit ∷ cmd.Release req ∷ []) ∷
          runs (cmd.Note 99 ∷ []) ∷
          runs (cmd.SetTimer limit 100 0 ∷ cmd.StartWait Kernel false ∷ cmd.Note 1 ∷ []) ∷
          runs (cmd.Note 2 ∷ []) ∷
          runs (cmd.SetTarget d (Some (cpu 1)) ∷ cmd.Interrupt (cpu 0) 5 ∷ cmd.Clock 5 ∷ []) ∷
          [];
    }

-- its robin run, the oldest event first
abbrev pub history : List Event
history =
    event 0 (Some dev) 0 (Switch dev None) ∷
    event 1 (Some req) 0 (Switch req None) ∷
    event 0 (Some dev) 0 (Call 0 (cmd.SetTarget d (Some (cpu 1))) Done) ∷
    event 1 (Some req) 0 (Call 1 (cmd.SetTimer limit 100 0) No) ∷
    event 0 (Some dev) 0 (Call 0 (cmd.Interrupt (cpu 0) 5) Done) ∷
    event 1 (Some req) 0 (Call 1 (cmd.StartWait Kernel false) Blocked) ∷
    event 0 (Some dev) 5 (Begin (Int 5) 4) ∷
    event 1 None 0 Rest ∷
    event 0 (Some dev) 5 (Call 6 (cmd.Queue d) Yes) ∷
    looks 1 ((2, 9) ∷ []) ∷
    event 0 (Some dev) 0 (End 6) ∷
    event 1 None 2 (Begin (Dpc d) 8) ∷
    event 0 (Some dev) 0 (Call 0 (cmd.Clock 5) Done) ∷
    event 1 None 2 (Call 11 (cmd.InsertApc complete) Yes) ∷
    event 0 (Some dev) 13 (Begin (Int 13) 12) ∷
    event 1 None 2 (Call 11 (cmd.CancelTimer limit) Yes) ∷
    event 0 (Some dev) 0 (End 14) ∷
    event 1 None 2 (Call 11 (cmd.Release req) No) ∷
    event 0 (Some dev) 0 (Clean 2) ∷
    event 1 None 0 (End 11) ∷
    event 0 (Some dev) 0 (End 0) ∷
    event 1 None 0 (Clean 2) ∷
    event 0 (Some dev) 0 (Gone dev) ∷
    event 1 (Some req) 0 (Switch req (Some 256)) ∷
    event 0 None 0 Rest ∷
    event 1 (Some req) 1 (Begin (Apc complete) 13) ∷
    event 1 (Some req) 1 (Call 25 (cmd.Note 2) Done) ∷
    event 1 (Some req) 0 (End 25) ∷
    event 1 (Some req) 0 (Clean 1) ∷
    event 1 (Some req) 0 (Rewait 1 (Status 0)) ∷
    event 1 (Some req) 0 (Call 1 (cmd.Note 1) Done) ∷
    event 1 (Some req) 0 (End 1) ∷
    event 1 (Some req) 0 (Gone req) ∷
    event 1 None 0 Rest ∷
    []
