-- The worked row delay.
use Rattle.std.specs.Prelude.{List, None, Some, [], false, ◌∷◌}
use Rattle.nt_event.specs.declared.commands.Command.TheVariants.{Clock, Delay}
use Rattle.nt_event.specs.declared.commands.Mode.TheVariants.{Kernel}
use Rattle.nt_event.specs.declared.commands.Reply.TheVariants.{Blocked, Done}
use Rattle.nt_event.specs.declared.commands.TimerKey.TheVariants.{Delay as OfDelay}
use Rattle.nt_event.specs.declared.events.Begun.TheVariants.{Int}
use Rattle.nt_event.specs.declared.events.Event.{Event}
use Rattle.nt_event.specs.declared.events.What.TheVariants.{Begin, Call, Clean, End, Expire, Gone, Rest, Switch}
use Rattle.nt_event.specs.declared.numbers.RoutineNo.{RoutineNo}
use Rattle.nt_event.specs.declared.numbers.ThreadNo.{ThreadNo}
use Rattle.nt_event.specs.declared.scripts.Script.{Script}
use Rattle.nt_event.specs.Numbers.{routine, thread}
use Rattle.nt_rows.specs.Plain.{plain}
use Rattle.nt_rows.specs.Rows.{event, runs, thread_on}

abbrev pub main : ThreadNo
main = thread 0

abbrev pub clk : ThreadNo
clk = thread 1

abbrev pub m : RoutineNo
m = routine 0

abbrev pub c : RoutineNo
c = routine 1

-- the script
abbrev pub script : Script
script =
    record plain {
      threads = thread_on 0 m ∷ thread_on 0 c ∷ [];
      routines =
          runs (Delay Kernel false 3 ∷ []) ∷
          runs (Clock 3 ∷ []) ∷
          [];
    }

-- its robin run, the oldest event first
abbrev pub history : List Event
history =
    event 0 (Some main) 0 (Switch main None) ∷
    event 0 (Some main) 0 (Call 0 (Delay Kernel false 3) Blocked) ∷
    event 0 (Some clk) 0 (Switch clk None) ∷
    event 0 (Some clk) 0 (Call 2 (Clock 3) Done) ∷
    event 0 (Some clk) 13 (Begin (Int 13) 3) ∷
    event 0 (Some clk) 0 (End 4) ∷
    event 0 (Some clk) 0 (Expire (OfDelay main) 1) ∷
    event 0 (Some clk) 0 (Clean 2) ∷
    event 0 (Some clk) 0 (End 2) ∷
    event 0 (Some clk) 0 (Gone clk) ∷
    event 0 (Some main) 0 (Switch main (Some 0)) ∷
    event 0 (Some main) 0 (End 0) ∷
    event 0 (Some main) 0 (Gone main) ∷
    event 0 None 0 Rest ∷
    []
