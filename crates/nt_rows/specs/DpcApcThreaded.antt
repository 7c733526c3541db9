-- The worked row dpc-apc-threaded: all three are due at once.
use Rattle.std.specs.Prelude.{List, None, Some, [], false, true, ◌∷◌}
use Rattle.nt_event.specs.declared.commands.Command.TheVariants as cmd
use Rattle.nt_event.specs.declared.commands.Reply.TheVariants.{Done, Yes}
use Rattle.nt_event.specs.declared.events.Begun.TheVariants.{Apc, Dpc, Threaded}
use Rattle.nt_event.specs.declared.events.Event.{Event}
use Rattle.nt_event.specs.declared.events.What.TheVariants.{Begin, Call, Clean, End, Gone, Rest, Switch}
use Rattle.nt_event.specs.declared.numbers.ApcNo.{ApcNo}
use Rattle.nt_event.specs.declared.numbers.DpcNo.{DpcNo}
use Rattle.nt_event.specs.declared.numbers.RoutineNo.{RoutineNo}
use Rattle.nt_event.specs.declared.numbers.ThreadNo.{ThreadNo}
use Rattle.nt_event.specs.declared.scripts.Script.{Script}
use Rattle.nt_event.specs.Numbers.{apc, dpc, routine, thread}
use Rattle.nt_rows.specs.Plain.{plain}
use Rattle.nt_rows.specs.Rows.{event, runs, special_apc, thread_on}

abbrev pub main : ThreadNo
main = thread 0

abbrev pub d : DpcNo
d = dpc 0

abbrev pub w : DpcNo
w = dpc 1

abbrev pub s : ApcNo
s = apc 0

abbrev pub body : RoutineNo
body = routine 0

abbrev pub q : RoutineNo
q = routine 1

abbrev pub qw : RoutineNo
qw = routine 2

-- the script
abbrev pub script : Script
script =
    record plain {
      dpcs = record { threaded = false; routine = q } ∷ record { threaded = true; routine = qw } ∷ [];
      threads = thread_on 0 body ∷ [];
      apcs = special_apc main q ∷ [];
      routines =
          runs (cmd.Raise 2 ∷ cmd.Queue d ∷ cmd.Queue w ∷ cmd.InsertApc s ∷ cmd.Lower 0 ∷ []) ∷
          runs [] ∷
          runs (cmd.Raise 1 ∷ []) ∷
          [];
    }

-- its robin run, the oldest event first
abbrev pub history : List Event
history =
    event 0 (Some main) 0 (Switch main None) ∷
    event 0 (Some main) 2 (Call 0 (cmd.Raise 2) Done) ∷
    event 0 (Some main) 2 (Call 0 (cmd.Queue d) Yes) ∷
    event 0 (Some main) 2 (Call 0 (cmd.Queue w) Yes) ∷
    event 0 (Some main) 2 (Call 0 (cmd.InsertApc s) Yes) ∷
    event 0 (Some main) 0 (Call 0 (cmd.Lower 0) Done) ∷
    event 0 (Some main) 2 (Begin (Dpc d) 2) ∷
    event 0 (Some main) 0 (End 6) ∷
    event 0 (Some main) 0 (Clean 2) ∷
    event 0 (Some main) 1 (Begin (Apc s) 4) ∷
    event 0 (Some main) 0 (End 9) ∷
    event 0 (Some main) 0 (Clean 1) ∷
    event 0 (Some main) 0 (Begin (Threaded w) 3) ∷
    event 0 (Some main) 1 (Call 12 (cmd.Raise 1) Done) ∷
    event 0 (Some main) 0 (End 12) ∷
    event 0 (Some main) 0 (Clean 0) ∷
    event 0 (Some main) 0 (End 0) ∷
    event 0 (Some main) 0 (Gone main) ∷
    event 0 None 0 Rest ∷
    []
