-- The worked row apcs-wait-for-a-lock: kernel APCs of a thread that holds a lock.
use Rattle.std.specs.Prelude.{List, None, Some, [], false, ◌∷◌}
use Rattle.nt_event.specs.declared.commands.Command.TheVariants as cmd
use Rattle.nt_event.specs.declared.commands.Mode.TheVariants.{Kernel}
use Rattle.nt_event.specs.declared.commands.Refusal.TheVariants.{TooHigh}
use Rattle.nt_event.specs.declared.commands.Reply.TheVariants.{Done, Refused, Yes}
use Rattle.nt_event.specs.declared.events.Begun.TheVariants.{Apc}
use Rattle.nt_event.specs.declared.events.Event.{Event}
use Rattle.nt_event.specs.declared.events.What.TheVariants.{Begin, Call, Clean, End, Free, Gone, Normal, Rest, Switch}
use Rattle.nt_event.specs.declared.numbers.ApcNo.{ApcNo}
use Rattle.nt_event.specs.declared.numbers.LockNo.{LockNo}
use Rattle.nt_event.specs.declared.numbers.RoutineNo.{RoutineNo}
use Rattle.nt_event.specs.declared.numbers.ThreadNo.{ThreadNo}
use Rattle.nt_event.specs.declared.scripts.Script.{Script}
use Rattle.nt_event.specs.Numbers.{apc, lock, routine, thread}
use Rattle.nt_rows.specs.Plain.{plain}
use Rattle.nt_rows.specs.Rows.{event, normal_apc, runs, special_apc, thread_on}

abbrev pub a : ThreadNo
a = thread 0

abbrev pub s : ApcNo
s = apc 0

abbrev pub n : ApcNo
n = apc 1

abbrev pub k : LockNo
k = lock 0

abbrev pub ra : RoutineNo
ra = routine 0

abbrev pub rk : RoutineNo
rk = routine 1

abbrev pub rm : RoutineNo
rm = routine 2

abbrev pub q : RoutineNo
q = routine 3

-- the script
abbrev pub script : Script
script =
    record plain {
      threads = thread_on 0 ra ∷ [];
      apcs = special_apc a rk ∷ normal_apc a q rm ∷ [];
      routines =
          runs (cmd.Acquire k ∷ cmd.InsertApc s ∷ cmd.InsertApc n ∷ cmd.EnterCrit ∷
          cmd.StartWait Kernel false ∷ cmd.Unlock k ∷ []) ∷
          runs (cmd.Acquire k ∷ cmd.Note 1 ∷ []) ∷
          runs (cmd.Acquire k ∷ cmd.Unlock k ∷ cmd.Note 2 ∷ []) ∷
          runs [] ∷
          [];
      locks = 1;
    }

-- its robin run, the oldest event first
abbrev pub history : List Event
history =
    event 0 (Some a) 0 (Switch a None) ∷
    event 0 (Some a) 2 (Call 0 (cmd.Acquire k) Done) ∷
    event 0 (Some a) 2 (Call 0 (cmd.InsertApc s) Yes) ∷
    event 0 (Some a) 2 (Call 0 (cmd.InsertApc n) Yes) ∷
    event 0 (Some a) 2 (Call 0 cmd.EnterCrit (Refused TooHigh)) ∷
    event 0 (Some a) 2 (Call 0 (cmd.StartWait Kernel false) (Refused TooHigh)) ∷
    event 0 (Some a) 0 (Call 0 (cmd.Unlock k) Done) ∷
    event 0 (Some a) 1 (Begin (Apc s) 2) ∷
    event 0 (Some a) 2 (Call 7 (cmd.Acquire k) Done) ∷
    event 0 (Some a) 2 (Call 7 (cmd.Note 1) Done) ∷
    event 0 (Some a) 1 (Free 7 k) ∷
    event 0 (Some a) 0 (End 7) ∷
    event 0 (Some a) 1 (Begin (Apc n) 3) ∷
    event 0 (Some a) 0 (Normal 12) ∷
    event 0 (Some a) 0 (Clean 1) ∷
    event 0 (Some a) 2 (Call 12 (cmd.Acquire k) Done) ∷
    event 0 (Some a) 0 (Call 12 (cmd.Unlock k) Done) ∷
    event 0 (Some a) 0 (Call 12 (cmd.Note 2) Done) ∷
    event 0 (Some a) 0 (End 12) ∷
    event 0 (Some a) 0 (Clean 1) ∷
    event 0 (Some a) 0 (End 0) ∷
    event 0 (Some a) 0 (Gone a) ∷
    event 0 None 0 Rest ∷
    []
