-- The worked row delay-of-user-mode: delays that a user APC, a kernel APC and the clock end, and no release.
use Rattle.std.specs.Prelude.{List, None, Some, [], false, true, ◌∷◌}
use Rattle.nt_event.specs.declared.commands.Command.TheVariants as cmd
use Rattle.nt_event.specs.declared.commands.Mode.TheVariants.{User}
use Rattle.nt_event.specs.declared.commands.Reply.TheVariants.{Blocked, Done, No, Status, Yes}
use Rattle.nt_event.specs.declared.commands.TimerKey.TheVariants.{Delay as OfDelay}
use Rattle.nt_event.specs.declared.events.Begun.TheVariants.{Apc, Int}
use Rattle.nt_event.specs.declared.events.Event.{Event}
use Rattle.nt_event.specs.declared.events.What.TheVariants.{
  Begin,
  Call,
  Clean,
  End,
  Expire,
  Gone,
  Normal,
  Rest,
  Rewait,
  Switch,
}
use Rattle.nt_event.specs.declared.numbers.ApcNo.{ApcNo}
use Rattle.nt_event.specs.declared.numbers.RoutineNo.{RoutineNo}
use Rattle.nt_event.specs.declared.numbers.ThreadNo.{ThreadNo}
use Rattle.nt_event.specs.declared.scripts.Script.{Script}
use Rattle.nt_event.specs.Numbers.{apc, routine, thread}
use Rattle.nt_rows.specs.Plain.{plain}
use Rattle.nt_rows.specs.Rows.{event, looks, runs, special_apc, thread_on, user_apc}

abbrev pub a : ThreadNo
a = thread 0

abbrev pub b : ThreadNo
b = thread 1

abbrev pub u : ApcNo
u = apc 0

abbrev pub s : ApcNo
s = apc 1

abbrev pub ra : RoutineNo
ra = routine 0

abbrev pub rb : RoutineNo
rb = routine 1

abbrev pub k : RoutineNo
k = routine 2

abbrev pub m : RoutineNo
m = routine 3

-- the script
abbrev pub script : Script
script =
    record plain {
      cpus = 2;
      threads = thread_on 0 ra ∷ thread_on 1 rb ∷ [];
      apcs = user_apc a k m None ∷ special_apc a k ∷ [];
      routines =
          runs (cmd.Delay User true 0 ∷ cmd.Delay User true 50 ∷ cmd.ToUser ∷ cmd.Delay User true 10 ∷
          cmd.Delay User false 10 ∷ []) ∷
          runs (cmd.Note 0 ∷ cmd.Note 0 ∷ cmd.InsertApc u ∷ cmd.Clock 5 ∷ cmd.Note 0 ∷ cmd.Note 0 ∷ cmd.Note 0 ∷
          cmd.Note 0 ∷ cmd.InsertApc s ∷ cmd.Clock 4 ∷ cmd.Note 0 ∷ cmd.Note 0 ∷ cmd.Note 0 ∷ cmd.Note 0 ∷
          cmd.Release a ∷ cmd.Clock 2 ∷ cmd.Clock 60 ∷ []) ∷
          runs [] ∷
          runs (cmd.Note 2 ∷ []) ∷
          [];
    }

-- its robin run, the oldest event first
abbrev pub history : List Event
history =
    event 0 (Some a) 0 (Switch a None) ∷
    event 1 (Some b) 0 (Switch b None) ∷
    event 0 (Some a) 0 (Call 0 (cmd.Delay User true 0) (Status 0)) ∷
    event 1 (Some b) 0 (Call 1 (cmd.Note 0) Done) ∷
    event 0 (Some a) 0 (Call 0 (cmd.Delay User true 50) Blocked) ∷
    event 1 (Some b) 0 (Call 1 (cmd.Note 0) Done) ∷
    event 0 None 0 Rest ∷
    event 1 (Some b) 0 (Call 1 (cmd.InsertApc u) Yes) ∷
    looks 0 ((2, 8) ∷ []) ∷
    event 1 (Some b) 0 (Call 1 (cmd.Clock 5) Done) ∷
    event 0 None 0 (Clean 2) ∷
    event 1 (Some b) 13 (Begin (Int 13) 9) ∷
    event 0 (Some a) 0 (Switch a (Some 192)) ∷
    event 1 (Some b) 0 (End 11) ∷
    event 0 (Some a) 1 (Begin (Apc u) 7) ∷
    event 1 (Some b) 0 (Clean 2) ∷
    event 0 (Some a) 0 (Normal 14) ∷
    event 1 (Some b) 0 (Call 1 (cmd.Note 0) Done) ∷
    event 0 (Some a) 0 (Call 14 (cmd.Note 2) Done) ∷
    event 1 (Some b) 0 (Call 1 (cmd.Note 0) Done) ∷
    event 0 (Some a) 0 (End 14) ∷
    event 1 (Some b) 0 (Call 1 (cmd.Note 0) Done) ∷
    event 0 (Some a) 0 (Call 0 cmd.ToUser Done) ∷
    event 1 (Some b) 0 (Call 1 (cmd.Note 0) Done) ∷
    event 0 (Some a) 0 (Call 0 (cmd.Delay User true 10) Blocked) ∷
    event 1 (Some b) 0 (Call 1 (cmd.InsertApc s) Yes) ∷
    looks 0 ((1, 26) ∷ (2, 26) ∷ []) ∷
    event 1 (Some b) 0 (Call 1 (cmd.Clock 4) Done) ∷
    event 0 None 0 (Clean 2) ∷
    event 1 (Some b) 13 (Begin (Int 13) 27) ∷
    event 0 (Some a) 0 (Switch a (Some 256)) ∷
    event 1 (Some b) 0 (End 29) ∷
    event 0 (Some a) 1 (Begin (Apc s) 25) ∷
    event 1 (Some b) 0 (Clean 2) ∷
    event 0 (Some a) 0 (End 32) ∷
    event 1 (Some b) 0 (Call 1 (cmd.Note 0) Done) ∷
    event 0 (Some a) 0 (Clean 1) ∷
    event 1 (Some b) 0 (Call 1 (cmd.Note 0) Done) ∷
    event 0 (Some a) 0 (Rewait 0 Blocked) ∷
    event 1 (Some b) 0 (Call 1 (cmd.Note 0) Done) ∷
    event 0 None 0 Rest ∷
    event 1 (Some b) 0 (Call 1 (cmd.Note 0) Done) ∷
    event 1 (Some b) 0 (Call 1 (cmd.Release a) No) ∷
    event 1 (Some b) 0 (Call 1 (cmd.Clock 2) Done) ∷
    event 1 (Some b) 13 (Begin (Int 13) 43) ∷
    event 1 (Some b) 0 (End 44) ∷
    event 1 (Some b) 0 (Clean 2) ∷
    event 1 (Some b) 0 (Call 1 (cmd.Clock 60) Done) ∷
    event 1 (Some b) 13 (Begin (Int 13) 47) ∷
    event 1 (Some b) 0 (End 48) ∷
    event 1 (Some b) 0 (Expire (OfDelay a) 38) ∷
    looks 0 ((2, 51) ∷ []) ∷
    event 1 (Some b) 0 (Clean 2) ∷
    event 0 None 0 (Clean 2) ∷
    event 1 (Some b) 0 (End 1) ∷
    event 0 (Some a) 0 (Switch a (Some 0)) ∷
    event 1 (Some b) 0 (Gone b) ∷
    event 0 (Some a) 0 (Call 0 (cmd.Delay User false 10) Blocked) ∷
    event 1 None 0 Rest ∷
    event 0 None 0 Rest ∷
    []
