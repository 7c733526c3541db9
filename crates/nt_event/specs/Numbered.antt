-- The numbers and names of refusals, as reports and schedules' refusals write them.
use Rattle.std.specs.Prelude.{ℕ, List, codes}
use Rattle.nt_event.specs.declared.commands.Refusal.{Refusal}
use Rattle.nt_event.specs.declared.commands.Refusal.TheVariants.{NotThread, NotBase, TooHigh, RegionsOpen, NotGreater}
use Rattle.nt_event.specs.declared.commands.Refusal.TheVariants.{NotLess, BelowBase, NotEntered, LockHeld, HeldHere}
use Rattle.nt_event.specs.declared.commands.Refusal.TheVariants.{NotLast}
use Rattle.nt_event.specs.declared.events.ScheduleKind.{ScheduleKind}
use Rattle.nt_event.specs.declared.events.ScheduleKind.TheVariants.{NoSuchCpu, NothingToDo, BadLook, BadChoice}
use Rattle.nt_event.specs.declared.events.ScheduleKind.TheVariants.{Unfinished}

-- the number of a refused command's cause, in the order of the tests
abbrev pub refusal_number : Refusal → ℕ
refusal_number NotThread = 1
refusal_number NotBase = 2
refusal_number TooHigh = 3
refusal_number RegionsOpen = 4
refusal_number NotGreater = 5
refusal_number NotLess = 6
refusal_number BelowBase = 7
refusal_number NotEntered = 8
refusal_number LockHeld = 9
refusal_number HeldHere = 10
refusal_number NotLast = 11

abbrev pub refusal_name : Refusal → List ℕ
refusal_name NotThread = codes "NotThread"
refusal_name NotBase = codes "NotBase"
refusal_name TooHigh = codes "TooHigh"
refusal_name RegionsOpen = codes "RegionsOpen"
refusal_name NotGreater = codes "NotGreater"
refusal_name NotLess = codes "NotLess"
refusal_name BelowBase = codes "BelowBase"
refusal_name NotEntered = codes "NotEntered"
refusal_name LockHeld = codes "LockHeld"
refusal_name HeldHere = codes "HeldHere"
refusal_name NotLast = codes "NotLast"

-- the number of a refused turn's cause
abbrev pub schedule_number : ScheduleKind → ℕ
schedule_number NoSuchCpu = 1
schedule_number NothingToDo = 2
schedule_number BadLook = 3
schedule_number BadChoice = 4
schedule_number Unfinished = 5

abbrev pub schedule_name : ScheduleKind → List ℕ
schedule_name NoSuchCpu = codes "NoSuchCpu"
schedule_name NothingToDo = codes "NothingToDo"
schedule_name BadLook = codes "BadLook"
schedule_name BadChoice = codes "BadChoice"
schedule_name Unfinished = codes "Unfinished"
