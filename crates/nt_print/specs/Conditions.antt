-- Which histories a report may have.
use Rattle.std.specs.Prelude.{◌≡◌, ℕ, ◌≤◌, true, List, length, None, Option, Some}
use Rattle.std.specs.List.{AllByRecursion}
use Rattle.nt_event.specs.declared.limits.TheConstants.{EVENTS}
use Rattle.nt_event.specs.declared.commands.Reply.{Reply}
use Rattle.nt_event.specs.declared.commands.Reply.TheVariants.{Blocked, Done, No, Refused, Spin, Status, Yes}
use Rattle.nt_event.specs.declared.events.Begun.{Begun}
use Rattle.nt_event.specs.declared.events.Begun.TheVariants.{Apc, Dpc, Int, Threaded}
use Rattle.nt_event.specs.declared.events.Event.{Event}
use Rattle.nt_event.specs.declared.events.History.{History}
use Rattle.nt_event.specs.declared.events.What.{What}
use Rattle.nt_event.specs.declared.events.What.TheVariants.{Begin, Call, Clean, End, Expire, Fire, Flush, Free, Gone}
use Rattle.nt_event.specs.declared.events.What.TheVariants.{Look, Normal, Rest, Rewait, Switch}
use Rattle.nt_log.specs.Schedules.{AreRises, turn_bound}
use Rattle.nt_script.specs.declared.walk.Input.{Input}
use Rattle.nt_line.specs.Fits.{HasRange}
use Rattle.nt_script.specs.Sound.{IsSound}
use Rattle.nt_event.specs.Fitting.{event_fits}
use Rattle.nt_print.specs.Report.{report_text}
use Rattle.nt_event.specs.Families.{in_look}

-- a number of 32 bits
abbrev pub IsWord : ℕ → Type 0
IsWord n = n ≤ 4294967295

-- the number in a reply
abbrev pub ReplyInRange : Reply → Type 0
ReplyInRange (Status x) = IsWord x
ReplyInRange Done = Unit {0}
ReplyInRange Yes = Unit {0}
ReplyInRange No = Unit {0}
ReplyInRange Blocked = Unit {0}
ReplyInRange Spin = Unit {0}
ReplyInRange (Refused r) = Unit {0}

abbrev pub BegunInRange : Begun → Type 0
BegunInRange (Int level) = level ≤ 15
BegunInRange (Dpc d) = Unit {0}
BegunInRange (Threaded d) = Unit {0}
BegunInRange (Apc a) = Unit {0}

abbrev pub StatusInRange : Option ℕ → Type 0
StatusInRange None = Unit {0}
StatusInRange (Some x) = IsWord x

-- the numbers of an event are in their ranges, and a look has values in classes that the text of this version may name
abbrev pub WhatInRange : ℕ → What → Type 0
WhatInRange version (Call frame c reply) = IsWord frame × HasRange c × ReplyInRange reply
WhatInRange version (Look rises) = AreRises version rises
WhatInRange version (Begin begun from) = BegunInRange begun × IsWord from
WhatInRange version (Normal frame) = IsWord frame
WhatInRange version (End frame) = IsWord frame
WhatInRange version (Expire key from) = IsWord from
WhatInRange version (Fire d reply) = ReplyInRange reply
WhatInRange version (Clean class) = class ≤ 2
WhatInRange version (Switch t status) = StatusInRange status
WhatInRange version (Rewait frame reply) = IsWord frame × ReplyInRange reply
WhatInRange version (Flush a from) = IsWord from
WhatInRange version (Gone t) = Unit {0}
WhatInRange version (Free frame l) = IsWord frame
WhatInRange version Rest = Unit {0}

-- a look names no thread and has level 0
abbrev pub LookIsBare : Event → What → Type 0
LookIsBare e w = in_look (λ rises. (e.thread ≡ None) × (e.level ≡ 0)) (Unit {0}) w

abbrev pub EventInRange : ℕ → Event → Type 0
EventInRange version e = (e.level ≤ 15) × WhatInRange version e.what × LookIsBare e e.what

-- the event names things of the script, and its numbers are in range
abbrev pub EventIsPlain : Input → Event → Type 0
EventIsPlain input e = (event_fits input.script e ≡ true) × EventInRange input.version e

-- a history that a report may have, with not too many events, and a turn limit in its range. Profile.
pub record IsPlain (input : Input) (h : History) : Type 0 where
  pub events : AllByRecursion (EventIsPlain input) h.events
  pub few : length h.events ≤ EVENTS
  pub limit : (1 ≤ h.turns) × (h.turns ≤ turn_bound input.script.cpus)

-- the bytes are the report of the history, whose script is that of a sound input
pub record IsReportOf (bytes : List ℕ) (input : Input) (h : History) : Type 0 where
  pub sound : IsSound input
  pub plain : IsPlain input h
  pub text : bytes ≡ report_text input h
