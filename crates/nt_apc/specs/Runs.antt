-- Whole runs of calls on one thread's queues.
use Rattle.std.specs.Prelude.{Bool, List, [], false, ℕ, ◌<◌, ◌==◌, ◌∷◌}
use Rattle.nt_event.specs.declared.inserts.Pick.{Pick}
use Rattle.nt_event.specs.declared.numbers.ApcNo.{ApcNo}
use Rattle.nt_event.specs.Apcs.{ApcQueues, closed_apcs, start_apcs, with_apc, without_apc}

-- what a call did: an accepted insert; a use of the object's insert, by `remove`, `take` or `flush_next`; the doors'
-- closing. The other calls, and the other answers of these, change nothing.
pub data Act : Type 0 where
  Inserts : Pick → Act
  Uses : ApcNo → Act
  Closes : Act

abbrev pub after : Act → ApcQueues → ApcQueues
after (Inserts x) q = with_apc x q
after (Uses a) q = without_apc a q
after Closes q = closed_apcs q

-- the queues after these acts, the last one first, on new ones
abbrev pub queues_of : List Act → ApcQueues
queues_of [] = start_apcs
queues_of (act ∷ past) = after act (queues_of past)

-- the act uses up a pending insert of the object
abbrev pub uses : ApcNo → Act → Bool
uses a (Uses b) = a.0 == b.0
uses a (Inserts x) = false
uses a Closes = false

-- each insert has a number below this one
abbrev pub NumbersBelow : ℕ → List Act → Type 0
NumbersBelow n [] = Unit {0}
NumbersBelow n (Inserts x ∷ past) = (x.number < n) × NumbersBelow n past
NumbersBelow n (act ∷ past) = NumbersBelow n past

-- each insert has a number above those of all inserts before it
abbrev pub NumbersRise : List Act → Type 0
NumbersRise [] = Unit {0}
NumbersRise (Inserts x ∷ past) = NumbersBelow x.number past × NumbersRise past
NumbersRise (act ∷ past) = NumbersRise past
