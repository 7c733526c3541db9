-- The work items of a history, how many inserts are pending before an event, and the audit.
use Rattle.std.specs.Prelude.{Bool, List, None, Option, Some, [], get_or, length, map, reverse, take, ℕ, ◌++◌, ◌∷◌}
use Rattle.nt_event.specs.declared.commands.Command.{Command}
use Rattle.nt_event.specs.declared.events.Event.{Event}
use Rattle.nt_event.specs.declared.events.What.{What}
use Rattle.nt_event.specs.declared.numbers.CpuNo.{CpuNo}
use Rattle.nt_event.specs.Families.{AdvanceTime, EnterUser, PlainCall, RequestAt, WriteNote, by_plain_call, in_call}
use Rattle.nt_event.specs.Fate.{Inserted, fate_of, still_waits, waiting_inserts}
use Rattle.nt_history.specs.declared.events.Briefs.{Briefs}
use Rattle.nt_history.specs.Briefs.{events_in}
use Rattle.nt_work.specs.declared.item.Audited.{Audited}
use Rattle.nt_work.specs.declared.item.Item.{Item}

-- the events that are lent, the oldest first
abbrev pub lent : Briefs → List Event
lent b = events_in b.briefs.now b.rises.now

-- ---- the items

abbrev pub word_in : PlainCall → Option ℕ
word_in (WriteNote word) = Some word
word_in (RequestAt q level) = None
word_in (AdvanceTime units) = None
word_in EnterUser = None

-- the word that a command notes
abbrev pub word_noted : Command → Option ℕ
word_noted c = by_plain_call word_in None c

-- the word that an event notes: it is a call of `note`
abbrev pub word_of : What → Option ℕ
word_of w = in_call (λ f c y. word_noted c) None w

abbrev pub item_by : ℕ → CpuNo → Option ℕ → List Item
item_by n p None = []
item_by n p (Some word) = record { event = n; cpu = p; word = word } ∷ []

-- the items of a history, by ascending number of their events: one for each call of `note`
abbrev pub items_of : List Event → List Item
items_of [] = []
items_of (e ∷ past) = items_of past ++ item_by (length past) e.cpu (word_of e.what)

-- ---- what waits, and the audit; here the events are told the oldest first

-- how many inserts are pending before the event of this number
abbrev pub waiting : List Event → ℕ → ℕ
waiting events n = length (waiting_inserts (reverse (take n events)))

-- the insert still waits behind these events
abbrev pub waits_in : List Event → Inserted → Bool
waits_in past x = still_waits (fate_of x.thing x.number past)

-- what is told of an item
abbrev pub audited : List Event → Item → Audited
audited events x = record { item = x; waiting = waiting events x.event }

-- the audit: the items in the order of their events, each with how many inserts were pending before it
abbrev pub audit_of : List Event → List Audited
audit_of events = map (audited events) (items_of (reverse events))

-- what is told of an item by the counts of the inserts that are pending before each event
abbrev pub reported : List ℕ → Item → Audited
reported counts x = record { item = x; waiting = get_or counts x.event 0 }

-- ---- all counts by one walk

-- how many inserts are pending before each event, by ascending number
abbrev pub waitings : List Event → List ℕ
waitings [] = []
waitings (e ∷ past) = waitings past ++ length (waiting_inserts past) ∷ []
