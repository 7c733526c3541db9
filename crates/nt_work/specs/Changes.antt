-- What an event does to the inserts: it inserts an object, removes one, uses up one insert, or does nothing to them.
use Rattle.std.specs.Prelude.{Bool, List, None, Option, Some, [], false, filter, get_or, if◌then◌else◌, map, not, ℕ}
use Rattle.std.specs.Prelude.{◌&&◌, ◌++◌, ◌<◌, ◌==◌, ◌∷◌}
use Rattle.nt_event.specs.declared.commands.Reply.{Reply}
use Rattle.nt_event.specs.declared.events.Begun.{Begun}
use Rattle.nt_event.specs.declared.events.Begun.TheVariants as begun
use Rattle.nt_event.specs.declared.events.Event.{Event}
use Rattle.nt_event.specs.declared.events.What.{What}
use Rattle.nt_event.specs.Families.{AddApc, ApcCall, DpcCall, Family, GiveImportance, GiveTarget, InsertDpc, RemoveDpc}
use Rattle.nt_event.specs.Families.{TakeApc, by_apc_family, by_dpc_family, family, in_begin, in_call, in_fire, in_flush}
use Rattle.nt_event.specs.Fate.{ApcThing, DpcThing, Inserted, Thing}
use Rattle.nt_event.specs.Replies.{is_yes}
use Rattle.nt_work.specs.declared.change.Change.{Change}
use Rattle.nt_work.specs.declared.change.Change.TheVariants.{Inserts, Nothing, Removes, Takes}
use Rattle.nt_work.specs.declared.change.Insert.{Insert}
use Rattle.nt_work.specs.declared.change.Object.{Object}
use Rattle.nt_work.specs.declared.change.Object.TheVariants as object

abbrev pub thing_of : Object → Thing
thing_of (object.Dpc d) = DpcThing d
thing_of (object.Apc a) = ApcThing a

abbrev pub inserted_of : Insert → Inserted
inserted_of x = record { number = x.number; thing = thing_of x.object }

abbrev pub same_thing : Thing → Thing → Bool
same_thing (DpcThing x) (DpcThing d) = x.0 == d.0
same_thing (ApcThing x) (ApcThing a) = x.0 == a.0
same_thing (DpcThing x) (ApcThing a) = false
same_thing (ApcThing x) (DpcThing d) = false

-- ---- the change of an event

abbrev pub if_yes : Reply → Change → Change
if_yes y x = if is_yes y then x else Nothing

abbrev pub dpc_change : DpcCall → Reply → Change
dpc_change (InsertDpc d) y = if_yes y (Inserts (object.Dpc d))
dpc_change (RemoveDpc d) y = if_yes y (Removes (object.Dpc d))
dpc_change (GiveImportance d i) y = Nothing
dpc_change (GiveTarget d q) y = Nothing

abbrev pub apc_change : ApcCall → Reply → Change
apc_change (AddApc a) y = if_yes y (Inserts (object.Apc a))
apc_change (TakeApc a) y = if_yes y (Removes (object.Apc a))

-- of a call of a command of the family
abbrev pub call_change : Family → Reply → Change
call_change k y = by_dpc_family (λ c. dpc_change c y) (by_apc_family (λ c. apc_change c y) Nothing k) k

abbrev pub insert_at : ℕ → Object → Insert
insert_at n o = record { number = n; object = o }

abbrev pub begin_change : Begun → ℕ → Change
begin_change (begun.Dpc d) n = Takes (insert_at n (object.Dpc d))
begin_change (begun.Threaded d) n = Takes (insert_at n (object.Dpc d))
begin_change (begun.Apc a) n = Takes (insert_at n (object.Apc a))
begin_change (begun.Int level) n = Nothing

abbrev pub change_in : What → Change
change_in w =
    in_call (λ f c y. call_change (family c) y)
    (in_fire (λ d y. if_yes y (Inserts (object.Dpc d)))
    (in_begin begin_change (in_flush (λ a n. Takes (insert_at n (object.Apc a))) Nothing w) w) w) w

-- the change of the event of this number, where the events are told the oldest first
abbrev pub change_at : List Event → ℕ → Change
change_at events n = get_or (map (λ e. change_in e.what) events) n Nothing

-- ---- what a change uses up and inserts

-- it uses up the insert of the thing by this number, where that is an earlier one
abbrev pub uses : Change → Thing → ℕ → Bool
uses (Removes o) thing n = same_thing (thing_of o) thing
uses (Takes x) thing n = same_thing (thing_of x.object) thing && (x.number == n)
uses (Inserts o) thing n = false
uses Nothing thing n = false

-- the insert stays, where it is an earlier one
abbrev pub stays_by : Change → Insert → Bool
stays_by c x = not (uses c (thing_of x.object) x.number)

abbrev pub inserted_in : Change → Option Thing
inserted_in (Inserts o) = Some (thing_of o)
inserted_in (Removes o) = None
inserted_in (Takes x) = None
inserted_in Nothing = None

abbrev pub added_by : Change → ℕ → List Inserted
added_by (Inserts o) n = record { number = n; thing = thing_of o } ∷ []
added_by (Removes o) n = []
added_by (Takes x) n = []
added_by Nothing n = []

-- what the event of this number leaves of the pending inserts
abbrev pub after_change : Change → ℕ → List Inserted → List Inserted
after_change c n xs = filter (λ x. not (uses c x.thing x.number)) xs ++ added_by c n

-- ---- numbers

abbrev pub AreOver : ℕ → List Insert → Type 0
AreOver n [] = Unit {0}
AreOver n (x ∷ xs) = (n < x.number) × AreOver n xs

-- their numbers rise, and are below this one
abbrev pub RiseBelow : ℕ → List Insert → Type 0
RiseBelow n [] = Unit {0}
RiseBelow n (x ∷ xs) = (x.number < n) × AreOver x.number xs × RiseBelow n xs
