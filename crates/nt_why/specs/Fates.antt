-- The last insert of an object, and what became of it.
use Rattle.std.specs.Prelude.{Bool, List, None, Option, Some, [], false, if◌then◌else◌, length, ℕ, ◌&&◌, ◌==◌, ◌∷◌}
use Rattle.nt_event.specs.declared.events.Event.{Event}
use Rattle.nt_event.specs.declared.events.What.{What}
use Rattle.nt_event.specs.declared.events.Begun.{Begun}
use Rattle.nt_event.specs.declared.events.Begun.TheVariants as begun
use Rattle.nt_event.specs.Fate.{ApcThing, BegunBy, DpcThing, FlushedBy, RemovedBy, StillWaits, Thing}
use Rattle.nt_event.specs.Fate.{Fate as TheFate, inserted_thing}
use Rattle.nt_event.specs.Families.{in_begin, in_flush}
use Rattle.nt_why.specs.declared.fates.Fate.{Fate}
use Rattle.nt_why.specs.declared.fates.Fate.TheVariants as fate
use Rattle.nt_why.specs.declared.fates.Object.{Object}
use Rattle.nt_why.specs.declared.fates.Object.TheVariants as object

abbrev pub thing_of : Object → Thing
thing_of (object.Dpc d) = DpcThing d
thing_of (object.Apc a) = ApcThing a

abbrev pub same_thing : Thing → Thing → Bool
same_thing (DpcThing x) (DpcThing d) = x.0 == d.0
same_thing (ApcThing x) (ApcThing a) = x.0 == a.0
same_thing (DpcThing x) (ApcThing a) = false
same_thing (ApcThing x) (DpcThing d) = false

-- the thing is the one that was found
abbrev pub is_it : Thing → Option Thing → Bool
is_it x None = false
is_it x (Some thing) = same_thing thing x

-- the number of the last event that inserts the thing
abbrev pub last_insert : Thing → List Event → Option ℕ
last_insert x [] = None
last_insert x (e ∷ past) = if is_it x (inserted_thing e.what) then Some (length past) else last_insert x past

abbrev pub fate_as : Fate → TheFate
fate_as (fate.Begun n) = BegunBy n
fate_as (fate.Removed n) = RemovedBy n
fate_as (fate.Flushed n) = FlushedBy n
fate_as fate.Waits = StillWaits

-- the object whose insert begins
abbrev pub begun_thing : Begun → Option Thing
begun_thing (begun.Dpc d) = Some (DpcThing d)
begun_thing (begun.Threaded d) = Some (DpcThing d)
begun_thing (begun.Apc a) = Some (ApcThing a)
begun_thing (begun.Int level) = None

-- the event begins or flushes the insert of this number
abbrev pub delivers : Thing → ℕ → What → Bool
delivers x n w =
    in_begin (λ b from. is_it x (begun_thing b) && (from == n))
    (in_flush (λ a from. is_it x (Some (ApcThing a)) && (from == n)) false w) w
