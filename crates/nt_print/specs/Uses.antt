-- What inserts things and what uses the inserts up, as the printer notes it: a Begin or Flush names an insert, and a
-- call removes a thing.
use Rattle.std.specs.Prelude.{ℕ, Bool, false, ◌&&◌, ◌==◌, List, map, get_or, Option, Some, None, if◌then◌else◌}
use Rattle.nt_event.specs.declared.events.Begun.TheVariants.{Apc, Dpc, Int, Threaded}
use Rattle.nt_event.specs.declared.events.Event.{Event}
use Rattle.nt_event.specs.declared.events.What.{What}
use Rattle.nt_event.specs.declared.scripts.Script.{Script}
use Rattle.nt_event.specs.Fate.{ApcThing, DpcThing, Inserted, Thing, fate_of, inserted_thing, still_waits}
use Rattle.nt_event.specs.Fate.{thing_removed}
use Rattle.nt_event.specs.Script.{has_apc, has_dpc}
use Rattle.nt_print.specs.declared.inserts.Insert.{Insert}
use Rattle.nt_print.specs.declared.inserts.Object.{Object}
use Rattle.nt_print.specs.declared.inserts.Object.TheVariants as object
use Rattle.nt_event.specs.Families.{in_begin, in_call, in_flush}
use Rattle.nt_event.specs.declared.events.Begun.{Begun}

-- ---- things

abbrev pub thing_of : Object → Thing
thing_of (object.Dpc d) = DpcThing d
thing_of (object.Apc a) = ApcThing a

abbrev pub inserted_of : Insert → Inserted
inserted_of i = record { number = i.number; thing = thing_of i.object }

abbrev pub thing_fits : Script → Thing → Bool
thing_fits s (DpcThing d) = has_dpc s d
thing_fits s (ApcThing a) = has_apc s a

abbrev pub same_thing : Thing → Thing → Bool
same_thing (DpcThing x) (DpcThing d) = x.0 == d.0
same_thing (ApcThing x) (ApcThing a) = x.0 == a.0
same_thing (DpcThing x) (ApcThing a) = false
same_thing (ApcThing x) (DpcThing d) = false

-- the thing is the one that was found
abbrev pub is_it : Thing → Option Thing → Bool
is_it x None = false
is_it x (Some thing) = same_thing x thing

-- ---- what an event uses up

-- what begins by an insert, if anything
abbrev pub insert_begun : ℕ → Begun → Option Inserted
insert_begun n (Dpc x) = Some (record { number = n; thing = DpcThing x })
insert_begun n (Threaded x) = Some (record { number = n; thing = DpcThing x })
insert_begun n (Apc x) = Some (record { number = n; thing = ApcThing x })
insert_begun n (Int level) = None

-- the insert that a Begin or Flush names
abbrev pub named_by : What → Option Inserted
named_by w =
    in_begin (λ b from. insert_begun from b)
    (in_flush (λ x from. Some (record { number = from; thing = ApcThing x })) None w) w

-- what is removed with reply yes
abbrev pub removed_by : What → Option Thing
removed_by w = in_call (λ f c y. thing_removed c y) None w

-- the insert that is named is this one
abbrev pub names_it : Option Inserted → Thing → ℕ → Bool
names_it None thing n = false
names_it (Some i) thing n = same_thing i.thing thing && (i.number == n)

-- the thing that is removed is this one
abbrev pub removes_it : Option Thing → Thing → Bool
removes_it None thing = false
removes_it (Some x) thing = same_thing x thing

-- ---- what waits

-- what the event of each number inserts
abbrev pub inserted_at : List Event → ℕ → Option Thing
inserted_at events n = get_or (map (λ e. inserted_thing e.what) events) n None

-- what the event of this number inserts, where it still waits at the end
abbrev pub waits_at : List Event → ℕ → Option Thing → Option Thing
waits_at past n None = None
waits_at past n (Some thing) = if still_waits (fate_of thing n past) then Some thing else None
