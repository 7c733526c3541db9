-- Which events a brief for each event and the values of the looks stand for.
use Rattle.std.specs.List.{slice_set}
use Rattle.std.specs.Prelude.{List, [], get_or, length, map, replicate, ℕ, ◌<◌, ◌≡◌, ◌∷◌}
use Rattle.nt_event.specs.Lists.{value_at}
use Rattle.nt_event.specs.declared.events.Event.{Event}
use Rattle.nt_event.specs.declared.events.Rises.{Rises}
use Rattle.nt_event.specs.declared.events.What.{What}
use Rattle.nt_event.specs.declared.events.What.TheVariants as what
use Rattle.nt_history.specs.declared.brief.Brief.{Brief}
use Rattle.nt_history.specs.declared.brief.Did.{Did}
use Rattle.nt_history.specs.declared.brief.Did.TheVariants as did
use Rattle.nt_history.specs.declared.brief.Noticed.{Noticed}
use Rattle.nt_history.specs.declared.brief.Noticed.TheVariants.{One, Several}
use Rattle.nt_event.specs.Families.{in_look}

-- a look in which nothing rose, and one in which this class alone rose, to this value
abbrev pub no_rises : Rises
no_rises = record { value = replicate 16 0 }

abbrev pub one_rise : ℕ → ℕ → Rises
one_rise class value = record { value = slice_set (replicate 16 0) class value }

-- no class below this rose, and none above it
abbrev pub NoneBelow : ℕ → Rises → Type 0
NoneBelow class r = (c : ℕ) → c < class → value_at r.value c ≡ 0

abbrev pub NoneAbove : ℕ → Rises → Type 0
NoneAbove class r = (c : ℕ) → class < c → value_at r.value c ≡ 0

-- where the values of a look in which nothing rose are kept
abbrev pub nothing : Noticed
nothing = One 0 0

-- the values that are kept so
abbrev pub values_at : List Rises → Noticed → Rises
values_at rises (One class value) = one_rise class value
values_at rises (Several at) = get_or rises at no_rises

-- the values that are kept beside for a look that is kept so
abbrev pub beside : Noticed → Rises → List Rises
beside (One class value) r = []
beside (Several at) r = r ∷ []

-- these values of a look are kept so: here where one class alone rose, or at this place
abbrev pub IsLook : ℕ → Noticed → Rises → Type 0
IsLook n (One class value) r = one_rise class value ≡ r
IsLook n (Several at) r = at ≡ n

-- what is kept of what an event does, where the values of a look are kept so
abbrev pub did_of : Noticed → What → Did
did_of k (what.Call f c y) = did.Call c y f
did_of k (what.Look r) = did.Look k
did_of k (what.Begin b from) = did.Begin b from
did_of k (what.Normal f) = did.Normal f
did_of k (what.End f) = did.End f
did_of k (what.Expire key from) = did.Expire key from
did_of k (what.Fire d y) = did.Fire d y
did_of k (what.Clean class) = did.Clean class
did_of k (what.Switch t status) = did.Switch t status
did_of k (what.Rewait f y) = did.Rewait f y
did_of k (what.Flush a from) = did.Flush a from
did_of k (what.Gone t) = did.Gone t
did_of k (what.Free f l) = did.Free f l
did_of k what.Rest = did.Rest

-- what an event does, where a look has these values
abbrev pub what_of : Rises → Did → What
what_of r (did.Call c y f) = what.Call f c y
what_of r (did.Look k) = what.Look r
what_of r (did.Begin b from) = what.Begin b from
what_of r (did.Normal f) = what.Normal f
what_of r (did.End f) = what.End f
what_of r (did.Expire key from) = what.Expire key from
what_of r (did.Fire d y) = what.Fire d y
what_of r (did.Clean class) = what.Clean class
what_of r (did.Switch t status) = what.Switch t status
what_of r (did.Rewait f y) = what.Rewait f y
what_of r (did.Flush a from) = what.Flush a from
what_of r (did.Gone t) = what.Gone t
what_of r (did.Free f l) = what.Free f l
what_of r did.Rest = what.Rest

abbrev pub brief_of : Noticed → Event → Brief
brief_of k e = record { cpu = e.cpu; thread = e.thread; level = e.level; did = did_of k e.what }

abbrev pub event_of : Rises → Brief → Event
event_of r b = record { cpu = b.cpu; thread = b.thread; level = b.level; what = what_of r b.did }

-- where the values are kept, where it is a look
abbrev pub noticed_of : Did → Noticed
noticed_of (did.Look k) = k
noticed_of (did.Call c y f) = nothing
noticed_of (did.Begin b from) = nothing
noticed_of (did.Normal f) = nothing
noticed_of (did.End f) = nothing
noticed_of (did.Expire key from) = nothing
noticed_of (did.Fire d y) = nothing
noticed_of (did.Clean class) = nothing
noticed_of (did.Switch t status) = nothing
noticed_of (did.Rewait f y) = nothing
noticed_of (did.Flush a from) = nothing
noticed_of (did.Gone t) = nothing
noticed_of (did.Free f l) = nothing
noticed_of did.Rest = nothing

-- these are the values of what an event does, where it is a look
abbrev pub HasValues : Rises → What → Type 0
HasValues r w = in_look (λ values. r ≡ values) (Unit {0}) w

-- the values that a brief refers to
abbrev pub values_of : List Rises → Brief → Rises
values_of rises b = values_at rises (noticed_of b.did)

abbrev pub event_in : List Rises → Brief → Event
event_in rises b = event_of (values_of rises b) b

abbrev pub events_in : List Brief → List Rises → List Event
events_in briefs rises = map (event_in rises) briefs

-- a place is one among so many
abbrev pub IsAmong : ℕ → Noticed → Type 0
IsAmong n (One class value) = Unit {0}
IsAmong n (Several at) = at < n

-- where it is a look, its values are kept in it or stand among so many
abbrev pub Stands : ℕ → Did → Type 0
Stands n (did.Look k) = IsAmong n k
Stands n (did.Call c y f) = Unit {0}
Stands n (did.Begin b from) = Unit {0}
Stands n (did.Normal f) = Unit {0}
Stands n (did.End f) = Unit {0}
Stands n (did.Expire key from) = Unit {0}
Stands n (did.Fire d y) = Unit {0}
Stands n (did.Clean class) = Unit {0}
Stands n (did.Switch t status) = Unit {0}
Stands n (did.Rewait f y) = Unit {0}
Stands n (did.Flush a from) = Unit {0}
Stands n (did.Gone t) = Unit {0}
Stands n (did.Free f l) = Unit {0}
Stands n did.Rest = Unit {0}

-- the values of each look stand among these
abbrev pub HasEach : List Brief → List Rises → Type 0
HasEach [] rises = Unit {0}
HasEach (b ∷ briefs) rises = Stands (length rises) b.did × HasEach briefs rises
