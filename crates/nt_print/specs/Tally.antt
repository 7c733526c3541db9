-- The tally of the first events of a history, which is taken from the first event on.
use Rattle.std.specs.Prelude.{◌≡◌, ℕ, ◌+◌, ◌<◌, ◌≤◌, ◌^◌, Bool, true, false, ◌&&◌, ◌==◌, nat_le, nat_lt, List, get_or}
use Rattle.std.specs.Prelude.{length, reverse, slice_set, take, Option, Some, None, if◌then◌else◌}
use Rattle.nt_event.specs.declared.events.Event.{Event}
use Rattle.nt_event.specs.declared.events.What.{What}
use Rattle.nt_event.specs.declared.scripts.Script.{Script}
use Rattle.nt_event.specs.Fate.{ApcThing, DpcThing, Inserted, Thing, fate_of, inserted_thing, still_waits}
use Rattle.nt_event.specs.Locks.{Frees, Gets, LockMove, NoMove, Spins, lock_move}
use Rattle.nt_event.specs.Numbers.{cpu}
use Rattle.nt_event.specs.Own.{is_rest, rested}
use Rattle.nt_print.specs.declared.spins.Spun.{Spun}
use Rattle.nt_print.specs.declared.tally.Tally.{Tally}
use Rattle.nt_print.specs.Spins.{last_spin}
use Rattle.nt_print.specs.Counts.{TellsMade}
use Rattle.nt_print.specs.Summary.{how_many, is_begin, is_call, is_refused_call}
use Rattle.nt_print.specs.Uses.{inserted_at, is_it, named_by, removed_by, thing_fits}

-- ---- what waits by the tally

-- the number of the last event that removed the thing, 0 where none did: no insert comes before the event 0
abbrev pub last_removal : Tally → Thing → ℕ
last_removal t (DpcThing d) = get_or t.dpcs d.0 0
last_removal t (ApcThing a) = get_or t.apcs a.0 0

-- the insert of the thing by the event of this number waits: no event named it, and none behind it removed the thing
abbrev pub waits_by : Tally → ℕ → Thing → Bool
waits_by t n thing = get_or t.unnamed n false && nat_le (last_removal t thing) n

-- ---- one event more

-- which inserts no event named, where the event of this number inserted a thing
abbrev pub with_inserted : ℕ → Option Thing → List Bool → List Bool
with_inserted k None flags = flags
with_inserted k (Some thing) flags = slice_set flags k true

-- which inserts no event named, where the event of this number named one
abbrev pub with_named : List Event → ℕ → Option Inserted → List Bool → List Bool
with_named events k None flags = flags
with_named events k (Some i) flags = if nat_lt i.number k && is_it i.thing (inserted_at events i.number)
    then slice_set flags i.number false else flags

-- the last removals of objects, where the event of this number removed a thing
abbrev pub removed_dpcs : ℕ → Option Thing → List ℕ → List ℕ
removed_dpcs k (Some (DpcThing x)) numbers = slice_set numbers x.0 k
removed_dpcs k (Some (ApcThing x)) numbers = numbers
removed_dpcs k None numbers = numbers

abbrev pub removed_apcs : ℕ → Option Thing → List ℕ → List ℕ
removed_apcs k (Some (ApcThing x)) numbers = slice_set numbers x.0 k
removed_apcs k (Some (DpcThing x)) numbers = numbers
removed_apcs k None numbers = numbers

-- the last spins of the processors, where the event of this number, of this processor, moves a lock so
abbrev pub noted_spin : ℕ → ℕ → LockMove → List (Option Spun) → List (Option Spun)
noted_spin k p (Spins l) spins = slice_set spins p (Some (record { number = k; lock = l }))
noted_spin k p (Gets l) spins = spins
noted_spin k p (Frees l) spins = spins
noted_spin k p NoMove spins = spins

-- how many events the processors had made when they rested last, where the last of so many of this processor may be a
-- Rest
abbrev pub noted_rest : ℕ → ℕ → Bool → List ℕ → List ℕ
noted_rest p made rest rested = if rest then slice_set rested p made else rested

-- what the event of this number, of this processor, inserts, names, removes and tries for in vain is noted
abbrev pub with_use : List Event → ℕ → ℕ → What → Tally → Tally
with_use events k p w t = record t {
  unnamed = with_inserted k (inserted_thing w) (with_named events k (named_by w) t.unnamed);
  dpcs = removed_dpcs k (removed_by w) t.dpcs;
  apcs = removed_apcs k (removed_by w) t.apcs;
  spins = noted_spin k p (lock_move w) t.spins;
}

-- a count with one more where this is so
abbrev pub counted_if : Bool → ℕ → ℕ
counted_if true n = n + 1
counted_if false n = n

-- the tally when an event of this number, of this processor, did this
abbrev pub with_what : List Event → ℕ → ℕ → What → Tally → Tally
with_what events k p w t = record (with_use events k p w t) {
  calls = counted_if (is_call w) t.calls;
  refused = counted_if (is_refused_call w) t.refused;
  begins = counted_if (is_begin w) t.begins;
  rested = noted_rest p (get_or t.made p 0) (is_rest w) t.rested;
}

-- the tally with the event of this number
abbrev pub with_event : List Event → ℕ → Event → Tally → Tally
with_event events k e t =
    with_what events k e.cpu.0 e.what (record t { made = slice_set t.made e.cpu.0 (get_or t.made e.cpu.0 0 + 1) })

-- each count may rise by one
pub record HasRoom (t : Tally) : Type 0 where
  pub calls : t.calls + 1 < 2 ^ 64
  pub refused : t.refused + 1 < 2 ^ 64
  pub begins : t.begins + 1 < 2 ^ 64

-- ---- what the tally tells

-- the counts of these events
pub record Counts (events : List Event) (t : Tally) : Type 0 where
  pub calls : t.calls ≡ how_many is_call events
  pub refused : t.refused ≡ how_many is_refused_call events
  pub begins : t.begins ≡ how_many is_begin events
  pub made : TellsMade events t.made

-- of the first k events, each insert of a thing of the script waits by the tally exactly where its fate is to wait
abbrev pub TellsWaiting : Script → List Event → ℕ → Tally → Type 0
TellsWaiting s events k t = (n : ℕ) (thing : Thing) → n < k → inserted_at events n ≡ Some thing →
    thing_fits s thing ≡ true → waits_by t n thing ≡ still_waits (fate_of thing n (reverse (take k events)))

-- the last of these events that the processor made is a Rest: it made as many when it rested last as in all, and some
abbrev pub rests_by : Tally → ℕ → Bool
rests_by t p = nat_lt 0 (get_or t.rested p 0) && (get_or t.rested p 0 == get_or t.made p 0)

-- of these events, the newest of which comes first, the last spins of the processors and which of them rested last
pub record TellsSpins (past : List Event) (t : Tally) : Type 0 where
  pub spins : (p : ℕ) → p < length t.spins → get_or t.spins p None ≡ last_spin (cpu p) past
  pub rests : (p : ℕ) → p < length t.rested → rests_by t p ≡ rested (cpu p) past
  pub before : (p : ℕ) → p < length t.rested → get_or t.rested p 0 ≤ get_or t.made p 0

-- the tally has a flag for each event, and a place for each processor and each object of the script
pub record HasPlaces (s : Script) (events : List Event) (t : Tally) : Type 0 where
  pub made : length t.made ≡ s.cpus
  pub spins : length t.spins ≡ s.cpus
  pub rested : length t.rested ≡ s.cpus
  pub unnamed : length t.unnamed ≡ length events
  pub dpcs : length t.dpcs ≡ length s.dpcs
  pub apcs : length t.apcs ≡ length s.apcs

-- the tally of the first k of the events
pub record Tallies (s : Script) (events : List Event) (k : ℕ) (t : Tally) : Type 0 where
  pub counts : Counts (take k events) t
  pub waiting : TellsWaiting s events k t
  pub removals : (thing : Thing) → last_removal t thing ≤ k
  pub spinning : TellsSpins (reverse (take k events)) t
  pub places : HasPlaces s events t

-- the tally of all the events
abbrev pub TalliesAll : Script → List Event → Tally → Type 0
TalliesAll s events t = Tallies s events (length events) t
