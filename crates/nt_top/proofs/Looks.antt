-- The looks of a history, whose values stand one after another.
use Rattle.std.proofs.Common.{List, [], length, refl, ℕ, ◌∷◌, ◌≡◌}
use Rattle.std.specs.List.{AllByRecursion}
use Rattle.std.specs.Prelude.{get_or, replicate, suc, zero}
use Rattle.std.proofs.lemmas.List.{length-set}
use Rattle.nt_event.specs.declared.events.Rises.{Rises}
use Rattle.nt_event.specs.Classes.{class_count}
use Rattle.nt_history.specs.declared.brief.Brief.{Brief}
use Rattle.nt_history.specs.declared.brief.Did.{Did}
use Rattle.nt_history.specs.declared.brief.Did.TheVariants as did
use Rattle.nt_history.specs.declared.brief.Noticed.TheVariants.{One, Several}
use Rattle.nt_history.specs.Briefs.{events_in, no_rises, noticed_of, values_at, what_of}
use Rattle.nt_ranges.specs.Looks.{LookIsWhole, LooksAreWhole}

-- there is a value for each class
abbrev pub IsWhole : Rises → Type 0
IsWhole r = length r.value ≡ class_count

abbrev pub AreWhole : List Rises → Type 0
AreWhole = AllByRecursion IsWhole

-- also at a place where none stand
each_whole : (rises : List Rises) (at : ℕ) → AreWhole rises → IsWhole (get_or rises at no_rises)
each_whole [] at h = refl
each_whole (r ∷ rises) zero h = h.0
each_whole (r ∷ rises) (suc at) h = each_whole rises at h.1

-- a look that takes its values from whole ones has a value for each class
one_whole : (rises : List Rises) (d : Did) → AreWhole rises → LookIsWhole (what_of (values_at rises (noticed_of d)) d)
one_whole rises (did.Look (One class value)) h = length-set (replicate 16 0) class value
one_whole rises (did.Look (Several at)) h = each_whole rises at h
one_whole rises (did.Call f c y) h = tt
one_whole rises (did.Begin b from) h = tt
one_whole rises (did.Normal f) h = tt
one_whole rises (did.End f) h = tt
one_whole rises (did.Expire key from) h = tt
one_whole rises (did.Fire d y) h = tt
one_whole rises (did.Clean class) h = tt
one_whole rises (did.Switch t status) h = tt
one_whole rises (did.Rewait f y) h = tt
one_whole rises (did.Flush a from) h = tt
one_whole rises (did.Gone t) h = tt
one_whole rises (did.Free f l) h = tt
one_whole rises did.Rest h = tt

-- so the looks of a history are whole, as the values of each are among these
pub all_whole : (briefs : List Brief) (rises : List Rises) → AreWhole rises → LooksAreWhole (events_in briefs rises)
all_whole [] rises h = tt
all_whole (b ∷ briefs) rises h = (one_whole rises b.did h, all_whole briefs rises h)
