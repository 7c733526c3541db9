-- The fate of each insert, by positions in the history.
use Rattle.std.specs.List.{Contains}
use Rattle.std.specs.Prelude.{Bool, List, Some, false, length, true, ℕ, ◌<◌, ◌↔◌, ◌≡◌}
use Rattle.nt_event.specs.declared.events.Event.{Event}
use Rattle.nt_event.specs.declared.events.What.{What}
use Rattle.nt_event.specs.declared.events.What.TheVariants.{Begin, Call, Flush}
use Rattle.nt_event.specs.declared.numbers.CpuNo.{CpuNo}
use Rattle.nt_event.specs.declared.scripts.Script.{Script}
use Rattle.nt_event.specs.Fate.{ApcThing, BegunBy, DpcThing, Fate, FlushedBy, Inserted, RemovedBy, StillWaits, Thing}
use Rattle.nt_event.specs.Fate.{fate_of, inserted_thing, inserts, uses_up, waiting_inserts}
use Rattle.nt_event.specs.Routines.{owner_of}
use Rattle.nt_event.specs.Script.{fits, has_dpc, has_thread}
use Rattle.nt_event.specs.Step.{IsRun}
use Rattle.nt_laws.specs.Fates.{ApcIsPending, DpcIsPending}
use Rattle.nt_readings.specs.Positions.{At}
use Rattle.nt_readings.specs.Inserts.{NoneUsesUp}

-- ---- fates

abbrev pub begins : What → Bool
begins (Begin b from) = true
begins w = false

abbrev pub flushes : What → Bool
flushes (Flush a from) = true
flushes w = false

abbrev pub calls : What → Bool
calls (Call f c y) = true
calls w = false

-- event m is of this kind and the first event after event n that uses up the insert of the thing that event n made
abbrev pub IsFirstUse : (What → Bool) → Thing → ℕ → ℕ → List Event → Type 0
IsFirstUse kind thing n m past = At (λ e before. (n < length before) × (kind e.what ≡ true) ×
    (uses_up thing n e.what ≡ true) × NoneUsesUp thing n before) m past

-- begun by the first later event that uses it up, a Begin; flushed by it, a Flush; removed by it, a call; or waiting
-- where none does
abbrev pub IsFate : Thing → ℕ → List Event → Fate → Type 0
IsFate thing n past (BegunBy m) = IsFirstUse begins thing n m past
IsFate thing n past (FlushedBy m) = IsFirstUse flushes thing n m past
IsFate thing n past (RemovedBy m) = IsFirstUse calls thing n m past
IsFate thing n past StillWaits = NoneUsesUp thing n past

-- the fate that is answered is the one that the insert has, and no other
abbrev pub FateIsFirstUse : Type 0
FateIsFirstUse = (thing : Thing) (n : ℕ) (past : List Event) (x : Fate) →
    (fate_of thing n past ≡ x) ↔ IsFate thing n past x

-- ---- the inserts of a history

-- event n inserts the thing
abbrev pub IsInsert : Thing → ℕ → List Event → Type 0
IsInsert thing n past = At (λ e before. inserted_thing e.what ≡ Some thing) n past

-- the listed inserts are those that events made, and the listed waiting ones those of them that no later event uses up
pub record ListsInserts (past : List Event) (x : Inserted) : Type 0 where
  pub each : Contains (inserts past) x ↔ IsInsert x.thing x.number past
  pub waiting : Contains (waiting_inserts past) x ↔ (IsInsert x.thing x.number past × NoneUsesUp x.thing x.number past)

abbrev pub InsertsAreListed : Type 0
InsertsAreListed = (past : List Event) (x : Inserted) → ListsInserts past x

-- ---- waiting and pending

-- the script has the DPC object, or the thread of the APC object
abbrev pub is_known : Script → Thing → Bool
is_known s (DpcThing d) = has_dpc s d
is_known s (ApcThing a) = has_thread s (owner_of s a)

-- the insert of this number is pending: in some processor's queue, or at its thread
abbrev pub IsPending : Script → Thing → ℕ → List Event → Type 0
IsPending s (DpcThing d) n past = (p : CpuNo) × DpcIsPending s p d n past
IsPending s (ApcThing a) n past = ApcIsPending s (owner_of s a) a n past

-- in a run an insert waits exactly where it is pending
abbrev pub WaitingIsPending : Type 0
WaitingIsPending = (s : Script) (limit : ℕ) (thing : Thing) (n : ℕ) (past : List Event) → IsRun s limit past →
    is_known s thing ≡ true → (IsInsert thing n past × (fate_of thing n past ≡ StillWaits)) ↔ IsPending s thing n past

-- ---- exactly one fate

-- begun, flushed or removed by the first later event that uses it up; or pending at the end
abbrev pub Became : Script → Thing → ℕ → List Event → Fate → Type 0
Became s thing n past (BegunBy m) = IsFirstUse begins thing n m past
Became s thing n past (FlushedBy m) = IsFirstUse flushes thing n m past
Became s thing n past (RemovedBy m) = IsFirstUse calls thing n m past
Became s thing n past StillWaits = IsPending s thing n past

-- of these four it became exactly one
pub record HasOneFate (s : Script) (thing : Thing) (n : ℕ) (past : List Event) : Type 0 where
  pub fate : Fate
  pub had : Became s thing n past fate
  pub only : (x : Fate) → Became s thing n past x → x ≡ fate

-- in a run of a script that fits, each insert has exactly one fate
abbrev pub EachInsertHasOneFate : Type 0
EachInsertHasOneFate = (s : Script) (limit : ℕ) (thing : Thing) (n : ℕ) (past : List Event) → IsRun s limit past →
    fits s ≡ true → IsInsert thing n past → HasOneFate s thing n past

-- and those that are listed as waiting are those that are pending
abbrev pub WaitingAreThePending : Type 0
WaitingAreThePending = (s : Script) (limit : ℕ) (x : Inserted) (past : List Event) → IsRun s limit past →
    fits s ≡ true → Contains (waiting_inserts past) x ↔ IsPending s x.thing x.number past
