-- Readings of the definitions by positions: the number of an event is the count of those before it.
use Rattle.std.specs.Prelude.{List, Some, [], false, length, true, ℕ, ◌<◌, ◌∷◌, ◌↔◌, ◌≡◌, ◌⊎◌}
use Rattle.nt_event.specs.declared.events.Event.{Event}
use Rattle.nt_event.specs.declared.inserts.Part.{Part}
use Rattle.nt_event.specs.declared.numbers.ApcNo.{ApcNo}
use Rattle.nt_event.specs.declared.numbers.CpuNo.{CpuNo}
use Rattle.nt_event.specs.declared.numbers.DpcNo.{DpcNo}
use Rattle.nt_event.specs.declared.scripts.Script.{Script}
use Rattle.nt_event.specs.Fate.{ApcThing, DpcThing, Thing, inserted_thing, uses_up}
use Rattle.nt_event.specs.Objects.{inserted_dpc, queue_for, target_of}
use Rattle.nt_event.specs.Queues.{first_dpc, pending}
use Rattle.nt_event.specs.Routines.{owner_of}
use Rattle.nt_event.specs.Script.{has_dpc, has_thread}
use Rattle.nt_event.specs.Step.{IsRun}
use Rattle.nt_laws.specs.Fates.{ApcIsPending, DpcIsPending}
use Rattle.nt_runs.specs.First.{IsFirst}

-- event n is an insert of the DPC object into the queue of p: the object's target before it, else its processor
abbrev pub IsInsertedAt : CpuNo → DpcNo → ℕ → List Event → Type 0
IsInsertedAt p d n [] = ⊥
IsInsertedAt p d n (e ∷ past) = ((n ≡ length past) × (inserted_dpc e.what ≡ Some d) ×
    ((queue_for (target_of d past) e.cpu).0 ≡ p.0)) ⊎ IsInsertedAt p d n past

-- no event after event n uses up the insert that it made
abbrev pub NoneUsesUp : Thing → ℕ → List Event → Type 0
NoneUsesUp thing n [] = Unit {0}
NoneUsesUp thing n (e ∷ past) = (n < length past → uses_up thing n e.what ≡ false) × NoneUsesUp thing n past

-- in a run an insert of a DPC object of the script is pending in a queue exactly where its event put it there and no
-- later one uses it up
abbrev pub PendingIsInsertedAndNotUsedUp : Type 0
PendingIsInsertedAndNotUsedUp = (s : Script) (limit : ℕ) (d : DpcNo) (past : List Event) → IsRun s limit past →
    has_dpc s d ≡ true → (p : CpuNo) (n : ℕ) →
    DpcIsPending s p d n past ↔ (IsInsertedAt p d n past × NoneUsesUp (DpcThing d) n past)

-- the first of a part is the pending High one of greatest number, else the pending one of least number, and none
-- exactly where the part is empty
abbrev pub FirstIsByImportanceAndNumber : Type 0
FirstIsByImportanceAndNumber = (s : Script) (p : CpuNo) (past : List Event) (part : Part) →
    IsFirst part (pending s p past) (first_dpc part (pending s p past))

-- event n is an insert of the APC object
abbrev pub IsApcInsertedAt : ApcNo → ℕ → List Event → Type 0
IsApcInsertedAt a n [] = ⊥
IsApcInsertedAt a n (e ∷ past) = ((n ≡ length past) × (inserted_thing e.what ≡ Some (ApcThing a))) ⊎
    IsApcInsertedAt a n past

-- in a run an insert of an APC object whose thread the script has is pending at that thread exactly where its event
-- made it and no later one uses it up
abbrev pub PendingApcIsInsertedAndNotUsedUp : Type 0
PendingApcIsInsertedAndNotUsedUp = (s : Script) (limit : ℕ) (a : ApcNo) (past : List Event) → IsRun s limit past →
    has_thread s (owner_of s a) ≡ true → (n : ℕ) →
    ApcIsPending s (owner_of s a) a n past ↔ (IsApcInsertedAt a n past × NoneUsesUp (ApcThing a) n past)
