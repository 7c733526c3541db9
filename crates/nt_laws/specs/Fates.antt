-- The fate of inserts in a run.
use Rattle.std.specs.List.{Contains}
use Rattle.std.specs.Prelude.{Bool, List, None, Option, Some, [], false, filter, if◌then◌else◌, is_some, length, map}
use Rattle.std.specs.Prelude.{true, ℕ, ◌&&◌, ◌<◌, ◌==◌, ◌∷◌, ◌≡◌, ◌≤◌}
use Rattle.nt_event.specs.declared.events.Begun.TheVariants.{Apc, Dpc, Threaded, Int}
use Rattle.nt_event.specs.declared.events.Event.{Event}
use Rattle.nt_event.specs.declared.events.What.{What}
use Rattle.nt_event.specs.declared.inserts.Insert.{Insert}
use Rattle.nt_event.specs.declared.inserts.Pick.{Pick}
use Rattle.nt_event.specs.declared.inserts.Standing.{Standing}
use Rattle.nt_event.specs.declared.numbers.ApcNo.{ApcNo}
use Rattle.nt_event.specs.declared.numbers.CpuNo.{CpuNo}
use Rattle.nt_event.specs.declared.numbers.DpcNo.{DpcNo}
use Rattle.nt_event.specs.declared.numbers.ThreadNo.{ThreadNo}
use Rattle.nt_event.specs.declared.scripts.Script.{Script}
use Rattle.nt_event.specs.Apcs.{is_inserted, is_of_apc}
use Rattle.nt_event.specs.Fate.{ApcThing, DpcThing, StillWaits, Thing, fate_of, apc_begun, is_apc}
use Rattle.nt_event.specs.Frames.{running}
use Rattle.nt_event.specs.Objects.{standing, dpc_begun, is_dpc}
use Rattle.nt_event.specs.Queues.{is_of_dpc, pending}
use Rattle.nt_event.specs.Routines.{owner_of}
use Rattle.nt_event.specs.Script.{fits, has_apc, has_dpc, has_thread}
use Rattle.nt_event.specs.Step.{IsRun}
use Rattle.nt_event.specs.Waits.{facts}
use Rattle.nt_event.specs.Replies.{is_refused, yes_if}
use Rattle.nt_event.specs.Families.{AddApc, ApcCall, DpcCall, GiveImportance, GiveTarget, InsertDpc, RemoveDpc, TakeApc}
use Rattle.nt_event.specs.Families.{by_apc_call, by_dpc_call, in_begin, in_call, in_flush}
use Rattle.nt_event.specs.declared.events.Begun.{Begun}
use Rattle.nt_event.specs.declared.commands.Reply.{Reply}

-- the insert of the DPC object at this number is pending in the queue of p
abbrev pub DpcIsPending : Script → CpuNo → DpcNo → ℕ → List Event → Type 0
DpcIsPending s p d n past = (x : Insert) × Contains (pending s p past) x × (x.dpc ≡ d) × (x.number ≡ n)

-- the insert of the APC object at this number is pending at the thread
abbrev pub ApcIsPending : Script → ThreadNo → ApcNo → ℕ → List Event → Type 0
ApcIsPending s t a n past =
    (x : Pick) × Contains (facts s t past).apcs.pending x × (x.apc ≡ a) × (x.number ≡ n)

-- the insert of the APC object at this number is pending at its own thread, which runs on p
abbrev pub ApcIsDeliverable : Script → CpuNo → ApcNo → ℕ → List Event → Type 0
ApcIsDeliverable s p a n past = (running p past ≡ Some (owner_of s a)) × ApcIsPending s (owner_of s a) a n past

abbrev pub BeginNamesPending : Script → CpuNo → Begun → ℕ → List Event → Type 0
BeginNamesPending s p (Dpc d) from past = DpcIsPending s p d from past
BeginNamesPending s p (Threaded d) from past = DpcIsPending s p d from past
BeginNamesPending s p (Apc a) from past = ApcIsDeliverable s p a from past
BeginNamesPending s p (Int level) from past = Unit {0}

-- what an event of p delivers is pending: a DPC in the queue of p, an APC at its own thread, which runs on p
abbrev pub NamesPending : Script → CpuNo → What → List Event → Type 0
NamesPending s p w past =
    in_begin (λ b from. BeginNamesPending s p b from past)
    (in_flush (λ a from. ApcIsDeliverable s p a from past) (Unit {0}) w) w

-- in a run each Begin of a DPC or APC and each Flush names an insert of its object that was pending just before it
abbrev pub DeliveriesNamePendingInserts : Type 0
DeliveriesNamePendingInserts = (s : Script) (limit : ℕ) (e : Event) (past : List Event) → IsRun s limit (e ∷ past) →
    NamesPending s e.cpu e.what past

abbrev pub DpcRemovalTells : Script → DpcCall → Reply → List Event → Type 0
DpcRemovalTells s (RemoveDpc d) y past =
    has_dpc s d ≡ true → is_refused y ≡ false → y ≡ yes_if (is_some (standing d past))
DpcRemovalTells s (InsertDpc d) y past = Unit {0}
DpcRemovalTells s (GiveImportance d i) y past = Unit {0}
DpcRemovalTells s (GiveTarget d q) y past = Unit {0}

abbrev pub ApcRemovalTells : Script → ApcCall → Reply → List Event → Type 0
ApcRemovalTells s (TakeApc a) y past =
    has_thread s (owner_of s a) ≡ true → is_refused y ≡ false → y
    ≡ yes_if (is_inserted a (facts s (owner_of s a) past).apcs)
ApcRemovalTells s (AddApc a) y past = Unit {0}

-- a removal of an object of the script that isn't refused answers yes exactly where the object is inserted, and else no
abbrev pub RemovalTells : Script → What → List Event → Type 0
RemovalTells s w past =
    in_call (λ f c y. by_dpc_call (λ k. DpcRemovalTells s k y past)
    (by_apc_call (λ k. ApcRemovalTells s k y past) (Unit {0}) c) c) (Unit {0}) w

-- in a run each removal tells whether its object was inserted just before it
abbrev pub RemovalsTell : Type 0
RemovalsTell = (s : Script) (limit : ℕ) (e : Event) (past : List Event) → IsRun s limit (e ∷ past) →
    RemovalTells s e.what past

-- the numbers of the object's inserts among these
abbrev pub numbers_of : DpcNo → List Insert → List ℕ
numbers_of d xs = map (λ x. x.number) (filter (is_of_dpc d) xs)

-- the number of a pending insert that stands in the queue of p, as a list
abbrev pub numbers_at : CpuNo → Option Standing → List ℕ
numbers_at p None = []
numbers_at p (Some x) = if x.queue.0 == p.0 then x.number ∷ [] else []

-- in a run queues and objects agree: a queue has of each object of the script the one insert that stands there, or none
abbrev pub QueuesAgreeWithObjects : Type 0
QueuesAgreeWithObjects = (s : Script) (limit : ℕ) (d : DpcNo) (past : List Event) → IsRun s limit past → has_dpc s d
    ≡ true → (p : CpuNo) → numbers_of d (pending s p past) ≡ numbers_at p (standing d past)

-- in a run two pending inserts of one object of the script are in the same queue and have the same number
abbrev pub AtMostOnePendingInsert : Type 0
AtMostOnePendingInsert = (s : Script) (limit : ℕ) (d : DpcNo) (past : List Event) → IsRun s limit past → has_dpc s d
    ≡ true → (p q : CpuNo) (n m : ℕ) → DpcIsPending s p d n past → DpcIsPending s q d m past → (p.0 ≡ q.0) × (n ≡ m)

-- the event delivers the insert of the thing at this number: it is a Begin or Flush that names it
abbrev pub delivers : Thing → ℕ → What → Bool
delivers (DpcThing d) n w = in_begin (λ b from. is_dpc (dpc_begun b) d && (from == n)) false w
delivers (ApcThing a) n w =
    in_begin (λ b from. is_apc (apc_begun b) a && (from == n))
    (in_flush (λ x from. (x.0 == a.0) && (from == n)) false w) w

-- where it is a DPC object, the script has it
abbrev pub is_declared : Script → Thing → Bool
is_declared s (DpcThing d) = has_dpc s d
is_declared s (ApcThing a) = true

-- in a run the number that a delivery names is an earlier one, and no event before the delivery began, removed or
-- flushed the object's insert of that number
abbrev pub DeliveredInsertsWait : Type 0
DeliveredInsertsWait = (s : Script) (limit : ℕ) (e : Event) (past : List Event) (thing : Thing) (n : ℕ) →
    IsRun s limit (e ∷ past) → is_declared s thing ≡ true → delivers thing n e.what ≡ true → (n < length past) ×
    (fate_of thing n past ≡ StillWaits)

-- in a run no event delivers an insert that an earlier one delivered
abbrev pub NoInsertIsDeliveredTwice : Type 0
NoInsertIsDeliveredTwice = (s : Script) (limit : ℕ) (e : Event) (past : List Event) (thing : Thing) (n : ℕ) →
    IsRun s limit (e ∷ past) → is_declared s thing ≡ true → delivers thing n e.what ≡ true → (f : Event) →
    Contains past f → delivers thing n f.what ≡ false

-- in a run an APC object whose thread the script has stands at most once among the pending ones of its thread
abbrev pub ApcStandsAtMostOnce : Type 0
ApcStandsAtMostOnce = (s : Script) (limit : ℕ) (a : ApcNo) (past : List Event) → IsRun s limit past →
    has_thread s (owner_of s a) ≡ true → length (filter (is_of_apc a) (facts s (owner_of s a) past).apcs.pending) ≤ 1

-- in a run two pending inserts of such an object are at the same thread and have the same number
abbrev pub AtMostOnePendingApc : Type 0
AtMostOnePendingApc = (s : Script) (limit : ℕ) (a : ApcNo) (past : List Event) → IsRun s limit past →
    has_thread s (owner_of s a) ≡ true → (t u : ThreadNo) (n m : ℕ) → ApcIsPending s t a n past →
    ApcIsPending s u a m past → (t.0 ≡ u.0) × (n ≡ m)

-- in a script that fits, the thread of each of its APC objects is one of its threads
abbrev pub ApcsHaveTheirThreads : Type 0
ApcsHaveTheirThreads = (s : Script) (a : ApcNo) → fits s ≡ true → has_apc s a ≡ true → has_thread s (owner_of s a)
    ≡ true
