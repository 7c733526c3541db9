-- The fate of each insert is decided by the first later event that uses it up; in a run it waits exactly where it is pending.
use Rattle.std.proofs.Common.{ap, arith, inl, inr, subst, sym, ◌∙◌}
use Rattle.std.proofs.lemmas.Bool.{lt-ltb, ltb-false, ltb-true}
use Rattle.std.proofs.lemmas.List.Elements.{Contains-append_cases, Contains-append_left, Contains-append_right}
use Rattle.std.specs.List.{Contains}
use Rattle.std.specs.Prelude.{Bool, List, None, Option, Some, [], false, if◌then◌else◌, length, nat_lt, refl, true, ℕ, ◌&&◌, ◌<◌, ◌∷◌, ◌↔◌, ◌≡◌, ◌⊎◌}
use Rattle.nt_event.specs.declared.commands.Command.TheVariants.{InsertApc, Queue}
use Rattle.nt_event.specs.declared.commands.Reply.TheVariants.{Yes}
use Rattle.nt_event.specs.declared.events.Event.{Event}
use Rattle.nt_event.specs.declared.events.What.{What}
use Rattle.nt_event.specs.declared.events.What.TheVariants.{Begin, Call, Fire, Flush}
use Rattle.nt_event.specs.declared.numbers.ApcNo.{ApcNo}
use Rattle.nt_event.specs.declared.numbers.CpuNo.{CpuNo}
use Rattle.nt_event.specs.declared.numbers.DpcNo.{DpcNo}
use Rattle.nt_event.specs.declared.scripts.Script.{Script}
use Rattle.nt_event.specs.Fate.{ApcThing, BegunBy, DpcThing, Fate, FlushedBy, Inserted, RemovedBy, StillWaits, Thing, fate_by, fate_of, first_fate, inserted_by}
use Rattle.nt_event.specs.Fate.{inserted_thing, inserts, still_waits, uses_up, waiting_inserts}
use Rattle.nt_event.specs.Objects.{inserted_dpc, queue_for, target_of}
use Rattle.nt_event.specs.Routines.{owner_of}
use Rattle.nt_event.specs.Step.{IsRun}
use Rattle.nt_laws.specs.Fates.{ApcIsPending, DpcIsPending}
use Rattle.nt_readings.specs.Inserts.{IsApcInsertedAt, IsInsertedAt, NoneUsesUp}
use Rattle.nt_readings.specs.Fates.{IsFate, IsFirstUse, IsInsert, IsPending, ListsInserts, begins, calls, flushes, is_known}
use Rattle.nt_event.proofs.Elements.{contains_cases, contains_here, contains_kept, contains_none, kept_contains}
use Rattle.nt_readings.proofs.Apcs.{pending_apc_reads}
use Rattle.nt_readings.proofs.Pending.{pending_reads}

-- ---- the kinds of events that use up an insert

-- an event that uses up an insert is a Begin, a Flush or a call
uses_so : (thing : Thing) (n : ℕ) (w : What) → uses_up thing n w ≡ true → (begins w ≡ true) ⊎ ((flushes w ≡ true) ⊎ (calls w ≡ true))
uses_so thing n (Begin b from) h = inl refl
uses_so thing n (Flush a from) h = inr (inl refl)
uses_so thing n (Call f c y) h = inr (inr refl)
uses_so (DpcThing d) n w h = cc
uses_so (ApcThing a) n w h = cc

-- the fate that a Begin gives an insert is to be begun by it
begun_fate : (w : What) (k : ℕ) → begins w ≡ true → fate_by w k ≡ BegunBy k
begun_fate (Begin b from) k h = refl
begun_fate w k h = cc

-- the fate that a Flush gives an insert is to be flushed by it
flushed_fate : (w : What) (k : ℕ) → flushes w ≡ true → fate_by w k ≡ FlushedBy k
flushed_fate (Flush a from) k h = refl
flushed_fate w k h = cc

-- the fate that a call gives an insert is to be removed by it
removed_fate : (w : What) (k : ℕ) → calls w ≡ true → fate_by w k ≡ RemovedBy k
removed_fate (Call f c y) k h = refl
removed_fate w k h = cc

-- ---- the fate that is answered is had

-- the first event that uses up an insert gives it its fate
new_fate : (thing : Thing) (n : ℕ) (e : Event) (past : List Event) → n < length past → uses_up thing n e.what ≡ true → NoneUsesUp thing n past →
    IsFate thing n (e ∷ past) (fate_by e.what (length past))
new_fate thing n e past l u none = go (uses_so thing n e.what u)
  where
    go : (begins e.what ≡ true) ⊎ ((flushes e.what ≡ true) ⊎ (calls e.what ≡ true)) → IsFate thing n (e ∷ past) (fate_by e.what (length past))
    go (inl k) =
        subst (IsFate thing n (e ∷ past)) (sym (begun_fate e.what (length past) k)) (inl (refl, (l, k, u, none)))
    go (inr (inl k)) =
        subst (IsFate thing n (e ∷ past)) (sym (flushed_fate e.what (length past) k)) (inl (refl, (l, k, u, none)))
    go (inr (inr k)) =
        subst (IsFate thing n (e ∷ past)) (sym (removed_fate e.what (length past) k)) (inl (refl, (l, k, u, none)))

-- each insert has the fate that is answered for it
has_fate : (thing : Thing) (n : ℕ) (past : List Event) → IsFate thing n past (fate_of thing n past)
has_fate thing n [] = tt
has_fate thing n (e ∷ past) = go (fate_of thing n past) (has_fate thing n past)
  where
    later : (a b : Bool) → nat_lt n (length past) ≡ a → uses_up thing n e.what ≡ b → NoneUsesUp thing n past →
        IsFate thing n (e ∷ past) (if a && b then fate_by e.what (length past) else StillWaits)
    later true true l u none = new_fate thing n e past (ltb-true n (length past) l) u none
    later true false l u none = ((λ k. u), none)
    later false b l u none =
        ((λ k. let z = ltb-false n (length past) l in absurd (omega (arith, k, z))), none)

    go : (x : Fate) → IsFate thing n past x → IsFate thing n (e ∷ past)
        (first_fate x (if nat_lt n (length past) && uses_up thing n e.what then fate_by e.what (length past) else StillWaits))
    go (BegunBy m) h = inr h
    go (RemovedBy m) h = inr h
    go (FlushedBy m) h = inr h
    go StillWaits h = later (nat_lt n (length past)) (uses_up thing n e.what) refl refl h

-- ---- and it has no other

-- if the fate decided first isn't to wait, it stays the fate
first_other : (x y z : Fate) → x ≡ z → still_waits z ≡ false → first_fate x y ≡ z
first_other (BegunBy m) y z h k = h
first_other (RemovedBy m) y z h k = h
first_other (FlushedBy m) y z h k = h
first_other StillWaits y z h k = let s : still_waits StillWaits ≡ false = ap still_waits h ∙ k in cc

-- an "and" is false if its first side being true makes its second false
not_both : (a b : Bool) → (a ≡ true → b ≡ false) → (a && b) ≡ false
not_both true b h = h refl
not_both false b h = refl

-- an insert that no event uses up is answered to wait still
only_waits : (thing : Thing) (n : ℕ) (past : List Event) → NoneUsesUp thing n past → fate_of thing n past ≡ StillWaits
only_waits thing n [] h = refl
only_waits thing n (e ∷ past) h =
    let before = only_waits thing n past h.1 in
    let unused : (nat_lt n (length past) && uses_up thing n e.what)
    ≡ false = not_both (nat_lt n (length past)) (uses_up thing n e.what) (λ l. h.0 (ltb-true n (length past) l)) in
    rw (before, unused) refl

-- an insert whose first use is of a kind is answered the fate of that kind
only_used : (kind : What → Bool) (make : ℕ → Fate) (thing : Thing) (n m : ℕ) (past : List Event) →
    ((w : What) (k : ℕ) → kind w ≡ true → fate_by w k ≡ make k) → ((k : ℕ) → still_waits (make k) ≡ false) → IsFirstUse kind thing n m past →
    fate_of thing n past ≡ make m
only_used kind make thing n m [] f g h = absurd h
only_used kind make thing n m (e ∷ past) f g (inl h) =
    let before = only_waits thing n past h.1.3 in
    let l : nat_lt n (length past) ≡ true = lt-ltb n (length past) h.1.0 in
    let u = h.1.2 in
    rw (before, l, u) (f e.what (length past) h.1.1 ∙ ap make (sym h.0))
only_used kind make thing n m (e ∷ past) f g (inr h) =
    first_other (fate_of thing n past) (if nat_lt n (length past) && uses_up thing n e.what then fate_by e.what (length past) else StillWaits) (make m)
    (only_used kind make thing n m past f g h) (g m)

-- an insert that has a fate is answered that fate, so it has no other
only_fate : (thing : Thing) (n : ℕ) (past : List Event) (x : Fate) → IsFate thing n past x → fate_of thing n past ≡ x
only_fate thing n past (BegunBy m) h = only_used begins BegunBy thing n m past begun_fate (λ k. refl) h
only_fate thing n past (FlushedBy m) h = only_used flushes FlushedBy thing n m past flushed_fate (λ k. refl) h
only_fate thing n past (RemovedBy m) h = only_used calls RemovedBy thing n m past removed_fate (λ k. refl) h
only_fate thing n past StillWaits h = only_waits thing n past h

-- an insert has a fate exactly where the first later event that uses it up gives it, or none does and it waits
pub fate_is_first_use : (thing : Thing) (n : ℕ) (past : List Event) (x : Fate) → (fate_of thing n past ≡ x) ↔ IsFate thing n past x
fate_is_first_use thing n past x =
    (λ h. subst (IsFate thing n past) h (has_fate thing n past), λ h. only_fate thing n past x h)

-- ---- the inserts of a history

-- what an event is listed to insert has the event's number and is the thing that it inserts
by_event : (n : ℕ) (o : Option Thing) (x : Inserted) → Contains (inserted_by n o) x → (x.number ≡ n) × (o ≡ Some x.thing)
by_event n None x h = contains_none x h
by_event n (Some thing) x h = go (contains_cases (record { number = n; thing = thing }) [] x h)
  where
    go : (record { number = n; thing = thing } ≡ x) ⊎ Contains [] x → (x.number ≡ n) × (Some thing ≡ Some x.thing)
    go (inl e) = (ap (λ (x : Inserted). x.number) (sym e), ap (λ (x : Inserted). Some x.thing) e)
    go (inr e) = contains_none x e

-- an insert that is listed was made by the event of its number
listed_insert : (past : List Event) (x : Inserted) → Contains (inserts past) x → IsInsert x.thing x.number past
listed_insert [] x h = contains_none x h
listed_insert (e ∷ past) x h =
    go (Contains-append_cases (inserts past) (inserted_by (length past) (inserted_thing e.what)) x h) (λ k. listed_insert past x k)
  where
    go : Contains (inserts past) x ⊎ Contains (inserted_by (length past) (inserted_thing e.what)) x →
        (Contains (inserts past) x → IsInsert x.thing x.number past) → IsInsert x.thing x.number (e ∷ past)
    go (inl k) ih = inr (ih k)
    go (inr k) ih = inl (by_event (length past) (inserted_thing e.what) x k)

-- an insert that an event made is listed
insert_listed : (past : List Event) (x : Inserted) → IsInsert x.thing x.number past → Contains (inserts past) x
insert_listed [] x h = absurd h
insert_listed (e ∷ past) x (inr h) =
    Contains-append_left (inserts past) (inserted_by (length past) (inserted_thing e.what)) x (insert_listed past x h)
insert_listed (e ∷ past) x (inl h) =
    Contains-append_right (inserts past) (inserted_by (length past) (inserted_thing e.what)) x
    (subst (λ (o : Option Thing). Contains (inserted_by (length past) o) x) (sym h.1) here)
  where
    here : Contains (inserted_by (length past) (Some x.thing)) x
    here =
        subst (λ (n : ℕ). Contains (record { number = n; thing = x.thing } ∷ []) x) h.0 (contains_here x [])

-- a fate that passes the test for waiting is to wait still
waits_still : (x : Fate) → still_waits x ≡ true → x ≡ StillWaits
waits_still StillWaits h = refl
waits_still x h = cc

-- the lists of inserts and of waiting inserts have exactly those that were made, and those not used up since
pub inserts_listed : (past : List Event) (x : Inserted) → ListsInserts past x
inserts_listed past x =
    record { each = (λ h. listed_insert past x h, λ h. insert_listed past x h); waiting = (forth, back) }
  where
    forth : Contains (waiting_inserts past) x → IsInsert x.thing x.number past × NoneUsesUp x.thing x.number past
    forth h =
        let k = kept_contains (λ x. still_waits (fate_of x.thing x.number past)) (inserts past) x h in
        (listed_insert past x k.0, (fate_is_first_use x.thing x.number past StillWaits).0 (waits_still (fate_of x.thing x.number past) k.1))

    back : IsInsert x.thing x.number past × NoneUsesUp x.thing x.number past → Contains (waiting_inserts past) x
    back h =
        contains_kept (λ x. still_waits (fate_of x.thing x.number past)) (inserts past) x (insert_listed past x h.0)
        (ap still_waits (only_waits x.thing x.number past h.1))

-- ---- waiting and pending

-- an event that inserts a DPC as a thing inserts that DPC
thing_dpc : (w : What) (d : DpcNo) → inserted_thing w ≡ Some (DpcThing d) → inserted_dpc w ≡ Some d
thing_dpc (Call f (Queue x) Yes) d h = let same : x ≡ d = cc in ap (λ (d : DpcNo). Some d) same
thing_dpc (Fire x Yes) d h = let same : x ≡ d = cc in ap (λ (d : DpcNo). Some d) same
thing_dpc (Call f (InsertApc a) Yes) d h = cc
thing_dpc w d h = cc

-- an event that inserts a DPC inserts that DPC as its thing
pub dpc_thing : (w : What) (d : DpcNo) → inserted_dpc w ≡ Some d → inserted_thing w ≡ Some (DpcThing d)
dpc_thing (Call f (Queue x) Yes) d h = let same : x ≡ d = cc in ap (λ (d : DpcNo). Some (DpcThing d)) same
dpc_thing (Fire x Yes) d h = let same : x ≡ d = cc in ap (λ (d : DpcNo). Some (DpcThing d)) same
dpc_thing w d h = cc

-- an insert of a DPC as a thing went into the queue of some processor
insert_at : (d : DpcNo) (n : ℕ) (past : List Event) → IsInsert (DpcThing d) n past → (p : CpuNo) × IsInsertedAt p d n past
insert_at d n [] h = absurd h
insert_at d n (e ∷ past) (inl h) = (queue_for (target_of d past) e.cpu, inl (h.0, thing_dpc e.what d h.1, refl))
insert_at d n (e ∷ past) (inr h) = let k = insert_at d n past h in (k.0, inr k.1)

-- an insert of a DPC into the queue of a processor is an insert of that DPC as a thing
pub at_insert : (p : CpuNo) (d : DpcNo) (n : ℕ) (past : List Event) → IsInsertedAt p d n past → IsInsert (DpcThing d) n past
at_insert p d n [] h = absurd h
at_insert p d n (e ∷ past) (inl h) = inl (h.0, dpc_thing e.what d h.1)
at_insert p d n (e ∷ past) (inr h) = inr (at_insert p d n past h)

-- an insert of an APC as a thing is an insert of that APC
pub apc_at : (a : ApcNo) (n : ℕ) (past : List Event) → IsInsert (ApcThing a) n past → IsApcInsertedAt a n past
apc_at a n [] h = h
apc_at a n (e ∷ past) (inl h) = inl h
apc_at a n (e ∷ past) (inr h) = inr (apc_at a n past h)

-- an insert of an APC is an insert of it as a thing
pub at_apc : (a : ApcNo) (n : ℕ) (past : List Event) → IsApcInsertedAt a n past → IsInsert (ApcThing a) n past
at_apc a n [] h = h
at_apc a n (e ∷ past) (inl h) = inl h
at_apc a n (e ∷ past) (inr h) = inr (at_apc a n past h)

-- in a run an insert of a known object still waits exactly where it is pending
pub waiting_is_pending : (s : Script) (limit : ℕ) (thing : Thing) (n : ℕ) (past : List Event) → IsRun s limit past → is_known s thing ≡ true →
    (IsInsert thing n past × (fate_of thing n past ≡ StillWaits)) ↔ IsPending s thing n past
waiting_is_pending s limit (DpcThing d) n past r has = (forth, back)
  where
    forth : IsInsert (DpcThing d) n past × (fate_of (DpcThing d) n past ≡ StillWaits) → (p : CpuNo) × DpcIsPending s p d n past
    forth h =
        let a = insert_at d n past h.0 in
        (a.0, (pending_reads s limit d past r has a.0 n).1 (a.1, (fate_is_first_use (DpcThing d) n past StillWaits).0 h.1))

    back : (p : CpuNo) × DpcIsPending s p d n past → IsInsert (DpcThing d) n past × (fate_of (DpcThing d) n past ≡ StillWaits)
    back k =
        let a = (pending_reads s limit d past r has k.0 n).0 k.1 in
        (at_insert k.0 d n past a.0, only_waits (DpcThing d) n past a.1)
waiting_is_pending s limit (ApcThing a) n past r has = (forth, back)
  where
    forth : IsInsert (ApcThing a) n past × (fate_of (ApcThing a) n past ≡ StillWaits) → ApcIsPending s (owner_of s a) a n past
    forth h =
        (pending_apc_reads s limit a past r has n).1 (apc_at a n past h.0, (fate_is_first_use (ApcThing a) n past StillWaits).0 h.1)

    back : ApcIsPending s (owner_of s a) a n past → IsInsert (ApcThing a) n past × (fate_of (ApcThing a) n past ≡ StillWaits)
    back k =
        let b = (pending_apc_reads s limit a past r has n).0 k in
        (at_apc a n past b.0, only_waits (ApcThing a) n past b.1)
