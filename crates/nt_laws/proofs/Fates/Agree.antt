-- In a run queues and objects agree: an object has at most one pending insert.
use Rattle.std.proofs.Common.{ap, subst, sym, ◌∙◌}
use Rattle.std.specs.List.{Contains}
use Rattle.std.specs.Prelude.{List, None, Option, Some, [], false, length, not, option_map, refl, true, ℕ, ◌==◌, ◌∷◌, ◌≡◌}
use Rattle.nt_event.specs.declared.commands.Command.TheVariants.{Queue, Unqueue}
use Rattle.nt_event.specs.declared.commands.Reply.TheVariants.{Yes}
use Rattle.nt_event.specs.declared.events.Begun.TheVariants.{Dpc, Threaded}
use Rattle.nt_event.specs.declared.events.Event.{Event}
use Rattle.nt_event.specs.declared.events.What.{What}
use Rattle.nt_event.specs.declared.events.What.TheVariants.{Begin, Call, Fire}
use Rattle.nt_event.specs.declared.inserts.Standing.{Standing}
use Rattle.nt_event.specs.declared.numbers.CpuNo.{CpuNo}
use Rattle.nt_event.specs.declared.numbers.DpcNo.{DpcNo}
use Rattle.nt_event.specs.declared.scripts.Script.{Script}
use Rattle.nt_event.specs.Lanes.{lanes_at}
use Rattle.nt_event.specs.Objects.{ObjectState, is_queued, object_in, object_of, objects_at, standing, standing_after, target_of}
use Rattle.nt_event.specs.Own.{own_of}
use Rattle.nt_event.specs.Queues.{is_queue, pending, pending_after}
use Rattle.nt_event.specs.Script.{has_dpc}
use Rattle.nt_event.specs.Step.{IsRun}
use Rattle.nt_event.specs.Replies.{yes_if}
use Rattle.nt_runs.proofs.Known.{Known, legal_known}
use Rattle.nt_event.proofs.Options.{not_true}
use Rattle.nt_runs.proofs.Stops.{call_accepted}
use Rattle.nt_runs.proofs.Turns.{is_next}
use Rattle.nt_laws.specs.Fates.{DpcIsPending, NamesPending, numbers_at, numbers_of}
use Rattle.nt_laws.proofs.Fates.Deliveries.{deliveries_name_pending_inserts}
use Rattle.nt_laws.proofs.Fates.Numbers.{contains_number, drop_step, insert_step, stands_at, stands_elsewhere}
use Rattle.nt_laws.proofs.Fates.Removals.{object_there}
use Rattle.nt_runs.proofs.Pending.{is_none_of, yes_if_true}

abbrev pub Agree : Script → DpcNo → List Event → CpuNo → Type 0
Agree s d past p = numbers_of d (pending s p past) ≡ numbers_at p (standing d past)

-- the state of the object of a declared DPC is what the history tells of that DPC
same_object : (s : Script) (d x : DpcNo) (past : List Event) → has_dpc s d ≡ true → x.0 ≡ d.0 → object_in (objects_at s past) x ≡ object_of d past
same_object s d x past has e =
    ap (λ (n : ℕ). object_in (objects_at s past) (record { 0 = n })) e ∙ object_there s d past has

-- an object whose insert is answered by yes had none
pub was_none : (s : Script) (d x : DpcNo) (past : List Event) → has_dpc s d ≡ true → Yes ≡ yes_if (not (is_queued (object_in (objects_at s past) x))) → x.0
    ≡ d.0 → standing d past ≡ None
was_none s d x past has y e =
    is_none_of (standing d past) (ap is_queued (sym (same_object s d x past has e))
    ∙ not_true (is_queued (object_in (objects_at s past) x)) (yes_if_true (not (is_queued (object_in (objects_at s past) x))) (sym y)))

-- an accepted insert finds the DPC in no queue, and the object's target is that of the history
inserted : (s : Script) (d x : DpcNo) (past : List Event) (p by : CpuNo) → has_dpc s d ≡ true → Agree s d past p → Yes
    ≡ yes_if (not (is_queued (object_in (objects_at s past) x))) → x.0 ≡ d.0 → (numbers_of d (pending s p past) ≡ []) ×
    ((object_in (objects_at s past) x).target ≡ target_of d past)
inserted s d x past p by has ih y e =
    (ih ∙ ap (numbers_at p) (was_none s d x past has y e), ap (λ (o : ObjectState). o.target) (same_object s d x past has e))

-- a delivery takes the insert from its own queue, so there is none elsewhere
delivered : (s : Script) (d x : DpcNo) (past : List Event) (p by : CpuNo) (from : ℕ) → ((q : CpuNo) → Agree s d past q) → DpcIsPending s by x from past → x.0
    ≡ d.0 → (by.0 == p.0) ≡ false → numbers_of d (pending s p past) ≡ []
delivered s d x past p by from ih k e h =
    let there : Contains (numbers_of d (pending s by past)) k.0.number = contains_number d (pending s by past) k.0 k.1 (ap (λ (d : DpcNo). d.0) k.2 ∙ e) in
    let at = stands_at by (standing d past) k.0.number (subst (λ (ns : List ℕ). Contains ns k.0.number) (ih by) there) in
    ih p ∙ (ap (numbers_at p) at.1 ∙ stands_elsewhere p by at.0 at.2 h)

-- a removal takes it from the queue where it stands
removed : (s : Script) (d x : DpcNo) (past : List Event) (p : CpuNo) → has_dpc s d ≡ true → Agree s d past p → x.0 ≡ d.0 →
    is_queue (option_map (λ x. x.queue) (object_in (objects_at s past) x).standing) p ≡ false → numbers_of d (pending s p past) ≡ []
removed s d x past p has ih e h =
    ih ∙ go (standing d past) (ap (λ (o : ObjectState). is_queue (option_map (λ x. x.queue) o.standing) p) (sym (same_object s d x past has e)) ∙ h)
  where
    go : (o : Option Standing) → is_queue (option_map (λ x. x.queue) o) p ≡ false → numbers_at p o ≡ []
    go None k = refl
    go (Some y) k = stands_elsewhere p y.queue y refl k

-- an event of a run keeps queues and object of a declared DPC in agreement, on each processor
agree_after : (s : Script) (limit : ℕ) (d : DpcNo) (e : Event) (past : List Event) → IsRun s limit (e ∷ past) → has_dpc s d ≡ true →
    ((q : CpuNo) → Agree s d past q) → (p : CpuNo) → Agree s d (e ∷ past) p
agree_after s limit d e past r has ih p = go e.what refl
  where
    known : (w : What) → e.what ≡ w → is_next w ≡ true → Known s e.cpu (own_of s e.cpu past) (lanes_at s past) w
    known w k n =
        subst (Known s e.cpu (own_of s e.cpu past) (lanes_at s past)) k (legal_known s limit e past r.0 (ap is_next k ∙ n))

    names : (w : What) → e.what ≡ w → NamesPending s e.cpu w past
    names w k = subst (λ (w : What). NamesPending s e.cpu w past) k (deliveries_name_pending_inserts s limit e past r)

    go : (w : What) → e.what ≡ w → numbers_of d (pending_after s p (length past) e.cpu w (objects_at s past) (pending s p past))
        ≡ numbers_at p (standing_after d (length past) e.cpu w (target_of d past) (standing d past))
    go (Call f (Queue x) Yes) k =
        insert_step s p d x (length past) e.cpu (objects_at s past) (pending s p past) (target_of d past) (standing d past) (ih p)
        (inserted s d x past p e.cpu has (ih p) (call_accepted s e.cpu (own_of s e.cpu past) (lanes_at s past) f (Queue x) Yes
        (known (Call f (Queue x) Yes) k refl) refl).1)
    go (Fire x Yes) k =
        insert_step s p d x (length past) e.cpu (objects_at s past) (pending s p past) (target_of d past) (standing d past) (ih p)
        (inserted s d x past p e.cpu has (ih p) (known (Fire x Yes) k refl).1)
    go (Begin (Dpc x) from) k =
        drop_step p d x e.cpu (Begin (Dpc x) from) (objects_at s past) (pending s p past) (standing d past) (ih p)
        (λ i h. delivered s d x past p e.cpu from ih (names (Begin (Dpc x) from) k) i h)
    go (Begin (Threaded x) from) k =
        drop_step p d x e.cpu (Begin (Threaded x) from) (objects_at s past) (pending s p past) (standing d past) (ih p)
        (λ i h. delivered s d x past p e.cpu from ih (names (Begin (Threaded x) from) k) i h)
    go (Call f (Unqueue x) Yes) k =
        drop_step p d x e.cpu (Call f (Unqueue x) Yes) (objects_at s past) (pending s p past) (standing d past) (ih p)
        (λ i h. removed s d x past p has (ih p) i h)
    go w k = ih p

-- in a run the inserts of a DPC in a queue are the one that its object says stands there, or none
pub agree : (s : Script) (limit : ℕ) (d : DpcNo) (past : List Event) → IsRun s limit past → has_dpc s d ≡ true → (p : CpuNo) → Agree s d past p
agree s limit d [] r has p = refl
agree s limit d (e ∷ past) r has p =
    agree_after s limit d e past r has (λ q. agree s limit d past r.1 has q) p

-- a pending insert is the one that stands
pub pending_stands : (s : Script) (limit : ℕ) (d : DpcNo) (past : List Event) → IsRun s limit past → has_dpc s d ≡ true → (p : CpuNo) (n : ℕ) →
    DpcIsPending s p d n past → (x : Standing) × (standing d past ≡ Some x) × (x.queue.0 ≡ p.0) × (x.number ≡ n)
pending_stands s limit d past r has p n k =
    let there : Contains (numbers_of d (pending s p past)) n = subst (Contains (numbers_of d (pending s p past))) k.3
    (contains_number d (pending s p past) k.0 k.1 (ap (λ (d : DpcNo). d.0) k.2)) in
    stands_at p (standing d past) n (subst (λ (ns : List ℕ). Contains ns n) (agree s limit d past r has p) there)

-- in a run a DPC has at most one pending insert, in one queue
pub at_most_one : (s : Script) (limit : ℕ) (d : DpcNo) (past : List Event) → IsRun s limit past → has_dpc s d ≡ true → (p q : CpuNo) (n m : ℕ) →
    DpcIsPending s p d n past → DpcIsPending s q d m past → (p.0 ≡ q.0) × (n ≡ m)
at_most_one s limit d past r has p q n m h k =
    let a = pending_stands s limit d past r has p n h in
    let b = pending_stands s limit d past r has q m k in
    let same : a.0 ≡ b.0 = same_some a.0 b.0 (sym a.1 ∙ b.1) in
    (sym a.2 ∙ (ap (λ (x : Standing). x.queue.0) same ∙ b.2), sym a.3 ∙ (ap (λ (x : Standing). x.number) same ∙ b.3))
  where
    same_some : (x y : Standing) → ◌≡◌ {A = Option Standing} (Some x) (Some y) → x ≡ y
    same_some x y e = cc
