-- In a run an insert is pending exactly where its event made it and no later one uses it up.
use Rattle.std.proofs.Common.{ap, arith, inl, inr, subst, sym, ◌∙◌}
use Rattle.std.proofs.lemmas.Bool.{both_ways, eq-eqb}
use Rattle.std.specs.List.{Contains}
use Rattle.std.specs.Prelude.{Bool, List, None, Option, Some, [], false, if◌then◌else◌, length, refl, true, ℕ, ◌&&◌, ◌<◌, ◌==◌, ◌∷◌, ◌↔◌, ◌≡◌, ◌≤◌}
use Rattle.std.proofs.lemmas.Bool.{eqb-true}
use Rattle.nt_event.specs.declared.commands.Command.TheVariants.{Queue, Unqueue}
use Rattle.nt_event.specs.declared.commands.Reply.TheVariants.{Yes}
use Rattle.nt_event.specs.declared.events.Begun.TheVariants.{Dpc, Threaded}
use Rattle.nt_event.specs.declared.events.Event.{Event}
use Rattle.nt_event.specs.declared.events.What.{What}
use Rattle.nt_event.specs.declared.events.What.TheVariants.{Begin, Call, Fire}
use Rattle.nt_event.specs.declared.inserts.Standing.{Standing}
use Rattle.nt_event.specs.declared.numbers.CpuNo.{CpuNo}
use Rattle.nt_event.specs.declared.numbers.DpcNo.{DpcNo}
use Rattle.nt_event.specs.declared.scripts.Script.{Script}
use Rattle.nt_event.specs.Fate.{DpcThing, Thing, uses_up}
use Rattle.nt_event.specs.Lanes.{lanes_at}
use Rattle.nt_event.specs.Objects.{inserted_dpc, is_dpc, queue_for, standing, target_of, used_up_dpc}
use Rattle.nt_event.specs.Own.{own_of}
use Rattle.nt_event.specs.Queues.{pending}
use Rattle.nt_event.specs.Script.{has_dpc}
use Rattle.nt_event.specs.Step.{IsRun}
use Rattle.nt_runs.proofs.Known.{Known, legal_known}
use Rattle.nt_runs.proofs.Stops.{call_accepted}
use Rattle.nt_runs.proofs.Turns.{is_next}
use Rattle.nt_laws.specs.Fates.{DpcIsPending, NamesPending, numbers_at, numbers_of}
use Rattle.nt_readings.specs.Inserts.{IsInsertedAt, NoneUsesUp}
use Rattle.nt_laws.proofs.Fates.Agree.{agree, pending_stands, was_none}
use Rattle.nt_laws.proofs.Fates.Deliveries.{deliveries_name_pending_inserts}
use Rattle.nt_event.proofs.Elements.{contains_here}
use Rattle.nt_laws.proofs.Fates.Numbers.{number_contains, placed}
use Rattle.nt_laws.proofs.Fates.Waiting.{unused_dpc}

-- ---- what stands was inserted and not used up

-- no event of a history uses up an insert whose number isn't below the history's length
pub none_yet : (thing : Thing) (n : ℕ) (past : List Event) → length past ≤ n → NoneUsesUp thing n past
none_yet thing n [] h = tt
none_yet thing n (e ∷ past) h =
    (λ l. absurd (omega (arith, h, l)), none_yet thing n past (omega (arith, h)))

abbrev pub Reads : DpcNo → CpuNo → ℕ → List Event → Type 0
Reads d p n past = IsInsertedAt p d n past × NoneUsesUp (DpcThing d) n past

-- if the DPC that an event inserts passes the test for a DPC, the event inserts that DPC
inserts_it : (d : DpcNo) (w : What) → is_dpc (inserted_dpc w) d ≡ true → inserted_dpc w ≡ Some d
inserts_it d w h = go (inserted_dpc w) h
  where
    go : (o : Option DpcNo) → is_dpc o d ≡ true → o ≡ Some d
    go None k = cc
    go (Some x) k = ap (λ (n : ℕ). Some (record { 0 = n })) (eqb-true x.0 d.0 k)

-- a DPC that stands in a queue was inserted by the event of its number and not used up since
standing_reads : (d : DpcNo) (past : List Event) (x : Standing) → standing d past ≡ Some x → Reads d x.queue x.number past
standing_reads d [] x h = cc
standing_reads d (e ∷ past) x h =
    go (is_dpc (inserted_dpc e.what) d) (is_dpc (used_up_dpc e.what) d) refl refl h (λ k. standing_reads d past x k)
  where
    go : (b c : Bool) → is_dpc (inserted_dpc e.what) d ≡ b → is_dpc (used_up_dpc e.what) d ≡ c →
        (if b then Some (record { queue = queue_for (target_of d past) e.cpu; number = length past }) else (if c then None else standing d past)) ≡ Some x →
        (standing d past ≡ Some x → Reads d x.queue x.number past) → Reads d x.queue x.number (e ∷ past)
    go true c i u k ih = subst (λ (y : Standing). Reads d y.queue y.number (e ∷ past)) (same_some _ x k) new
      where
        same_some : (y z : Standing) → ◌≡◌ {A = Option Standing} (Some y) (Some z) → y ≡ z
        same_some y z q = cc

        new : Reads d (queue_for (target_of d past) e.cpu) (length past) (e ∷ past)
        new =
            (inl (refl, inserts_it d e.what i, refl), (λ l. absurd (omega (arith, l)), none_yet (DpcThing d) (length past) past (omega arith)))
    go false true i u k ih = cc
    go false false i u k ih =
        let r = ih k in (inr r.0, (λ l. unused_dpc d x.number e.what u, r.1))

-- ---- what was inserted and not used up stands

-- an event that inserted a DPC into a queue has a number below the length of the history
inserted_before : (p : CpuNo) (d : DpcNo) (n : ℕ) (past : List Event) → IsInsertedAt p d n past → n < length past
inserted_before p d n [] h = absurd h
inserted_before p d n (e ∷ past) (inl h) = let k = h.0 in omega (arith, k)
inserted_before p d n (e ∷ past) (inr h) = let k = inserted_before p d n past h in omega (arith, k)

abbrev pub Stands : DpcNo → CpuNo → ℕ → List Event → Type 0
Stands d p n past = (x : Standing) × (standing d past ≡ Some x) × (x.queue.0 ≡ p.0) × (x.number ≡ n)

-- no standing of a DPC isn't some standing
none_some : {A : Type 0} (o : Option Standing) (x : Standing) → o ≡ None → o ≡ Some x → A
none_some o x h k = cc

-- an object that has a pending insert isn't inserted
not_inserted : (s : Script) (limit : ℕ) (d : DpcNo) (e : Event) (past : List Event) (x : Standing) → IsRun s limit (e ∷ past) → has_dpc s d ≡ true →
    standing d past ≡ Some x → is_dpc (inserted_dpc e.what) d ≡ false
not_inserted s limit d e past x r has st = go e.what refl
  where
    known : (w : What) → e.what ≡ w → is_next w ≡ true → Known s e.cpu (own_of s e.cpu past) (lanes_at s past) w
    known w k n =
        subst (Known s e.cpu (own_of s e.cpu past) (lanes_at s past)) k (legal_known s limit e past r.0 (ap is_next k ∙ n))

    it : (y : DpcNo) (c : Bool) → (y.0 == d.0) ≡ c → (y.0 ≡ d.0 → standing d past ≡ None) → c ≡ false
    it y true q none = none_some (standing d past) x (none (eqb-true y.0 d.0 q)) st
    it y false q none = refl

    go : (w : What) → e.what ≡ w → is_dpc (inserted_dpc w) d ≡ false
    go (Call f (Queue y) Yes) k =
        it y (y.0 == d.0) refl (was_none s d y past has (call_accepted s e.cpu (own_of s e.cpu past) (lanes_at s past) f (Queue y) Yes
        (known (Call f (Queue y) Yes) k refl) refl).1)
    go (Fire y Yes) k = it y (y.0 == d.0) refl (was_none s d y past has (known (Fire y Yes) k refl).1)
    go w k = refl

-- the event that uses up the object's pending insert names it
not_used : (s : Script) (limit : ℕ) (d : DpcNo) (e : Event) (past : List Event) (x : Standing) → IsRun s limit (e ∷ past) → has_dpc s d ≡ true →
    standing d past ≡ Some x → uses_up (DpcThing d) x.number e.what ≡ false → is_dpc (used_up_dpc e.what) d ≡ false
not_used s limit d e past x r has st h = go e.what refl h
  where
    names : (w : What) → e.what ≡ w → NamesPending s e.cpu w past
    names w k = subst (λ (w : What). NamesPending s e.cpu w past) k (deliveries_name_pending_inserts s limit e past r)

    it : (y : DpcNo) (from : ℕ) (c : Bool) → (y.0 == d.0) ≡ c → DpcIsPending s e.cpu y from past → (c && (from == x.number)) ≡ false → c ≡ false
    it y from false q k u = refl
    it y from true q k u =
        let same : y ≡ d = ap (λ (n : ℕ). record { 0 = n }) (eqb-true y.0 d.0 q) in
        let a = pending_stands s limit d past r.1 has e.cpu from (k.0, k.1, k.2 ∙ same, k.3) in
        let z : a.0 ≡ x = same_some a.0 x (sym a.1 ∙ st) in
        absurd (both_ways (from == x.number) u (eq-eqb from x.number (sym a.3 ∙ ap (λ (y : Standing). y.number) z)))
      where
        same_some : (y z : Standing) → ◌≡◌ {A = Option Standing} (Some y) (Some z) → y ≡ z
        same_some y z q = cc

    go : (w : What) → e.what ≡ w → uses_up (DpcThing d) x.number w ≡ false → is_dpc (used_up_dpc w) d ≡ false
    go (Begin (Dpc y) from) k u = it y from (y.0 == d.0) refl (names (Begin (Dpc y) from) k) u
    go (Begin (Threaded y) from) k u = it y from (y.0 == d.0) refl (names (Begin (Threaded y) from) k) u
    go (Call f (Unqueue y) Yes) k u = u
    go w k u = refl

-- in a run an insert of a DPC that was made and not used up since stands in its queue
inserted_stands : (s : Script) (limit : ℕ) (d : DpcNo) (past : List Event) → IsRun s limit past → has_dpc s d ≡ true → (p : CpuNo) (n : ℕ) →
    IsInsertedAt p d n past → NoneUsesUp (DpcThing d) n past → Stands d p n past
inserted_stands s limit d [] r has p n h u = absurd h
inserted_stands s limit d (e ∷ past) r has p n (inl h) u =
    let it : is_dpc (inserted_dpc e.what) d ≡ true = ap (λ o. is_dpc o d) h.1 ∙ eq-eqb d.0 d.0 refl in
    (record { queue = queue_for (target_of d past) e.cpu; number = length past }, rw it refl, h.2, sym h.0)
inserted_stands s limit d (e ∷ past) r has p n (inr h) u =
    let ih = inserted_stands s limit d past r.1 has p n h u.1 in
    let unused : uses_up (DpcThing d) ih.0.number e.what
    ≡ false = subst (λ (n : ℕ). uses_up (DpcThing d) n e.what ≡ false) (sym ih.3) (u.0 (inserted_before p d n past h)) in
    let i = not_inserted s limit d e past ih.0 r has ih.1 in
    let v = not_used s limit d e past ih.0 r has ih.1 unused in
    (ih.0, rw (i, v) ih.1, ih.2, ih.3)

-- in a run a DPC that stands in a queue is pending there
stands_pending : (s : Script) (limit : ℕ) (d : DpcNo) (past : List Event) → IsRun s limit past → has_dpc s d ≡ true → (p : CpuNo) (n : ℕ) → Stands d p n past →
    DpcIsPending s p d n past
stands_pending s limit d past r has p n h =
    let at : numbers_at p (Some h.0) ≡ h.0.number ∷ [] = placed p h.0 true (eq-eqb h.0.queue.0 p.0 h.2) in
    let all : numbers_of d (pending s p past) ≡ h.0.number ∷ [] = agree s limit d past r has p ∙ (ap (numbers_at p) h.1 ∙ at) in
    let k = number_contains d (pending s p past) h.0.number (subst (λ (ns : List ℕ). Contains ns h.0.number) (sym all) (contains_here h.0.number [])) in
    (k.0, k.1, ap (λ (n : ℕ). record { 0 = n }) k.2, k.3 ∙ h.3)

-- in a run an insert of a DPC is pending in a queue exactly where it was put there and not used up later
pub pending_reads : (s : Script) (limit : ℕ) (d : DpcNo) (past : List Event) → IsRun s limit past → has_dpc s d ≡ true → (p : CpuNo) (n : ℕ) →
    DpcIsPending s p d n past ↔ Reads d p n past
pending_reads s limit d past r has p n = (forth, λ h. stands_pending s limit d past r has p n (inserted_stands s limit d past r has p n h.0 h.1))
  where
    forth : DpcIsPending s p d n past → Reads d p n past
    forth k =
        let a = pending_stands s limit d past r has p n k in
        let q : a.0.queue ≡ p = ap (λ (n : ℕ). record { 0 = n }) a.2 in
        subst (λ (n : ℕ). Reads d p n past) a.3 (subst (λ (p : CpuNo). Reads d p a.0.number past) q (standing_reads d past a.0 a.1))
