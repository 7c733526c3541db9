-- The pending inserts that are listed are those that the run leaves waiting.
use Rattle.std.proofs.Common.{ap, inl, inr, subst, sym, ◌∙◌}
use Rattle.std.proofs.lemmas.Bool.{eq-eqb, eqb-true}
use Rattle.std.specs.List.{Contains}
use Rattle.std.specs.Prelude.{Bool, List, None, Option, Some, [], false, filter, if◌then◌else◌, refl, true, ℕ, ◌==◌, ◌∷◌, ◌≡◌, ◌↔◌}
use Rattle.nt_event.specs.declared.events.Event.{Event}
use Rattle.nt_event.specs.declared.inserts.Standing.{Standing}
use Rattle.nt_event.specs.declared.numbers.ApcNo.{ApcNo}
use Rattle.nt_event.specs.declared.numbers.CpuNo.{CpuNo}
use Rattle.nt_event.specs.declared.numbers.DpcNo.{DpcNo}
use Rattle.nt_event.specs.declared.numbers.ThreadNo.{ThreadNo}
use Rattle.nt_event.specs.declared.scripts.Script.{Script}
use Rattle.nt_event.specs.Fate.{ApcThing, DpcThing, Inserted, Thing, waiting_inserts}
use Rattle.nt_event.specs.Objects.{standing}
use Rattle.nt_event.specs.Own.{own_of}
use Rattle.nt_event.specs.Queues.{is_of_dpc, pending}
use Rattle.nt_event.specs.Routines.{cpu_of, owner_of}
use Rattle.nt_event.specs.Script.{fits, has_dpc}
use Rattle.nt_event.specs.Step.{IsRun}
use Rattle.nt_event.specs.Waits.{facts}
use Rattle.nt_event.proofs.Elements.{contains_cases, contains_here, contains_kept, contains_mapped, contains_none, kept_contains, mapped_contains}
use Rattle.nt_laws.specs.Fates.{DpcIsPending, numbers_at, numbers_of}
use Rattle.nt_laws.proofs.Fates.Agree.{agree}
use Rattle.nt_laws.proofs.Fates.Picks.{owners_fit}
use Rattle.nt_readings.specs.Fates.{IsPending, is_known}
use Rattle.nt_readings.proofs.Declared.{holds_of_each}
use Rattle.nt_readings.proofs.OneFate.{waiting_are_the_pending}
use Rattle.nt_left.specs.declared.kinds.ApcCause.{ApcCause}
use Rattle.nt_left.specs.declared.kinds.Left.{Left}
use Rattle.nt_left.specs.declared.kinds.Left.TheVariants as left
use Rattle.nt_left.specs.Causes.{apc_cause, cpu_cause}
use Rattle.nt_left.specs.Left.{IsLeft, IsTold}

module _ (s : Script) (limit : ℕ) (past : List Event) (run : IsRun s limit past) (fit : fits s ≡ true) where
  known : (thing : Thing) (n : ℕ) → IsPending s thing n past → is_known s thing ≡ true
  known thing n k =
      let each = holds_of_each s limit past run fit in
      each.known thing n ((each.waiting thing n).1 k).0

  -- an insert that is pending in a queue stands there
  stands : (d : DpcNo) (p : CpuNo) (n : ℕ) → has_dpc s d ≡ true → DpcIsPending s p d n past →
      (q : CpuNo) × (standing d past ≡ Some (record { queue = q; number = n }))
  stands d p n has k = go (standing d past) refl
    where
      of_d : is_of_dpc d k.0 ≡ true
      of_d = eq-eqb k.0.dpc.0 d.0 (ap (λ (x : DpcNo). x.0) k.2)

      kept : Contains (numbers_of d (pending s p past)) n
      kept =
          subst (λ (m : ℕ). Contains (numbers_of d (pending s p past)) m) k.3
          (contains_mapped (λ x. x.number) (filter (is_of_dpc d) (pending s p past)) k.0 (contains_kept (is_of_dpc d) (pending s p past) k.0 k.1 of_d))

      located : Contains (numbers_at p (standing d past)) n
      located = subst (λ (xs : List ℕ). Contains xs n) (agree s limit d past run has p) kept

      here : (o : Standing) (b : Bool) → Contains (if b then o.number ∷ [] else []) n → o.number ≡ n
      here o true h = elim (contains_cases o.number [] n h) [ inl same ↦ same | inr none ↦ contains_none n none ]
      here o false h = contains_none n h

      go : (o : Option Standing) → standing d past ≡ o → (q : CpuNo) × (standing d past ≡ Some (record { queue = q; number = n }))
      go None e = contains_none n (subst (λ (o : Option Standing). Contains (numbers_at p o) n) e located)
      go (Some x) e =
          let same = here x (x.queue.0 == p.0) (subst (λ (o : Option Standing). Contains (numbers_at p o) n) e located) in
          (x.queue, e ∙ ap (λ (m : ℕ). Some (record { queue = x.queue; number = m })) same)

  -- an insert that stands in a queue is pending there
  pends : (d : DpcNo) (q : CpuNo) (n : ℕ) → has_dpc s d ≡ true → standing d past ≡ Some (record { queue = q; number = n }) → DpcIsPending s q d n past
  pends d q n has h =
      let a : numbers_at q (standing d past) ≡ (if q.0 == q.0 then n ∷ [] else []) = ap (λ (o : Option Standing). numbers_at q o) h in
      let b : (if q.0 == q.0 then n ∷ [] else []) ≡ n ∷ [] = ap (λ (b : Bool). if b then n ∷ [] else []) (eq-eqb q.0 q.0 refl) in
      let there : Contains (numbers_of d (pending s q past)) n = subst (λ (xs : List ℕ). Contains xs n)
      (sym (agree s limit d past run has q ∙ (a ∙ b))) (contains_here n []) in
      let m = mapped_contains (λ x. x.number) (filter (is_of_dpc d) (pending s q past)) n there in
      let k = kept_contains (is_of_dpc d) (pending s q past) m.0 m.1 in
      (m.0, k.0, ap (λ (i : ℕ). record { 0 = i }) (eqb-true m.0.dpc.0 d.0 k.1), m.2)

  module _ (xs : List Left) (found : (x : Left) → Contains xs x → IsLeft s limit past x) (complete : (x : Left) → IsLeft s limit past x → Contains xs x) where
    forth : (thing : Thing) (n : ℕ) → IsPending s thing n past → IsTold xs thing n
    forth (DpcThing d) n k =
        let has = known (DpcThing d) n k in
        let st = stands d k.0 n has k.1 in (
          st.0,
          cpu_cause limit (own_of s st.0 past),
          complete (left.Dpc d n st.0 (cpu_cause limit (own_of s st.0 past))) (has, st.1, refl),
        )
    forth (ApcThing a) n k =
        let has = known (ApcThing a) n k in
        let t : ThreadNo = owner_of s a in
        let cause : ApcCause = apc_cause limit (own_of s (cpu_of s t) past) (facts s t past).doing k.0.kind in
        (t, cause, complete (left.Apc a n t cause) (has, (k.0, k.1, k.2, k.3, refl)))

    back : (thing : Thing) (n : ℕ) → IsTold xs thing n → IsPending s thing n past
    back (DpcThing d) n k =
        let h = found (left.Dpc d n k.0 k.1) k.2 in
        (k.0, pends d k.0 n h.0 h.1)
    back (ApcThing a) n k =
        let h = found (left.Apc a n k.0 k.1) k.2 in
        let i = h.1.0 in
        let owner : (owner_of s a).0 ≡ k.0.0 = sym (ap (λ (b : ApcNo). (owner_of s b).0) h.1.2) ∙ owners_fit s k.0 past i h.1.1 in
        (i, subst (λ (m : ℕ). Contains (facts s (record { 0 = m }) past).apcs.pending i) (sym owner) h.1.1, h.1.2, h.1.3)

    -- an insert waits exactly where it is told
    pub waiting_are_told : (x : Inserted) → Contains (waiting_inserts past) x ↔ IsTold xs x.thing x.number
    waiting_are_told x =
        let both = waiting_are_the_pending s limit x past run fit in
        (λ h. forth x.thing x.number (both.0 h), λ k. both.1 (back x.thing x.number k))
