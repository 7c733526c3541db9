-- The first kernel APC of a thread is deliverable where its level and regions let it through.
use Rattle.std.proofs.Common.{ap, inl, inr, subst, ◌∙◌}
use Rattle.std.proofs.lemmas.Bool.{eq-eqb, eqb-true}
use Rattle.std.specs.Prelude.{Bool, List, None, Option, Some, false, find, not, option_and_then, refl, reverse, true, ◌&&◌, ◌==◌, ◌↔◌, ◌≡◌, ◌⊎◌}
use Rattle.nt_event.specs.declared.commands.ApcKind.{ApcKind}
use Rattle.nt_event.specs.declared.commands.ApcKind.TheVariants.{Normal as NormalApc, Special as SpecialApc, User as UserApc}
use Rattle.nt_event.specs.declared.commands.Regions.{Regions}
use Rattle.nt_event.specs.declared.events.Event.{Event}
use Rattle.nt_event.specs.Frame.{Frame}
use Rattle.nt_event.specs.declared.inserts.Pick.{Pick}
use Rattle.nt_event.specs.declared.numbers.ThreadNo.{ThreadNo}
use Rattle.nt_event.specs.declared.scripts.Script.{Script}
use Rattle.nt_event.specs.Apcs.{ApcQueues, deliverable, first_kernel, is_of_kind, lets_through, same_kind}
use Rattle.nt_runs.specs.Laws.{level_of}
use Rattle.nt_event.specs.Regions.{regions_of}
use Rattle.nt_event.specs.Waits.{facts}
use Rattle.nt_event.specs.Lists.{when}
use Rattle.nt_event.proofs.Options.{both, not_true, when_gives}
use Rattle.nt_readings.specs.Regions.{IsDeliverable}
use Rattle.nt_event.proofs.Elements.{found_contains, or_gives}

abbrev IsKernelKind : ApcKind → Type 0
IsKernelKind k = (same_kind SpecialApc k ≡ true) ⊎ (same_kind NormalApc k ≡ true)

-- the first kernel APC of a thread is of a kernel kind, special or normal
kernel_kind : (q : ApcQueues) (x : Pick) → first_kernel q ≡ Some x → IsKernelKind x.kind
kernel_kind q x h =
    elim (or_gives (find (is_of_kind SpecialApc) (reverse q.pending)) (find (is_of_kind NormalApc) (reverse q.pending)) x h) [
      | inl k ↦ inl (found_contains (is_of_kind SpecialApc) (reverse q.pending) x k).1
      | inr k ↦ inr (found_contains (is_of_kind NormalApc) (reverse q.pending) x k).1
    ]

-- regions that let an APC through have no guarded region entered
guard_clear : (r : Regions) (k : ApcKind) → lets_through r k ≡ true → r.guard ≡ 0
guard_clear r SpecialApc h = eqb-true r.guard 0 h
guard_clear r NormalApc h = eqb-true r.guard 0 (both (r.guard == 0) _ h).0
guard_clear r UserApc h = eqb-true r.guard 0 (both (r.guard == 0) _ h).0

-- regions that let a normal APC through have no critical region entered and no normal APC in progress
normal_clear : (r : Regions) (k : ApcKind) → lets_through r k ≡ true → same_kind NormalApc k ≡ true → (r.crit ≡ 0) × (r.busy ≡ false)
normal_clear r NormalApc h q =
    let a = both (r.crit == 0) (not r.busy) (both (r.guard == 0) _ h).1 in
    (eqb-true r.crit 0 a.0, not_true r.busy a.1)
normal_clear r SpecialApc h q = cc
normal_clear r UserApc h q = cc

-- regions let a kernel APC through if none is guarded and, for a normal one, none is critical or busy
lets_so : (r : Regions) (k : ApcKind) → IsKernelKind k → r.guard ≡ 0 → (same_kind NormalApc k ≡ true → (r.crit ≡ 0) × (r.busy ≡ false)) → lets_through r k
    ≡ true
lets_so r SpecialApc h g n = eq-eqb r.guard 0 g
lets_so r NormalApc h g n =
    let a = n refl in
    both_so (r.guard == 0) _ (eq-eqb r.guard 0 g) (both_so (r.crit == 0) _ (eq-eqb r.crit 0 a.0) (ap not a.1))
  where
    both_so : (a b : Bool) → a ≡ true → b ≡ true → (a && b) ≡ true
    both_so true b h k = k
    both_so false b h k = cc
lets_so r UserApc (inl h) g n = cc
lets_so r UserApc (inr h) g n = cc

-- the first kernel APC is deliverable exactly where level 0, the regions and APCs in progress let it through
pub deliverable_by_regions : (s : Script) (t : ThreadNo) (past : List Event) (fs : List Frame) (x : Pick) →
    (deliverable (facts s t past).apcs (regions_of fs) (level_of fs) ≡ Some x) ↔ IsDeliverable s t past fs x
deliverable_by_regions s t past fs x = (λ h. forth (first_kernel (facts s t past).apcs) refl h, back)
  where
    forth : (o : Option Pick) → first_kernel (facts s t past).apcs ≡ o →
        option_and_then (λ x. when ((level_of fs == 0) && lets_through (regions_of fs) x.kind) (Some x)) o ≡ Some x → IsDeliverable s t past fs x
    forth None e h = cc
    forth (Some y) e h =
        let w = when_gives ((level_of fs == 0) && lets_through (regions_of fs) y.kind) (Some y) x h in
        let same : y ≡ x = let q = w.1 in cc in
        let b = both (level_of fs == 0) (lets_through (regions_of fs) y.kind) w.0 in
        let lets : lets_through (regions_of fs) x.kind ≡ true = subst (λ (z : Pick). lets_through (regions_of fs) z.kind ≡ true) same b.1 in (
          e ∙ ap (λ (z : Pick). Some z) same,
          eqb-true (level_of fs) 0 b.0,
          guard_clear (regions_of fs) x.kind lets,
          λ q. normal_clear (regions_of fs) x.kind lets q,
        )

    back : IsDeliverable s t past fs x → deliverable (facts s t past).apcs (regions_of fs) (level_of fs) ≡ Some x
    back h =
        let lets : lets_through (regions_of fs) x.kind ≡ true = lets_so (regions_of fs) x.kind (kernel_kind (facts s t past).apcs x h.0) h.2 h.3 in
        ap (λ (o : Option Pick). option_and_then (λ x. when ((level_of fs == 0) && lets_through (regions_of fs) x.kind) (Some x)) o) h.0
        ∙ (ap (λ (b : Bool). when (b && lets_through (regions_of fs) x.kind) (Some x)) (eq-eqb (level_of fs) 0 h.1)
        ∙ ap (λ (b : Bool). when b (Some x)) lets)
