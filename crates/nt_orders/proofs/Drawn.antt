-- Turns that are drawn among those of the processors.
use Rattle.std.proofs.Common.{ap, arith, below_more, inl, inr, subst, sym, ◌∙◌, ◌⊎◌}
use Rattle.std.proofs.lemmas.Bool.Decides.{nat_tests}
use Rattle.std.specs.List.{list_all}
use Rattle.std.specs.Prelude.{Bool, IfSome, List, None, Ok, Option, Some, is_none, not, refl, suc, true, zero, ℕ, ◌&&◌, ◌+◌, ◌<◌, ◌||◌, ◌≡◌, ◌≤◌}
use Rattle.nt_event.specs.declared.events.Event.{Event}
use Rattle.nt_event.specs.declared.events.Turn.{Turn}
use Rattle.nt_event.specs.declared.scripts.Script.{Script}
use Rattle.nt_event.specs.Lists.{table_from}
use Rattle.nt_event.specs.Numbers.{cpu}
use Rattle.nt_event.specs.Robin.{is_done_with, is_settled}
use Rattle.nt_event.specs.Script.{has_cpu}
use Rattle.nt_event.specs.Step.{step}

-- ---- all is settled

-- a table of tests that all hold
all_from : (k n : ℕ) (f : ℕ → Bool) → ((i : ℕ) → i < n → f (k + i) ≡ true) → list_all (λ done. done) (table_from k n f) ≡ true
unfolding table_from
all_from k zero f h = refl
all_from k (suc n) f h =
    let e : k + 0 ≡ k = omega arith in
    let first : f k ≡ true = ap f (sym e) ∙ h 0 (omega arith) in
    let rest : list_all (λ done. done) (table_from (suc k) n f) ≡ true =
    all_from (suc k) n f (λ i low. let g : suc k + i ≡ k + suc i = omega arith in ap f g ∙ h (suc i) (omega arith)) in
    ap (λ (b : Bool). b && list_all (λ done. done) (table_from (suc k) n f)) first ∙ rest

-- where each processor is done, all is settled
all_done : (s : Script) (limit : ℕ) (past : List Event) → ((k : ℕ) → k < s.cpus → is_done_with s limit (cpu k) past ≡ true) →
    is_settled s limit past ≡ true
all_done s limit past h =
    all_from 0 s.cpus (λ k. is_done_with s limit (cpu k) past)
    (λ i low. let e : 0 + i ≡ i = omega arith in ap (λ (k : ℕ). is_done_with s limit (cpu k) past) e ∙ h i low)

-- ---- the turn that is drawn

-- the turn is not refused
abbrev pub Accepts : Script → ℕ → List Event → Turn → Type 0
Accepts s limit past t = (e : Event) × (step s limit t past ≡ Ok e)

-- of the first processors so many have a turn, and one of these is drawn
pub record IsDrawn (s : Script) (limit : ℕ) (past : List Event) (p count : ℕ) (drawn : Option Turn) : Type 0 where
  pub few : count ≤ p
  pub taken : IfSome drawn (Accepts s limit past)
  pub none : drawn ≡ None → (count ≡ 0) × ((k : ℕ) → k < p → is_done_with s limit (cpu k) past ≡ true)

-- the next processor has a turn too, and that or the one of before is drawn
pub drawn_more : (s : Script) (limit : ℕ) (past : List Event) (p count : ℕ) (drawn new : Option Turn) (t : Turn) → IsDrawn s limit past p count drawn →
    Accepts s limit past t → (new ≡ Some t) ⊎ ((new ≡ drawn) × (1 < count + 1)) → IsDrawn s limit past (p + 1) (count + 1) new
drawn_more s limit past p count drawn new t on accepts which = record {
  few = (let few = on.few in omega (arith, few));
  taken = taken new which;
  none = λ empty. none new which empty;
}
  where
    taken : (o : Option Turn) → (o ≡ Some t) ⊎ ((o ≡ drawn) × (1 < count + 1)) → IfSome o (Accepts s limit past)
    taken o w = elim w [
      | inl e ↦ subst (λ (x : Option Turn). IfSome x (Accepts s limit past)) (sym e) accepts
      | inr e ↦ subst (λ (x : Option Turn). IfSome x (Accepts s limit past)) (sym e.0) on.taken
    ]

    none : (o : Option Turn) → (o ≡ Some t) ⊎ ((o ≡ drawn) × (1 < count + 1)) → o ≡ None →
        (count + 1 ≡ 0) × ((k : ℕ) → k < p + 1 → is_done_with s limit (cpu k) past ≡ true)
    none o w empty = elim w [
      | inl e ↦ absurd cc
      | inr e ↦ absurd (let low = e.1 in let zero_count = (on.none (sym e.0 ∙ empty)).0 in omega (arith, low, zero_count))
    ]

-- a processor of the script that has no turn is done
done_here : (s : Script) (limit : ℕ) (past : List Event) (p : ℕ) (o : Option Turn) → p < s.cpus →
    is_none o ≡ (not (has_cpu s (cpu p)) || is_done_with s limit (cpu p) past) → o ≡ None → is_done_with s limit (cpu p) past ≡ true
done_here s limit past p o low rule empty =
    let has : has_cpu s (cpu p) ≡ true = grind (arith, nat_tests) in
    sym (ap (λ (b : Bool). not b || is_done_with s limit (cpu p) past) has) ∙ (sym rule ∙ ap (λ (x : Option Turn). is_none x) empty)

-- the next processor has none
pub drawn_still : (s : Script) (limit : ℕ) (past : List Event) (p count : ℕ) (drawn o : Option Turn) → IsDrawn s limit past p count drawn → p < s.cpus →
    is_none o ≡ (not (has_cpu s (cpu p)) || is_done_with s limit (cpu p) past) → o ≡ None → IsDrawn s limit past (p + 1) count drawn
drawn_still s limit past p count drawn o on low rule empty = record {
  few = (let few = on.few in omega (arith, few));
  taken = on.taken;
  none = λ h. let before = on.none h in (
    before.0,
    below_more (λ k. is_done_with s limit (cpu k) past ≡ true) p before.1 (done_here s limit past p o low rule empty),
  );
}

-- where none is drawn in the end, all is settled
pub drawn_none : (s : Script) (limit : ℕ) (past : List Event) (p count : ℕ) (drawn : Option Turn) → IsDrawn s limit past p count drawn → s.cpus ≤ p →
    drawn ≡ None → is_settled s limit past ≡ true
drawn_none s limit past p count drawn on all h =
    all_done s limit past (λ k low. (on.none h).1 k (omega arith))
