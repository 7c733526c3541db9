-- How many events each processor made, event by event.
use Rattle.std.proofs.Common.{◌≡◌, ◌∙◌, ℕ, ◌+◌, ◌<◌, Bool, true, false, List, length, get_or, set, take, refl, sym, ap, subst, arith}
use Rattle.std.specs.Prelude.{◌==◌}
use Rattle.std.proofs.lemmas.Bool.{eqb-false, eqb-true}
use Rattle.std.proofs.lemmas.List.{get_or-set_other, get_or-set_same, length-set}
use Rattle.std.proofs.lemmas.List.Sums.{count_by_more_no, count_by_more_yes}
use Rattle.nt_event.specs.declared.events.Event.{Event}
use Rattle.nt_print.specs.Counts.{TellsMade}
use Rattle.nt_print.specs.Report.{made}

-- an event of a processor makes one more event of that processor among the first events
made_by_it : (p : ℕ) (events : List Event) (k : ℕ) (e : Event) → k < length events → e ≡ get_or events k e → (e.cpu.0 == p) ≡ true →
    made p (take (k + 1) events) ≡ made p (take k events) + 1
made_by_it p events k e lt is by = count_by_more_yes (λ (x : Event). x.cpu.0 == p) events k e lt (ap (λ (x : Event). x.cpu.0 == p) (sym is) ∙ by)

-- an event of another processor leaves a processor's count among the first events as it was
made_by_another : (p : ℕ) (events : List Event) (k : ℕ) (e : Event) → k < length events → e ≡ get_or events k e → (e.cpu.0 == p) ≡ false →
    made p (take (k + 1) events) ≡ made p (take k events)
made_by_another p events k e lt is by = count_by_more_no (λ (x : Event). x.cpu.0 == p) events k e lt (ap (λ (x : Event). x.cpu.0 == p) (sym is) ∙ by)

-- the counts when the next event was counted
pub count_step : (events : List Event) (k : ℕ) (e : Event) (table : List ℕ) → k < length events → e ≡ get_or events k e → TellsMade (take k events) table →
    TellsMade (take (k + 1) events) (set table e.cpu.0 (get_or table e.cpu.0 0 + 1))
count_step events k e table lt is tells p lp = go (e.cpu.0 == p) refl
  where
    within : p < length table
    within = omega (arith, lp, length-set table e.cpu.0 (get_or table e.cpu.0 0 + 1))

    go : (b : Bool) → (e.cpu.0 == p) ≡ b → get_or (set table e.cpu.0 (get_or table e.cpu.0 0 + 1)) p 0 ≡ made p (take (k + 1) events)
    go true by =
        let same : e.cpu.0 ≡ p = eqb-true e.cpu.0 p by in
        let here : get_or (set table p (get_or table p 0 + 1)) p 0 ≡ get_or table p 0 + 1 = get_or-set_same table p (get_or table p 0 + 1) 0 within in
        subst (λ (m : ℕ). get_or (set table m (get_or table m 0 + 1)) p 0 ≡ get_or table p 0 + 1) (sym same) here ∙ ap (λ (m : ℕ). m + 1) (tells p within)
        ∙ sym (made_by_it p events k e lt is by)
    go false by = get_or-set_other table e.cpu.0 p (get_or table e.cpu.0 0 + 1) 0 (λ s. eqb-false e.cpu.0 p by (sym s)) ∙ tells p within
        ∙ sym (made_by_another p events k e lt is by)
