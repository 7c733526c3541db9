-- Closed lists with a monitor: every run is like one of the list, and the monitor keeps the same there.
use Rattle.std.proofs.Common.{ap, sym, ◌∙◌}
use Rattle.std.specs.Prelude.{Bool, List, [], false, true, ℕ, ◌∷◌, ◌≡◌}
use Rattle.nt_event.specs.declared.events.Event.{Event}
use Rattle.nt_event.specs.declared.scripts.Script.{Script}
use Rattle.nt_alike.specs.Bare.{bare_event}
use Rattle.nt_alike.specs.Ends.{is_quiet}
use Rattle.nt_alike.specs.Free.{IsFreeRun, MayCome}
use Rattle.nt_alike.specs.Lists.{Among, Each}
use Rattle.nt_alike.specs.Monitors.{AlikeWith, IsClosedWith, LeadsToWith, Monitor, NoneShowsWith, kept}
use Rattle.nt_alike.proofs.GoOn.{goes}
use Rattle.nt_alike.proofs.Lists.{among_map, each_both, found}
use Rattle.nt_alike.proofs.Quiet.{quiet_same}
use Rattle.nt_alike.proofs.Relation.{alike_trans}

module _ (s : Script) (monitor : Monitor) where
  kept_same : (g h : List Event) (e f : Event) → kept monitor g ≡ kept monitor h → bare_event e ≡ bare_event f → kept monitor (e ∷ g) ≡ kept monitor (f ∷ h)
  kept_same g h e f a b = ap (λ (n : ℕ). monitor n (bare_event e)) a ∙ ap (monitor (kept monitor h)) b

  -- an event of the one history, its like after the other, and where that leads
  pub leads_on : (all : List (List Event)) (Q : List Event → Type 0) (h k : List Event) (e : Event) → IsFreeRun s (e ∷ h) → IsFreeRun s k →
      AlikeWith s monitor h k →
      ((f : Event) → MayCome s f k → Among (λ x. AlikeWith s monitor (f ∷ k) x × Q x) all) → Among (λ x. AlikeWith s monitor (e ∷ h) x × Q x) all
  leads_on all Q h k e r rk l leads =
      let o = goes s h k r.1 rk l.0 e r.0 in
      among_map (λ x. AlikeWith s monitor (o.event ∷ k) x × Q x) (λ x. AlikeWith s monitor (e ∷ h) x × Q x) all
      (λ x m. ((alike_trans s (e ∷ h) (o.event ∷ k) x o.alike m.0.0, kept_same h k e o.event l.1 o.same ∙ m.0.1), m.1)) (leads o.event o.comes)

module _ (s : Script) (monitor : Monitor) (all : List (List Event)) (closed : IsClosedWith s monitor all) where
  -- every free run is like one of the list
  pub held : (h : List Event) → IsFreeRun s h → Among (λ x. AlikeWith s monitor h x) all
  held [] r = closed.opening
  held (e ∷ h) r =
      found (LeadsToWith s monitor all) (λ x. AlikeWith s monitor h x) all (Among (λ x. AlikeWith s monitor (e ∷ h) x) all) closed.each (held h r.1)
      (λ k to l. among_map (λ x. AlikeWith s monitor (e ∷ h) x × Unit {0}) (λ x. AlikeWith s monitor (e ∷ h) x) all (λ x m. m.0)
      (leads_on s monitor all (λ x. Unit {0}) h k e r to.0 l
      (λ f m. among_map (λ x. AlikeWith s monitor (f ∷ k) x) (λ x. AlikeWith s monitor (f ∷ k) x × Unit {0}) all (λ x q. (q, tt)) (to.1 f m))))

  -- if no history of a list closed with a monitor can go on by a bad event, no free run has one
  pub never_with : (bad : ℕ → Event → Bool) → NoneShowsWith s monitor bad all → (e : Event) (past : List Event) → IsFreeRun s (e ∷ past) →
      bad (kept monitor past) (bare_event e) ≡ false
  never_with bad none e past r =
      found (λ k. LeadsToWith s monitor all k × ((f : Event) → MayCome s f k → bad (kept monitor k) (bare_event f) ≡ false))
      (λ x. AlikeWith s monitor past x) all
      (bad (kept monitor past) (bare_event e) ≡ false)
      (each_both (LeadsToWith s monitor all) (λ k. (f : Event) → MayCome s f k → bad (kept monitor k) (bare_event f) ≡ false) all closed.each none)
      (held past r.1)
      (λ k h l.
      let o = goes s past k r.1 h.0.0 l.0 e r.0 in
      ap (λ (n : ℕ). bad n (bare_event e)) l.1 ∙ ap (bad (kept monitor k)) o.same ∙ h.1 o.event o.comes)

  -- if no quiet history of a list closed with a monitor is bad, no quiet free run is bad
  pub never_at_end : (bad : ℕ → Bool) → Each (λ k. is_quiet s k ≡ true → bad (kept monitor k) ≡ false) all → (past : List Event) → IsFreeRun s past →
      is_quiet s past ≡ true → bad (kept monitor past) ≡ false
  never_at_end bad none past r q =
      found (λ k. LeadsToWith s monitor all k × (is_quiet s k ≡ true → bad (kept monitor k) ≡ false)) (λ x. AlikeWith s monitor past x) all
      (bad (kept monitor past) ≡ false)
      (each_both (LeadsToWith s monitor all) (λ k. is_quiet s k ≡ true → bad (kept monitor k) ≡ false) all closed.each none) (held past r)
      (λ k h l. ap bad l.1 ∙ h.1 (sym (quiet_same s past k r h.0.0 l.0) ∙ q))
