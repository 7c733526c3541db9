-- On one processor nothing stays unnoticed, since what it asks for it notices at once. So no Look is good, and what may
-- come is the next event, or a Switch to a thread of the script.
use Rattle.std.proofs.Common.{ap, arith, inl, inr, subst, sym, ◌∙◌}
use Rattle.std.proofs.lemmas.Bool.{eq-eqb, eqb-true, ltb-true}
use Rattle.std.specs.List.{list_any}
use Rattle.std.specs.Prelude.{Bool, List, Ok, [], false, length, nat_lt, refl, suc, true, ℕ, ◌&&◌, ◌+◌, ◌==◌, ◌||◌, ◌∷◌, ◌≡◌, ◌≤◌, ◌⊎◌}
use Rattle.nt_event.specs.declared.events.Event.{Event}
use Rattle.nt_event.specs.declared.events.Rises.{Rises}
use Rattle.nt_event.specs.declared.events.Turn.{Turn}
use Rattle.nt_event.specs.declared.events.Turn.TheVariants.{Look as LookTurn, Next, Switch as SwitchTurn}
use Rattle.nt_event.specs.declared.events.What.{What}
use Rattle.nt_event.specs.declared.events.What.TheVariants.{Look, Switch}
use Rattle.nt_event.specs.declared.numbers.CpuNo.{CpuNo}
use Rattle.nt_event.specs.declared.numbers.ThreadNo.{ThreadNo}
use Rattle.nt_event.specs.declared.scripts.Script.{Script}
use Rattle.nt_event.specs.Lanes.{lanes_at}
use Rattle.nt_event.specs.Lists.{value_at}
use Rattle.nt_event.specs.Numbers.{cpu, is_of}
use Rattle.nt_event.specs.Own.{own_of}
use Rattle.nt_event.specs.Requests.{asked, asks, seen}
use Rattle.nt_event.specs.Script.{has_thread}
use Rattle.nt_event.specs.Step.{IsLegal, good_rises, is_good_look, next_step, step, switch_step, turn_at, turn_of, was_asked}
use Rattle.nt_event.proofs.Options.{both}
use Rattle.nt_event.proofs.Tables.{get_or-table}
use Rattle.nt_runs.proofs.Pending.{legal_cpu}
use Rattle.nt_runs.proofs.Settled.{seen_below, was_asked_below}
use Rattle.nt_runs.proofs.Steps.{Gives, look_gives, step_uncut, switch_gives}
use Rattle.nt_alike.specs.Free.{IsFreeRun, LookIsShort, MayCome}
use Rattle.nt_alike.proofs.Asked.{seen_asking, seen_quiet}
use Rattle.nt_alike.proofs.Free.{legal_free, run_free}

abbrev pub only : CpuNo
only = cpu 0

module _ (s : Script) (one : s.cpus ≡ 1) where
  legal : (e : Event) (past : List Event) → MayCome s e past → IsLegal s (suc (length past)) e past
  legal e past m = legal_free s (suc (length past)) e past (omega arith) m.0

  -- each event is by that processor
  by_only : (e : Event) (past : List Event) → MayCome s e past → e.cpu ≡ only
  by_only e past m =
      ap cpu (let l = ltb-true e.cpu.0 s.cpus (legal_cpu s (suc (length past)) e past (legal e past m)) in omega (arith, l, one))

  is_only : (e : Event) (past : List Event) → MayCome s e past → is_of e only ≡ true
  is_only e past m = eq-eqb e.cpu.0 0 (ap (λ (p : CpuNo). p.0) (by_only e past m))

  -- it has seen all that was asked
  all_seen : (c : ℕ) (past : List Event) → IsFreeRun s past → seen s only c past ≡ asked s only c past
  all_seen c [] r = refl
  all_seen c (e ∷ past) r = go (asks s only c e past) refl (all_seen c past r.1)
    where
      own : is_of e only ≡ true
      own = is_only e past r.0

      low : seen s only c (e ∷ past) ≤ asked s only c (e ∷ past)
      low = seen_below s (length (e ∷ past)) only c (e ∷ past) (run_free s (length (e ∷ past)) (e ∷ past) (omega arith) r)

      go : (a : Bool) → asks s only c e past ≡ a → seen s only c past ≡ asked s only c past → seen s only c (e ∷ past) ≡ asked s only c (e ∷ past)
      go true k before =
          let n : asked s only c (e ∷ past) ≡ length past + 1 = rw k refl in
          seen_asking s only c e past own k ∙ sym n
      go false k before =
          let n : asked s only c (e ∷ past) ≡ asked s only c past = rw k refl in
          let m = seen_quiet s only c e past own k in
          let l = low in
          omega (arith, n, m, before, l)

  -- so no value of a Look rises, from this class on
  none_rises : (c : ℕ) (vs : List ℕ) (past : List Event) → IsFreeRun s past → c + length vs ≤ 16 →
      good_rises s only c vs (own_of s only past) past ≡ true → list_any (λ v. nat_lt 0 v) vs ≡ false
  none_rises c [] past r l g = refl
  none_rises c (v ∷ vs) past r l g =
      let parts = both ((v == 0) || (nat_lt (value_at (own_of s only past).seen c) v && was_asked s only c v past))
      (good_rises s only (suc c) vs (own_of s only past) past) g in
      go (v == 0) refl (nat_lt (value_at (own_of s only past).seen c) v) refl (was_asked s only c v past) refl parts.0
      (none_rises (suc c) vs past r (omega (arith, l)) parts.1)
    where
      there : value_at (own_of s only past).seen c ≡ seen s only c past
      there = get_or-table {A = ℕ} 16 c (λ c. seen s only c past) 0 (omega (arith, l))

      go : (z : Bool) → (v == 0) ≡ z → (a : Bool) → nat_lt (value_at (own_of s only past).seen c) v ≡ a → (w : Bool) → was_asked s only c v past ≡ w →
          (z || (a && w)) ≡ true → list_any (λ v. nat_lt 0 v) vs ≡ false → (nat_lt 0 v || list_any (λ v. nat_lt 0 v) vs) ≡ false
      go true k a x w y h rest = let n : v ≡ 0 = eqb-true v 0 k in rw (n, rest) refl
      go false k true x true y h rest =
          let above = ltb-true (value_at (own_of s only past).seen c) v x in
          let below = was_asked_below s only c v past y in
          let seen_it = all_seen c past r in
          let at = there in
          absurd (omega (arith, above, below, seen_it, at))
      go false k true x false y h rest = cc
      go false k false x w y h rest = cc

  no_look : (vs : List ℕ) (past : List Event) → IsFreeRun s past → length vs ≤ 16 → is_good_look s only vs (own_of s only past) past ≡ true → ⊥
  no_look vs past r l g =
      let parts = both (list_any (λ v. nat_lt 0 v) vs) (good_rises s only 0 vs (own_of s only past) past) g in
      let none = none_rises 0 vs past r (omega (arith, l)) parts.1 in
      clash (sym parts.0 ∙ none)
    where
      clash : true ≡ false → ⊥
      clash h = cc

  -- what may come: the next event, or a Switch to a thread of the script
  abbrev ComesNext : List Event → Event → Type 0
  ComesNext past f = (next_step s only (own_of s only past) (lanes_at s past) ≡ Ok f) ⊎
      ((u : ThreadNo) × (has_thread s u ≡ true) × (switch_step s only u (own_of s only past) (lanes_at s past) ≡ Ok f))

  -- what may come after a free run on one processor is its next event or a Switch to a thread of the script
  pub comes : (past : List Event) (f : Event) → IsFreeRun s past → MayCome s f past → ComesNext past f
  comes past f r m = go f.what refl
    where
      here : f.cpu ≡ only
      here = by_only f past m

      at_turn : (t : Turn) → turn_of f ≡ t → Gives (step s (suc (length past)) t past) f
      at_turn t q = ap (λ (u : Turn). step s (suc (length past)) u past) (sym q) ∙ legal f past m

      next : turn_of f ≡ Next f.cpu → next_step s only (own_of s only past) (lanes_at s past) ≡ Ok f
      next q =
          subst (λ (p : CpuNo). next_step s p (own_of s p past) (lanes_at s past) ≡ Ok f) here
          (step_uncut s (suc (length past)) (Next f.cpu) past f (at_turn (Next f.cpu) q)).2

      switch : (u : ThreadNo) → turn_of f ≡ SwitchTurn f.cpu u → (has_thread s u ≡ true) ×
          (switch_step s only u (own_of s only past) (lanes_at s past) ≡ Ok f)
      switch u q =
          let g = at_turn (SwitchTurn f.cpu u) q in
          let take = (switch_gives s (suc (length past)) f.cpu u past f g).1 in (
            (both (has_thread s u) _ take).0,
            subst (λ (p : CpuNo). switch_step s p u (own_of s p past) (lanes_at s past) ≡ Ok f) here
                (step_uncut s (suc (length past)) (SwitchTurn f.cpu u) past f g).2,
          )

      look : (x : Rises) → f.what ≡ Look x → ⊥
      look x q =
          let g = look_gives s (suc (length past)) f.cpu x past f (at_turn (LookTurn f.cpu x) (ap (turn_at f.cpu) q)) in
          no_look x.value past r (subst LookIsShort q m.1) (subst (λ (p : CpuNo). is_good_look s p x.value (own_of s p past) past ≡ true) here g.0)

      go : (w : What) → f.what ≡ w → ComesNext past f
      go (Look x) q = absurd (look x q)
      go (Switch u st) q = let k = switch u (ap (turn_at f.cpu) q) in inr (u, k.0, k.1)
      go w q = inl (next (ap (turn_at f.cpu) q))
