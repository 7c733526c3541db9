-- A history has exactly one verdict.
use Rattle.std.proofs.Common.{ap, arith, inl, inr, subst, sym, ◌∙◌}
use Rattle.std.proofs.lemmas.Bool.Decides.{nat_tests}
use Rattle.std.proofs.lemmas.Bool.{eqb-true, ltb-false, ltb-true}
use Rattle.std.proofs.lemmas.Option.{slice_get-get_or, slice_get_cases, slice_get_within}
use Rattle.std.specs.Prelude.{Bool, Err, IsTrue, List, None, Ok, Result, Some, false, get_or, length, nat_lt, refl, reverse, slice_get, suc, true, zero, ℕ, ◌+◌}
use Rattle.std.specs.Prelude.{◌<◌, ◌==◌, ◌↔◌, ◌≡◌, ◌≤◌, ◌⊎◌, ◌≢◌}
use Rattle.nt_event.specs.declared.events.Event.{Event}
use Rattle.nt_event.specs.declared.scripts.Script.{Script}
use Rattle.nt_event.specs.Robin.{is_settled}
use Rattle.nt_event.specs.declared.events.ScheduleKind.{ScheduleKind}
use Rattle.nt_event.specs.Step.{IsLegal, IsRun, step, turn_of}
use Rattle.nt_event.specs.contracts.events.EventPartialEq.TheImpl as event_eq
use Rattle.nt_check.specs.Verdicts.{IsFirstIllegal, IsVerdict, past_at}
use Rattle.nt_check.specs.declared.checking.Verdict.{Verdict}
use Rattle.nt_check.specs.declared.checking.Verdict.TheVariants.{IllegalAt, Legal}
use Rattle.nt_check.proofs.SameEvents.{event_test}
use Rattle.nt_check.proofs.Stepping.{past_more, past_whole}

-- each event of a run is legal after those before it
run_at : (s : Script) (limit : ℕ) (events : List Event) (m n : ℕ) (e : Event) → m ≤ length events → n < m → slice_get events n ≡ Some e →
    IsRun s limit (past_at m events) → IsLegal s limit e (past_at n events)
run_at s limit events zero n e b l h r = absurd (omega (arith, l))
run_at s limit events (suc m) n e b l h r = go (n == m) refl (λ c d q. run_at s limit events m n e c d h q)
  where
    next : past_at (suc m) events ≡ past_at (m + 1) events
    next = let k : suc m ≡ m + 1 = omega arith in ap (λ (k : ℕ). past_at k events) k

    one : (x : Event) → slice_get events m ≡ Some x → IsLegal s limit x (past_at m events) × IsRun s limit (past_at m events)
    one x i = subst (λ (past : List Event). IsRun s limit past) (next ∙ past_more events m x i) r

    go : (same : Bool) → (n == m) ≡ same → (m ≤ length events → n < m → IsRun s limit (past_at m events) → IsLegal s limit e (past_at n events)) →
        IsLegal s limit e (past_at n events)
    go true k ih =
        let j : n ≡ m = eqb-true n m k in
        let i : slice_get events m ≡ Some e = ap (λ (k : ℕ). slice_get events k) (sym j) ∙ h in
        subst (λ (k : ℕ). IsLegal s limit e (past_at k events)) (sym j) (one e i).0
    go false k ih =
        let d : n < m = (let j : n ≢ m = grind (arith, nat_tests) in omega (arith, l, j)) in
        let a : m < length events = omega (arith, b) in
        let c : m ≤ length events = omega (arith, b) in
        ih c d (one _ (slice_get-get_or events m e a)).1

-- ---- one verdict at most

-- each event of a history that is a run is legal after the ones before it
whole_at : (s : Script) (limit : ℕ) (events : List Event) (n : ℕ) (e : Event) → IsRun s limit (reverse events) → slice_get events n ≡ Some e →
    IsLegal s limit e (past_at n events)
whole_at s limit events n e r h =
    run_at s limit events (length events) n e (omega arith) (slice_get_within events n e h) h
    (subst (λ (past : List Event). IsRun s limit past) (sym (past_whole events (length events) refl)) r)

-- the first illegal event of a history is not before another first illegal event
not_before : (s : Script) (limit : ℕ) (events : List Event) (n m : ℕ) (e f : Event) → IsFirstIllegal s limit events n e →
    IsFirstIllegal s limit events m f → n < m → ⊥
not_before s limit events n m e f i j l =
    let b : m < length events = slice_get_within events m f j.there in
    i.illegal (run_at s limit events m n e (omega (arith, b)) l i.there j.before)

-- two first illegal events of a history stand at the same place
same_first : (s : Script) (limit : ℕ) (events : List Event) (n m : ℕ) (e f : Event) → IsFirstIllegal s limit events n e →
    IsFirstIllegal s limit events m f → n ≡ m
same_first s limit events n m e f i j = go (nat_lt n m) refl (nat_lt m n) refl
  where
    go : (a : Bool) → nat_lt n m ≡ a → (b : Bool) → nat_lt m n ≡ b → n ≡ m
    go true k b h = absurd (not_before s limit events n m e f i j (ltb-true n m k))
    go false k true h = absurd (not_before s limit events m n f e j i (ltb-true m n h))
    go false k false h = let x : m ≤ n = ltb-false n m k in let y : n ≤ m = ltb-false m n h in omega (arith, x, y)

-- a test does not both hold and fail
settled_not : {A : Type 0} (b : Bool) → b ≡ true → b ≡ false → A
settled_not b h k = absurd cc

-- two verdicts on the same events are the same verdict
pub verdict_same : (s : Script) (limit : ℕ) (events : List Event) (v w : Verdict) → IsVerdict s limit events v → IsVerdict s limit events w → w ≡ v
verdict_same s limit events Legal Legal i j = refl
verdict_same s limit events Legal (IllegalAt m) i (inl j) = absurd (j.1.illegal (whole_at s limit events m j.0 i.0 j.1.there))
verdict_same s limit events Legal (IllegalAt m) i (inr j) = settled_not (is_settled s limit (reverse events)) i.1 j.unsettled
verdict_same s limit events (IllegalAt n) Legal (inl i) j = absurd (i.1.illegal (whole_at s limit events n i.0 j.0 i.1.there))
verdict_same s limit events (IllegalAt n) Legal (inr i) j = settled_not (is_settled s limit (reverse events)) j.1 i.unsettled
verdict_same s limit events (IllegalAt n) (IllegalAt m) (inl i) (inl j) = ap (λ (k : ℕ). IllegalAt k) (same_first s limit events m n j.0 i.0 j.1 i.1)
verdict_same s limit events (IllegalAt n) (IllegalAt m) (inl i) (inr j) = absurd (i.1.illegal (whole_at s limit events n i.0 j.run i.1.there))
verdict_same s limit events (IllegalAt n) (IllegalAt m) (inr i) (inl j) = absurd (j.1.illegal (whole_at s limit events m j.0 i.run j.1.there))
verdict_same s limit events (IllegalAt n) (IllegalAt m) (inr i) (inr j) = ap (λ (k : ℕ). IllegalAt k) (j.number ∙ sym i.number)

-- ---- and one at least

-- whether the event is what came
is_it : (r : Result Event ScheduleKind) (e : Event) → (r ≡ Ok e) ⊎ (r ≡ Ok e → ⊥)
is_it (Err k) e = inr (λ h. absurd (let z = h in cc))
is_it (Ok x) e = go (event_eq.ghosts.eq x e) refl
  where
    test : IsTrue (event_eq.ghosts.eq x e) ↔ (x ≡ e)
    test = event_test x e (event_eq.ghosts.eq x e) refl

    go : (b : Bool) → event_eq.ghosts.eq x e ≡ b → ◌≡◌ {A = Result Event ScheduleKind} (Ok x) (Ok e) ⊎
        (◌≡◌ {A = Result Event ScheduleKind} (Ok x) (Ok e) → ⊥)
    go true h = inl (ap (λ (z : Event). Ok z) (test.0 h))
    go false h = inr (λ k. let same : x ≡ e = (let z = k in cc) in let t = test.1 same in cc)

-- the verdict at the end
last_verdict : (s : Script) (limit : ℕ) (events : List Event) → IsRun s limit (reverse events) → (v : Verdict) × IsVerdict s limit events v
last_verdict s limit events r = go (is_settled s limit (reverse events)) refl
  where
    go : (b : Bool) → is_settled s limit (reverse events) ≡ b → (v : Verdict) × IsVerdict s limit events v
    go true h = (Legal, (r, h))
    go false h = (IllegalAt (length events), inr (record { number = refl; run = r; unsettled = h }))

-- the verdict, where the first n events are a run and k are left
verdict_from : (s : Script) (limit : ℕ) (events : List Event) (k n : ℕ) → n + k ≡ length events → IsRun s limit (past_at n events) →
    (v : Verdict) × IsVerdict s limit events v
verdict_from s limit events zero n e r =
    let m : n ≡ length events = omega (arith, e) in
    last_verdict s limit events (subst (λ (past : List Event). IsRun s limit past) (past_whole events n m) r)
verdict_from s limit events (suc k) n e r = go (slice_get_cases events n).1 (λ q. verdict_from s limit events k (n + 1) (omega (arith, e)) q)
  where
    here : (x : Event) → slice_get events n ≡ Some x → (IsRun s limit (past_at (n + 1) events) → (v : Verdict) × IsVerdict s limit events v) →
        (step s limit (turn_of x) (past_at n events) ≡ Ok x) ⊎ (step s limit (turn_of x) (past_at n events) ≡ Ok x → ⊥) →
        (v : Verdict) × IsVerdict s limit events v
    here x h more (inl g) = more (subst (λ (past : List Event). IsRun s limit past) (sym (past_more events n x h)) (g, r))
    here x h more (inr never) = (IllegalAt n, inl (x, record { there = h; before = r; illegal = never }))

    go : ((x : Event) × (n < length events) × (slice_get events n ≡ Some x) × (get_or events n x ≡ x)) ⊎ ((length events ≤ n) × (slice_get events n ≡ None)) →
        (IsRun s limit (past_at (n + 1) events) → (v : Verdict) × IsVerdict s limit events v) → (v : Verdict) × IsVerdict s limit events v
    go (inl c) more = here c.0 c.2 more (is_it (step s limit (turn_of c.0) (past_at n events)) c.0)
    go (inr c) more = absurd (let l = c.0 in omega (arith, e, l))

-- a history has a verdict, and every verdict on it is that one
pub one_verdict : (s : Script) (limit : ℕ) (events : List Event) →
    (v : Verdict) × (IsVerdict s limit events v × ((w : Verdict) → IsVerdict s limit events w → w ≡ v))
one_verdict s limit events =
    let v = verdict_from s limit events (length events) 0 (omega arith) tt in
    (v.0, (v.1, λ w j. verdict_same s limit events v.0 w v.1 j))
