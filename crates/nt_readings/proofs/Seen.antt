-- In a run, what a processor has seen is the greatest of the asks that it noticed.
use Rattle.std.proofs.Common.{ap, arith, inl, inr, subst, sym, ◌∙◌}
use Rattle.std.proofs.lemmas.Bool.{eq-eqb, eqb-true, ltb-false, ltb-true}
use Rattle.std.specs.List.{list_any}
use Rattle.std.specs.Prelude.{Bool, List, [], false, if◌then◌else◌, length, max, nat_lt, refl, suc, true, zero, ℕ, ◌&&◌, ◌+◌, ◌<◌, ◌==◌, ◌||◌, ◌∷◌, ◌≡◌, ◌≤◌}
use Rattle.std.specs.Prelude.{◌⊎◌}
use Rattle.nt_event.specs.declared.events.Event.{Event}
use Rattle.nt_event.specs.declared.events.Turn.TheVariants.{Look as LookTurn}
use Rattle.nt_event.specs.declared.events.What.{What}
use Rattle.nt_event.specs.declared.events.What.TheVariants.{Look}
use Rattle.nt_event.specs.declared.jobs.Lane.{Lane}
use Rattle.nt_event.specs.declared.jobs.Lane.TheVariants.{Lock as LockLane, Object as ObjectLane, Queue as QueueLane, Threads as ThreadsLane}
use Rattle.nt_event.specs.declared.jobs.Lane.TheVariants.{Timers as TimersLane}
use Rattle.nt_event.specs.declared.numbers.CpuNo.{CpuNo}
use Rattle.nt_event.specs.declared.scripts.Script.{Script}
use Rattle.nt_event.specs.Lanes.{lanes_of, same_lane, touches}
use Rattle.nt_event.specs.Own.{Own, own_of}
use Rattle.nt_event.specs.Requests.{asks, looked, raised, seen, seen_after, told, told_by, told_by_all}
use Rattle.nt_event.specs.Step.{IsLegal, IsRun, good_rises, step, turn_at, was_asked}
use Rattle.nt_event.specs.Numbers.{is_of}
use Rattle.nt_event.specs.Lists.{value_at}
use Rattle.nt_event.proofs.Options.{both}
use Rattle.nt_runs.proofs.Running.{same_cpu}
use Rattle.nt_runs.proofs.Steps.{Gives, look_gives}
use Rattle.nt_readings.specs.Positions.{At, IsGreatestNext}
use Rattle.nt_readings.specs.Seen.{IsAsk, IsLookedAt, IsMet, IsNoticed, IsNoticedAsk, IsTouch}

-- ---- positions

-- the number of an event of which something holds is below the length of the history
pub at_before : (P : Event → List Event → Type 0) (n : ℕ) (past : List Event) → At P n past → n < length past
at_before P n [] h = absurd h
at_before P n (e ∷ past) (inl h) = let k = h.0 in omega (arith, k)
at_before P n (e ∷ past) (inr h) = let k = at_before P n past h in omega (arith, k)

-- ---- lanes

-- a lane is the same as itself
lane_itself : (x : Lane) → same_lane x x ≡ true
lane_itself (ObjectLane d) = eq-eqb d.0 d.0 refl
lane_itself (QueueLane p) = eq-eqb p.0 p.0 refl
lane_itself (ThreadsLane p) = eq-eqb p.0 p.0 refl
lane_itself TimersLane = refl
lane_itself (LockLane k) = eq-eqb k.0 k.0 refl

-- two lanes that pass the test for equality are the same
lane_is : (x y : Lane) → same_lane x y ≡ true → x ≡ y
lane_is (ObjectLane d) (ObjectLane x) h = ap (λ (n : ℕ). ObjectLane (record { 0 = n })) (sym (eqb-true x.0 d.0 h))
lane_is (QueueLane p) (QueueLane x) h = ap (λ (n : ℕ). QueueLane (record { 0 = n })) (sym (eqb-true x.0 p.0 h))
lane_is (ThreadsLane p) (ThreadsLane x) h = ap (λ (n : ℕ). ThreadsLane (record { 0 = n })) (sym (eqb-true x.0 p.0 h))
lane_is TimersLane TimersLane h = refl
lane_is (LockLane k) (LockLane x) h = ap (λ (n : ℕ). LockLane (record { 0 = n })) (sym (eqb-true x.0 k.0 h))
lane_is x y h = cc

-- ---- values

-- the greater of two numbers is one of them
max_is : (a b : ℕ) → (max a b ≡ a) ⊎ (max a b ≡ b)
max_is a b = go (nat_lt a b) refl
  where
    go : (c : Bool) → nat_lt a b ≡ c → (max a b ≡ a) ⊎ (max a b ≡ b)
    go true e = let l = ltb-true a b e in inr (omega (arith, l))
    go false e = let l = ltb-false a b e in inl (omega (arith, l))

-- a value above a number stays above it when it is raised to that of a later event
raised_at_least : (b : Bool) (n m old : ℕ) → m < n → m + 1 ≤ old → m + 1 ≤ raised b n old
raised_at_least true n m old l h = omega (arith, l)
raised_at_least false n m old l h = h

-- ---- what a Look notices was asked

-- a value v is one more than the number of an ask
abbrev IsOfAsk : Script → CpuNo → ℕ → ℕ → List Event → Type 0
IsOfAsk s p c v past = (n : ℕ) × (v ≡ n + 1) × IsAsk s p c n past

-- a value that passes the test for an ask is one more than the number of an ask
was_ask : (s : Script) (p : CpuNo) (c v : ℕ) (past : List Event) → was_asked s p c v past ≡ true → IsOfAsk s p c v past
was_ask s p c v [] h = cc
was_ask s p c v (e ∷ past) h =
    go (v == length past + 1) (asks s p c e past) refl refl h (λ k. was_ask s p c v past k)
  where
    go : (m b : Bool) → (v == length past + 1) ≡ m → asks s p c e past ≡ b → ((m && b) || was_asked s p c v past) ≡ true →
        (was_asked s p c v past ≡ true → IsOfAsk s p c v past) → IsOfAsk s p c v (e ∷ past)
    go true true e1 e2 x ih = (length past, eqb-true v (length past + 1) e1, inl (refl, e2))
    go true false e1 e2 x ih = let r = ih x in (r.0, r.1, inr r.2)
    go false b e1 e2 x ih = let r = ih x in (r.0, r.1, inr r.2)

-- each value of a Look that is well formed is 0 or one more than the number of an ask
rises_ask : (s : Script) (p : CpuNo) (k i : ℕ) (vs : List ℕ) (x : Own) (past : List Event) → good_rises s p k vs x past ≡ true → (value_at vs i ≡ 0) ⊎
    IsOfAsk s p (k + i) (value_at vs i) past
rises_ask s p k i [] x past h = inl refl
rises_ask s p k zero (v ∷ vs) x past h =
    let e : k + 0 ≡ k = omega arith in
    rw e (first (v == 0) (nat_lt (value_at x.seen k) v) (was_asked s p k v past) refl refl
    (both ((v == 0) || (nat_lt (value_at x.seen k) v && was_asked s p k v past)) _ h).0)
  where
    first : (z m w : Bool) → (v == 0) ≡ z → was_asked s p k v past ≡ w → (z || (m && w)) ≡ true → (v ≡ 0) ⊎ IsOfAsk s p k v past
    first true m w e1 e2 t = inl (eqb-true v 0 e1)
    first false true true e1 e2 t = inr (was_ask s p k v past e2)
    first false true false e1 e2 t = cc
    first false false w e1 e2 t = cc
rises_ask s p k (suc i) (v ∷ vs) x past h =
    let e : k + suc i ≡ suc k + i = omega arith in
    rw e (rises_ask s p (suc k) i vs x past (both ((v == 0) || (nat_lt (value_at x.seen k) v && was_asked s p k v past)) _ h).1)

-- a value that a Look of a run shows is 0 or one more than the number of an ask
look_ask : (s : Script) (limit : ℕ) (c : ℕ) (e : Event) (past : List Event) (w : What) → e.what ≡ w → IsLegal s limit e past → (looked w c ≡ 0) ⊎
    IsOfAsk s e.cpu c (looked w c) past
look_ask s limit c e past (Look r) k g =
    let turn : Gives (step s limit (LookTurn e.cpu r) past) e = subst (λ (w : What). Gives (step s limit (turn_at e.cpu w) past) e) k g in
    let good = (look_gives s limit e.cpu r past e turn).0 in
    let zero_left : 0 + c ≡ c = omega arith in
    rw zero_left at (rises_ask s e.cpu 0 c r.value (own_of s e.cpu past) past (both (list_any (λ v. nat_lt 0 v) r.value) _ good).1)
look_ask s limit c e past w k g = inl refl

-- a value that is looked at is of an earlier event
look_below : (s : Script) (limit : ℕ) (p : CpuNo) (c n : ℕ) (past : List Event) → IsRun s limit past → IsLookedAt p c n past → n < length past
look_below s limit p c n [] r h = absurd h
look_below s limit p c n (e ∷ past) r (inr h) = let k = look_below s limit p c n past r.1 h in omega (arith, k)
look_below s limit p c n (e ∷ past) r (inl h) = go (look_ask s limit c e past e.what refl r.0)
  where
    go : (looked e.what c ≡ 0) ⊎ IsOfAsk s e.cpu c (looked e.what c) past → n < suc (length past)
    go (inl z) = let l = h.1 in absurd (omega (arith, l, z))
    go (inr a) =
        let l = h.1 in
        let v = a.1 in
        let k = at_before (λ e before. asks s e.cpu c e before ≡ true) a.0 past in
        let b = at_before (λ f before. asks s e.cpu c f before ≡ true) a.0 past a.2 in
        omega (arith, l, v, b)

-- an event that is met on a lane is an earlier one
met_below : (s : Script) (p : CpuNo) (n : ℕ) (past : List Event) → IsMet s p n past → n < length past
met_below s p n [] h = absurd h
met_below s p n (e ∷ past) (inl h) =
    let x : Lane = h.1 in
    let k = at_before (λ e before. touches s x e before ≡ true) n past h.3 in
    omega (arith, k)
met_below s p n (e ∷ past) (inr h) = let k = met_below s p n past h in omega (arith, k)

-- ---- what lanes tell

-- an ask that touched a lane is told by that lane, so the lane's value is above its number
told_of : (s : Script) (x : Lane) (p : CpuNo) (c n : ℕ) (past : List Event) → IsAsk s p c n past → IsTouch s x n past → n + 1 ≤ told_by s x p c past
told_of s x p c n [] a t = absurd a
told_of s x p c n (e ∷ past) (inl a) (inl t) =
    let v : raised (touches s x e past && asks s p c e past) (length past) (told_by s x p c past) ≡ length past + 1 = rw (t.1, a.1) refl in
    let k = a.0 in
    omega (arith, v, k)
told_of s x p c n (e ∷ past) (inl a) (inr t) =
    let k = a.0 in
    let l = at_before (λ e before. touches s x e before ≡ true) n past t in
    absurd (omega (arith, k, l))
told_of s x p c n (e ∷ past) (inr a) (inl t) =
    let k = t.0 in
    let l = at_before (λ e before. asks s p c e before ≡ true) n past a in
    absurd (omega (arith, k, l))
told_of s x p c n (e ∷ past) (inr a) (inr t) =
    raised_at_least (touches s x e past && asks s p c e past) (length past) n (told_by s x p c past)
    (at_before (λ e before. asks s p c e before ≡ true) n past a) (told_of s x p c n past a t)

-- an ask that touched one of several lanes is told by them all together
all_told_of : (s : Script) (x : Lane) (xs : List Lane) (p : CpuNo) (c n : ℕ) (past : List Event) → list_any (same_lane x) xs ≡ true → IsAsk s p c n past →
    IsTouch s x n past → n + 1 ≤ told_by_all s xs p c past
all_told_of s x [] p c n past h a t = cc
all_told_of s x (y ∷ ys) p c n past h a t =
    go (same_lane x y) refl h (λ k. all_told_of s x ys p c n past k a t)
  where
    go : (b : Bool) → same_lane x y ≡ b → (b || list_any (same_lane x) ys) ≡ true → (list_any (same_lane x) ys ≡ true → n + 1 ≤ told_by_all s ys p c past) →
        n + 1 ≤ max (told_by s y p c past) (told_by_all s ys p c past)
    go true e k ih =
        let l = told_of s y p c n past a (subst (λ (x : Lane). IsTouch s x n past) (lane_is x y e) t) in omega (arith, l)
    go false e k ih = let l = ih k in omega (arith, l)

-- a value that a lane tells is of an ask that touched it
abbrev IsOfTouch : Script → Lane → CpuNo → ℕ → ℕ → List Event → Type 0
IsOfTouch s x p c v past = (n : ℕ) × (v ≡ n + 1) × IsAsk s p c n past × IsTouch s x n past

-- a lane's value above 0 is one more than the number of an ask that touched the lane
told_comes : (s : Script) (x : Lane) (p : CpuNo) (c : ℕ) (past : List Event) → 0 < told_by s x p c past → IsOfTouch s x p c (told_by s x p c past) past
told_comes s x p c [] h = absurd (omega (arith, h))
told_comes s x p c (e ∷ past) h =
    go (touches s x e past) (asks s p c e past) refl refl h (λ k. told_comes s x p c past k)
  where
    go : (t a : Bool) → touches s x e past ≡ t → asks s p c e past ≡ a → 0 < raised (t && a) (length past) (told_by s x p c past) →
        (0 < told_by s x p c past → IsOfTouch s x p c (told_by s x p c past) past) →
        IsOfTouch s x p c (raised (t && a) (length past) (told_by s x p c past)) (e ∷ past)
    go true true e1 e2 k ih = (length past, refl, inl (refl, e2), inl (refl, e1))
    go true false e1 e2 k ih = let r = ih k in (r.0, r.1, inr r.2, inr r.3)
    go false a e1 e2 k ih = let r = ih k in (r.0, r.1, inr r.2, inr r.3)

abbrev IsOfSome : Script → List Lane → CpuNo → ℕ → ℕ → List Event → Type 0
IsOfSome s xs p c v past = (x : Lane) × (list_any (same_lane x) xs ≡ true) × IsOfTouch s x p c v past

-- an "or" is true if its second side is true
or_true : (a b : Bool) → b ≡ true → (a || b) ≡ true
or_true true b h = refl
or_true false b h = h

-- the joint value of several lanes, if above 0, comes from an ask that touched one of them
all_told_comes : (s : Script) (xs : List Lane) (p : CpuNo) (c : ℕ) (past : List Event) → 0 < told_by_all s xs p c past →
    IsOfSome s xs p c (told_by_all s xs p c past) past
all_told_comes s [] p c past h = absurd (omega (arith, h))
all_told_comes s (y ∷ ys) p c past h =
    go (λ k. all_told_comes s ys p c past k) (max_is (told_by s y p c past) (told_by_all s ys p c past))
  where
    go : (0 < told_by_all s ys p c past → IsOfSome s ys p c (told_by_all s ys p c past) past) →
        (max (told_by s y p c past) (told_by_all s ys p c past) ≡ told_by s y p c past) ⊎
        (max (told_by s y p c past) (told_by_all s ys p c past) ≡ told_by_all s ys p c past) →
        IsOfSome s (y ∷ ys) p c (max (told_by s y p c past) (told_by_all s ys p c past)) past
    go ih (inl e) =
        let r = told_comes s y p c past (omega (arith, h, e)) in
        (y, rw (lane_itself y) refl, (r.0, e ∙ r.1, r.2, r.3))
    go ih (inr e) =
        let r = ih (omega (arith, h, e)) in
        (r.0, or_true (same_lane r.0 y) (list_any (same_lane r.0) ys) r.1, (r.2.0, e ∙ r.2.1, r.2.2, r.2.3))

-- ---- each ask that was noticed is at most what was seen

-- what a processor has seen is above the number of each ask that it noticed
below_seen : (s : Script) (limit : ℕ) (p : CpuNo) (c n : ℕ) (past : List Event) → IsRun s limit past → IsAsk s p c n past → IsNoticed s p c n past →
    n + 1 ≤ seen s p c past
below_seen s limit p c n [] r a k = absurd a
below_seen s limit p c n (e ∷ past) r a k =
    go (λ a m. below_seen s limit p c n past r.1 a m) (is_of e p) refl a k
  where
    at_least : (b : Bool) (x : ℕ) → n < length past → n + 1 ≤ x → x ≤ max (max (seen s p c past) (looked e.what c)) (told s p c e past) →
        n + 1 ≤ raised b (length past) (max (max (seen s p c past) (looked e.what c)) (told s p c e past))
    at_least b x l h m =
        raised_at_least b (length past) n (max (max (seen s p c past) (looked e.what c)) (told s p c e past)) l (omega (arith, h, m))

    new : IsNoticed s p c n (e ∷ past) → n ≡ length past → is_of e p ≡ true
    new (inl (inl m)) h = m.1
    new (inl (inr m)) h =
        let l = at_before (λ e before. is_of e p ≡ true) n past m in absurd (omega (arith, l, h))
    new (inr (inl (inl m))) h = m.0
    new (inr (inl (inr m))) h = let l = look_below s limit p c n past r.1 m in absurd (omega (arith, l, h))
    new (inr (inr (inl m))) h = m.0
    new (inr (inr (inr m))) h = let l = met_below s p n past m in absurd (omega (arith, l, h))

    earlier : (IsAsk s p c n past → IsNoticed s p c n past → n + 1 ≤ seen s p c past) → (b : Bool) → is_of e p ≡ b → IsAsk s p c n past → n < length past →
        IsNoticed s p c n (e ∷ past) → n + 1 ≤ (if b then seen_after (length past) e.what c (asks s p c e past) (told s p c e past) (seen s p c past)
        else seen s p c past)
    earlier ih b o a l (inl (inl m)) = let h = m.0 in absurd (omega (arith, l, h))
    earlier ih true o a l (inl (inr m)) = at_least (asks s p c e past) (seen s p c past) l (ih a (inl m)) (omega arith)
    earlier ih false o a l (inl (inr m)) = ih a (inl m)
    earlier ih true o a l (inr (inl (inl m))) = at_least (asks s p c e past) (looked e.what c) l m.1 (omega arith)
    earlier ih false o a l (inr (inl (inl m))) = let t : is_of e p ≡ true = m.0 in cc
    earlier ih true o a l (inr (inl (inr m))) = at_least (asks s p c e past) (seen s p c past) l (ih a (inr (inl m))) (omega arith)
    earlier ih false o a l (inr (inl (inr m))) = ih a (inr (inl m))
    earlier ih true o a l (inr (inr (inl m))) =
        at_least (asks s p c e past) (told s p c e past) l (all_told_of s m.1 (lanes_of s e past) p c n past m.2 a m.3) (omega arith)
    earlier ih false o a l (inr (inr (inl m))) = let t : is_of e p ≡ true = m.0 in cc
    earlier ih true o a l (inr (inr (inr m))) = at_least (asks s p c e past) (seen s p c past) l (ih a (inr (inr m))) (omega arith)
    earlier ih false o a l (inr (inr (inr m))) = ih a (inr (inr m))

    go : (IsAsk s p c n past → IsNoticed s p c n past → n + 1 ≤ seen s p c past) → (b : Bool) → is_of e p ≡ b → IsAsk s p c n (e ∷ past) →
        IsNoticed s p c n (e ∷ past) → n + 1 ≤ (if b then seen_after (length past) e.what c (asks s p c e past) (told s p c e past) (seen s p c past)
        else seen s p c past)
    go ih true o (inl x) m =
        let w : seen_after (length past) e.what c (asks s p c e past) (told s p c e past) (seen s p c past) ≡ length past + 1 = rw x.1 refl in
        let h = x.0 in
        omega (arith, w, h)
    go ih false o (inl x) m = let t : is_of e p ≡ true = new m x.0 in cc
    go ih b o (inr x) m = earlier ih b o x (at_before (λ e before. asks s p c e before ≡ true) n past x) m

-- ---- what was seen is of an ask that was noticed

abbrev IsOfNoticed : Script → CpuNo → ℕ → ℕ → List Event → Type 0
IsOfNoticed s p c v past = (n : ℕ) × (v ≡ n + 1) × IsAsk s p c n past × IsNoticed s p c n past

-- an event that a processor noticed is still noticed after a later event
lift_noticed : (s : Script) (p : CpuNo) (c n : ℕ) (e : Event) (past : List Event) → IsNoticed s p c n past → IsNoticed s p c n (e ∷ past)
lift_noticed s p c n e past (inl h) = inl (inr h)
lift_noticed s p c n e past (inr (inl h)) = inr (inl (inr h))
lift_noticed s p c n e past (inr (inr h)) = inr (inr (inr h))

-- what a processor has seen, if above 0, comes from an ask that it noticed
seen_comes : (s : Script) (limit : ℕ) (p : CpuNo) (c : ℕ) (past : List Event) → IsRun s limit past → 0 < seen s p c past →
    IsOfNoticed s p c (seen s p c past) past
seen_comes s limit p c [] r h = absurd (omega (arith, h))
seen_comes s limit p c (e ∷ past) r h =
    go (λ k. let a = seen_comes s limit p c past r.1 k in (a.0, a.1, inr a.2, lift_noticed s p c a.0 e past a.3)) (is_of e p) refl h
  where
    same : (v w : ℕ) → v ≡ w → IsOfNoticed s p c w (e ∷ past) → IsOfNoticed s p c v (e ∷ past)
    same v w q k = (k.0, q ∙ k.1, k.2, k.3)

    from_look : is_of e p ≡ true → 0 < looked e.what c → IsOfNoticed s p c (looked e.what c) (e ∷ past)
    from_look o k = here (look_ask s limit c e past e.what refl r.0)
      where
        here : (looked e.what c ≡ 0) ⊎ IsOfAsk s e.cpu c (looked e.what c) past → IsOfNoticed s p c (looked e.what c) (e ∷ past)
        here (inl z) = absurd (omega (arith, k, z))
        here (inr a) =
            let v = a.1 in
            (a.0, a.1, inr (subst (λ (q : CpuNo). IsAsk s q c a.0 past) (same_cpu e p o) a.2), inr (inl (inl (o, omega (arith, v)))))

    from_lanes : is_of e p ≡ true → 0 < told s p c e past → IsOfNoticed s p c (told s p c e past) (e ∷ past)
    from_lanes o k =
        let a = all_told_comes s (lanes_of s e past) p c past k in
        (a.2.0, a.2.1, inr a.2.2, inr (inr (inl (o, a.0, a.1, a.2.3))))

    greatest : (0 < seen s p c past → IsOfNoticed s p c (seen s p c past) (e ∷ past)) → is_of e p ≡ true →
        0 < max (max (seen s p c past) (looked e.what c)) (told s p c e past) →
        IsOfNoticed s p c (max (max (seen s p c past) (looked e.what c)) (told s p c e past)) (e ∷ past)
    greatest lifted o k = outer (max_is (max (seen s p c past) (looked e.what c)) (told s p c e past)) (max_is (seen s p c past) (looked e.what c))
      where
        outer : (max (max (seen s p c past) (looked e.what c)) (told s p c e past) ≡ max (seen s p c past) (looked e.what c)) ⊎
            (max (max (seen s p c past) (looked e.what c)) (told s p c e past) ≡ told s p c e past) →
            (max (seen s p c past) (looked e.what c) ≡ seen s p c past) ⊎ (max (seen s p c past) (looked e.what c) ≡ looked e.what c) →
            IsOfNoticed s p c (max (max (seen s p c past) (looked e.what c)) (told s p c e past)) (e ∷ past)
        outer (inr q) i = same _ (told s p c e past) q (from_lanes o (omega (arith, k, q)))
        outer (inl q) (inl i) = same _ (seen s p c past) (q ∙ i) (lifted (omega (arith, k, q, i)))
        outer (inl q) (inr i) = same _ (looked e.what c) (q ∙ i) (from_look o (omega (arith, k, q, i)))

    mine : (0 < seen s p c past → IsOfNoticed s p c (seen s p c past) (e ∷ past)) → (a : Bool) → is_of e p ≡ true → asks s p c e past ≡ a →
        0 < raised a (length past) (max (max (seen s p c past) (looked e.what c)) (told s p c e past)) →
        IsOfNoticed s p c (raised a (length past) (max (max (seen s p c past) (looked e.what c)) (told s p c e past))) (e ∷ past)
    mine lifted true o q k = (length past, refl, inl (refl, q), inl (inl (refl, o)))
    mine lifted false o q k = greatest lifted o k

    go : (0 < seen s p c past → IsOfNoticed s p c (seen s p c past) (e ∷ past)) → (b : Bool) → is_of e p ≡ b →
        0 < (if b then seen_after (length past) e.what c (asks s p c e past) (told s p c e past) (seen s p c past) else seen s p c past) →
        IsOfNoticed s p c (if b then seen_after (length past) e.what c (asks s p c e past) (told s p c e past) (seen s p c past) else seen s p c past)
        (e ∷ past)
    go lifted true o k = mine lifted (asks s p c e past) o refl k
    go lifted false o k = lifted k

-- ---- so it is the greatest

-- a number above each of which P holds, and one more than one of them if above 0, is the greatest next
greatest_next : (P : ℕ → Type 0) (v : ℕ) → ((n : ℕ) → P n → n + 1 ≤ v) → (0 < v → (n : ℕ) × (v ≡ n + 1) × P n) → IsGreatestNext P v
greatest_next P zero low comes = inl (refl, λ n h. let l = low n h in omega (arith, l))
greatest_next P (suc v) low comes =
    let a = comes (omega arith) in
    let e = a.1 in
    inr (a.0, a.1, a.2, λ m h. let l = low m h in omega (arith, l, e))

-- in a run, what a processor has seen of a class is one more than the last ask that it noticed, else 0
pub seen_greatest : (s : Script) (limit : ℕ) (p : CpuNo) (c : ℕ) (past : List Event) → IsRun s limit past →
    IsGreatestNext (IsNoticedAsk s p c past) (seen s p c past)
seen_greatest s limit p c past r =
    greatest_next (IsNoticedAsk s p c past) (seen s p c past) (λ n h. below_seen s limit p c n past r h.0 h.1)
    (λ h. let a = seen_comes s limit p c past r h in (a.0, a.1, (a.2, a.3)))
