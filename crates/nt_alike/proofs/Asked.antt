-- Requests without numbers: how many stand above what was seen, and above what a lane tells.
use Rattle.std.proofs.Common.{ap, arith, inl, inr, subst, ◌∙◌}
use Rattle.std.proofs.lemmas.Bool.{eq-eqb, eqb-true, le-ltb, lt-ltb, ltb-false, ltb-true}
use Rattle.std.specs.Prelude.{Bool, List, [], false, if◌then◌else◌, length, max, nat_lt, refl, suc, true, zero, ℕ, ◌&&◌, ◌+◌, ◌<◌, ◌==◌, ◌||◌, ◌∷◌, ◌≡◌, ◌≤◌}
use Rattle.std.specs.Prelude.{◌⊎◌}
use Rattle.nt_event.specs.declared.events.Event.{Event}
use Rattle.nt_event.specs.declared.events.What.{What}
use Rattle.nt_event.specs.declared.jobs.Lane.{Lane}
use Rattle.nt_event.specs.declared.numbers.CpuNo.{CpuNo}
use Rattle.nt_event.specs.declared.scripts.Script.{Script}
use Rattle.nt_event.specs.Lanes.{lanes_of, touches}
use Rattle.nt_event.specs.Numbers.{is_of}
use Rattle.nt_event.specs.Requests.{asks, looked, raised, seen, seen_after, served, serves, told, told_by, told_by_all}
use Rattle.nt_event.specs.Step.{IsRun, was_asked}
use Rattle.nt_runs.proofs.Robin.{or_yes}
use Rattle.nt_runs.proofs.Rundown.{seen_length, served_below}
use Rattle.nt_runs.proofs.Settled.{asked_below, told_by_below, was_asked_below}
use Rattle.nt_alike.specs.Alike.{unnoticed, newer, count_if}

abbrev pub lower : ℕ → ℕ → ℕ
lower a b = if nat_lt a b then a else b

-- the places after an event, by those before it
abbrev pub place_after : Bool → Bool → Bool → ℕ → ℕ → ℕ
place_after true true t own old = 0
place_after true false t own old = lower own old
place_after false true true own old = 0
place_after false true false own old = 1 + old
place_after false false t own old = old

abbrev pub due_after : Bool → Bool → Bool → Bool → ℕ → ℕ → Bool
due_after own serves asks old new place = if own then (if serves then false else (asks || (old || nat_lt new place))) else old

module _ (s : Script) (p : CpuNo) (c : ℕ) where
  -- ---- count_if event more

  one_if : (a : Bool) (v n : ℕ) → v ≤ n → count_if (a && nat_lt v (n + 1)) ≡ count_if a
  one_if false v n h = refl
  one_if true v n h = let l : nat_lt v (n + 1) ≡ true = lt-ltb v (n + 1) (omega (arith, h)) in rw l refl

  newer_old : (v : ℕ) (e : Event) (past : List Event) → v ≤ length past → newer s p c v (e ∷ past) ≡ count_if (asks s p c e past) + newer s p c v past
  newer_old v e past h = ap (λ (n : ℕ). n + newer s p c v past) (one_if (asks s p c e past) v (length past) h)

  step_down : (a : Bool) (u v n : ℕ) → u ≤ v → count_if (a && nat_lt v (n + 1)) ≤ count_if (a && nat_lt u (n + 1))
  step_down false u v n h = omega arith
  step_down true u v n h = go (nat_lt v (n + 1)) refl
    where
      go : (b : Bool) → nat_lt v (n + 1) ≡ b → count_if b ≤ count_if (nat_lt u (n + 1))
      go true k = let l = ltb-true v (n + 1) k in let m : nat_lt u (n + 1) ≡ true = lt-ltb u (n + 1) (omega (arith, l, h)) in rw m (omega arith)
      go false k = omega arith

  newer_falls : (u v : ℕ) (past : List Event) → u ≤ v → newer s p c v past ≤ newer s p c u past
  newer_falls u v [] h = omega arith
  newer_falls u v (e ∷ past) h =
      let a = step_down (asks s p c e past) u v (length past) h in
      let b = newer_falls u v past h in
      omega (arith, a, b)

  -- no event of a history asks by a value above the history's length or above any greater value
  pub newer_none : (v : ℕ) (past : List Event) → length past ≤ v → newer s p c v past ≡ 0
  newer_none v [] h = refl
  newer_none v (e ∷ past) h =
      let a = newer_none v past (omega (arith, h)) in
      let l : nat_lt v (length past + 1) ≡ false = le-ltb v (length past + 1) (omega (arith, h)) in
      rw (l, a) (zero_if (asks s p c e past))
    where
      zero_if : (b : Bool) → count_if (b && false) + 0 ≡ 0
      zero_if true = refl
      zero_if false = refl

  -- a value that was asked is above what is below it
  pub newer_strict : (u v : ℕ) (past : List Event) → u < v → was_asked s p c v past ≡ true → newer s p c v past < newer s p c u past
  newer_strict u v [] h w = cc
  newer_strict u v (e ∷ past) h w = go (v == length past + 1) refl (asks s p c e past) refl (was_asked s p c v past) refl w (λ q. newer_strict u v past h q)
    where
      go : (b : Bool) → (v == length past + 1) ≡ b → (a : Bool) → asks s p c e past ≡ a → (o : Bool) → was_asked s p c v past ≡ o → ((b && a) || o) ≡ true →
          (was_asked s p c v past ≡ true → newer s p c v past < newer s p c u past) →
          newer s p c v (e ∷ past) < newer s p c u (e ∷ past)
      go true k true m o q t r =
          let n = eqb-true v (length past + 1) k in
          let zero = newer_none v (e ∷ past) (omega (arith, n)) in
          let more : newer s p c u (e ∷ past) ≡ 1 + newer s p c u past = newer_old u e past (omega (arith, h, n)) ∙ rw m refl in
          omega (arith, zero, more)
      go b k a m true q t r =
          let f = r q in
          let g = step_down (asks s p c e past) u v (length past) (omega (arith, h)) in
          omega (arith, f, g)
      go true k false m false q t r = cc
      go false k a m false q t r = cc

  newer_max : (u v : ℕ) (past : List Event) → newer s p c (max u v) past ≡ lower (newer s p c u past) (newer s p c v past)
  newer_max u v past = go (nat_lt u v) refl
    where
      go : (b : Bool) → nat_lt u v ≡ b → newer s p c (max u v) past ≡ lower (newer s p c u past) (newer s p c v past)
      go true k =
          let l = ltb-true u v k in
          let m : max u v ≡ v = omega (arith, l) in
          let f = newer_falls u v past (omega (arith, l)) in
          let t : nat_lt (newer s p c u past) (newer s p c v past) ≡ false = le-ltb (newer s p c u past) (newer s p c v past) f in
          rw (m, t) refl
      go false k =
          let l = ltb-false u v k in
          let m : max u v ≡ u = omega (arith, l) in
          let f = newer_falls v u past (omega (arith, l)) in
          rw m (at (nat_lt (newer s p c u past) (newer s p c v past)) refl f)
        where
          at : (t : Bool) → nat_lt (newer s p c u past) (newer s p c v past) ≡ t → newer s p c u past ≤ newer s p c v past →
              newer s p c u past ≡ (if t then newer s p c u past else newer s p c v past)
          at true q f = refl
          at false q f = let r = ltb-false (newer s p c u past) (newer s p c v past) q in omega (arith, r, f)

  -- for each place above a value there is a value that was asked there
  pub newer_finds : (u j : ℕ) (past : List Event) → u ≤ length past → j < newer s p c u past →
      (v : ℕ) × (u < v) × (was_asked s p c v past ≡ true) × (newer s p c v past ≡ j)
  newer_finds u j [] l h = absurd (omega (arith, h))
  newer_finds u j (e ∷ past) l h = go (asks s p c e past) refl (nat_lt u (length past + 1)) refl j h (λ i m k. newer_finds u i past m k)
    where
      Found : ℕ → List Event → Type 0
      Found i all = (v : ℕ) × (u < v) × (was_asked s p c v all ≡ true) × (newer s p c v all ≡ i)

      later : (k : ℕ) → (a : Bool) → asks s p c e past ≡ a → Found k past → Found (count_if a + k) (e ∷ past)
      later k a q f =
          let w = was_asked_below s p c f.0 past f.2 in
          let y = asked_below s p c past in
          let o : newer s p c f.0 (e ∷ past) ≡ count_if a + newer s p c f.0 past = newer_old f.0 e past (omega (arith, w, y)) ∙ rw q refl in
          (f.0, f.1, or_yes _ _ f.2, o ∙ ap (λ (n : ℕ). count_if a + n) f.3)

      go : (a : Bool) → asks s p c e past ≡ a → (b : Bool) → nat_lt u (length past + 1) ≡ b → (i : ℕ) → i < newer s p c u (e ∷ past) →
          ((i : ℕ) → u ≤ length past → i < newer s p c u past → Found i past) → Found i (e ∷ past)
      go true q true k zero h rec =
          let l = ltb-true u (length past + 1) k in
          (length past + 1, l, rw (q, eq-eqb (length past + 1) (length past + 1) refl) refl, newer_none (length past + 1) (e ∷ past) (omega arith))
      go true q true k (suc i) h rec =
          let l = ltb-true u (length past + 1) k in
          let o : newer s p c u (e ∷ past) ≡ 1 + newer s p c u past = newer_old u e past (omega (arith, l)) ∙ rw q refl in
          let n : 1 + i ≡ suc i = omega arith in
          subst (λ (m : ℕ). Found m (e ∷ past)) n (later i true q (rec i (omega (arith, l)) (omega (arith, h, o))))
      go false q true k i h rec =
          let l = ltb-true u (length past + 1) k in
          let o : newer s p c u (e ∷ past) ≡ 0 + newer s p c u past = newer_old u e past (omega (arith, l)) ∙ rw q refl in
          let n : 0 + i ≡ i = omega arith in
          subst (λ (m : ℕ). Found m (e ∷ past)) n (later i false q (rec i (omega (arith, l)) (omega (arith, h, o))))
      go a q false k i h rec =
          let l = ltb-false u (length past + 1) k in
          let o = newer_none u (e ∷ past) (omega (arith, l)) in
          absurd (omega (arith, h, o))

  -- ---- what was told was asked

  -- the value that a lane tells for a class on a processor is zero, or was asked by an earlier event
  pub told_was : (x : Lane) (past : List Event) → (told_by s x p c past ≡ 0) ⊎ (was_asked s p c (told_by s x p c past) past ≡ true)
  told_was x [] = inl refl
  told_was x (e ∷ past) = go (touches s x e past) (asks s p c e past) refl (told_was x past)
    where
      same : (length past + 1 == length past + 1) ≡ true
      same = eq-eqb (length past + 1) (length past + 1) refl

      go : (t a : Bool) → asks s p c e past ≡ a → (told_by s x p c past ≡ 0) ⊎ (was_asked s p c (told_by s x p c past) past ≡ true) →
          (raised (t && a) (length past) (told_by s x p c past) ≡ 0)
          ⊎ (was_asked s p c (raised (t && a) (length past) (told_by s x p c past)) (e ∷ past) ≡ true)
      go true true k h = inr (rw (k, same) refl)
      go true false k (inl z) = inl z
      go true false k (inr w) = inr (or_yes _ _ w)
      go false a k (inl z) = inl z
      go false a k (inr w) = inr (or_yes _ _ w)

  told_all_was : (xs : List Lane) (past : List Event) → (told_by_all s xs p c past ≡ 0) ⊎ (was_asked s p c (told_by_all s xs p c past) past ≡ true)
  told_all_was [] past = inl refl
  told_all_was (x ∷ xs) past = go (nat_lt (told_by s x p c past) (told_by_all s xs p c past)) refl (told_was x past) (told_all_was xs past)
    where
      Fine : ℕ → Type 0
      Fine v = (v ≡ 0) ⊎ (was_asked s p c v past ≡ true)

      go : (b : Bool) → nat_lt (told_by s x p c past) (told_by_all s xs p c past) ≡ b → Fine (told_by s x p c past) → Fine (told_by_all s xs p c past) →
          Fine (max (told_by s x p c past) (told_by_all s xs p c past))
      go true k a b =
          let l = ltb-true (told_by s x p c past) (told_by_all s xs p c past) k in
          let m : told_by_all s xs p c past ≡ max (told_by s x p c past) (told_by_all s xs p c past) = omega (arith, l) in subst Fine m b
      go false k a b =
          let l = ltb-false (told_by s x p c past) (told_by_all s xs p c past) k in
          let m : told_by s x p c past ≡ max (told_by s x p c past) (told_by_all s xs p c past) = omega (arith, l) in subst Fine m a

  -- what the lanes of an event tell, by places
  abbrev pub told_places : List Lane → List Event → ℕ
  told_places [] past = unnoticed s p c 0 past
  told_places (x ∷ xs) past = lower (unnoticed s p c (told_by s x p c past) past) (told_places xs past)

  told_all_places : (xs : List Lane) (past : List Event) → newer s p c (max (seen s p c past) (told_by_all s xs p c past)) past ≡ told_places xs past
  told_all_places [] past = refl
  told_all_places (x ∷ xs) past =
      let r = told_all_places xs past in
      let m : max (seen s p c past) (max (told_by s x p c past) (told_by_all s xs p c past))
      ≡ max (max (seen s p c past) (told_by s x p c past)) (max (seen s p c past) (told_by_all s xs p c past)) = omega arith in
      ap (λ (v : ℕ). newer s p c v past) m
      ∙ newer_max (max (seen s p c past) (told_by s x p c past)) (max (seen s p c past) (told_by_all s xs p c past)) past
      ∙ ap (lower (unnoticed s p c (told_by s x p c past) past)) r

  -- ---- what an event leaves

  -- the place of what a Look found
  abbrev pub look_place : What → List Event → ℕ
  look_place w past = newer s p c (max (seen s p c past) (looked w c)) past

  abbrev pub own_place : Event → List Event → ℕ
  own_place e past = lower (look_place e.what past) (told_places (lanes_of s e past) past)

  seen_own : (e : Event) (past : List Event) → is_of e p ≡ true → seen s p c (e ∷ past)
      ≡ seen_after (length past) e.what c (asks s p c e past) (told s p c e past) (seen s p c past)
  seen_own e past h = rw h refl

  seen_other : (e : Event) (past : List Event) → is_of e p ≡ false → seen s p c (e ∷ past) ≡ seen s p c past
  seen_other e past h = rw h refl

  -- after an event of the processor not asking for the class, it has seen what it saw, looked at or was told
  pub seen_quiet : (e : Event) (past : List Event) → is_of e p ≡ true → asks s p c e past ≡ false →
      seen s p c (e ∷ past) ≡ max (max (seen s p c past) (looked e.what c)) (told s p c e past)
  seen_quiet e past h a = seen_own e past h ∙ rw a refl

  -- after an event of the processor that asks for the class itself, it has seen that very request
  pub seen_asking : (e : Event) (past : List Event) → is_of e p ≡ true → asks s p c e past ≡ true → seen s p c (e ∷ past) ≡ length past + 1
  seen_asking e past h a = seen_own e past h ∙ rw a refl

  told_quiet : (x : Lane) (e : Event) (past : List Event) → asks s p c e past ≡ false → told_by s x p c (e ∷ past) ≡ told_by s x p c past
  told_quiet x e past a = rw a (go (touches s x e past))
    where
      go : (t : Bool) → raised (t && false) (length past) (told_by s x p c past) ≡ told_by s x p c past
      go true = refl
      go false = refl

  -- an event that does not ask for the class leaves the count of requests above a value as it was
  pub newer_quiet : (v : ℕ) (e : Event) (past : List Event) → asks s p c e past ≡ false → newer s p c v (e ∷ past) ≡ newer s p c v past
  newer_quiet v e past a = let z : 0 + newer s p c v past ≡ newer s p c v past = omega arith in rw a z

  -- an event of the processor that doesn't ask
  quiet_place : (v : ℕ) (e : Event) (past : List Event) → is_of e p ≡ true → asks s p c e past ≡ false →
      newer s p c (max (seen s p c (e ∷ past)) v) (e ∷ past) ≡ lower (own_place e past) (newer s p c (max (seen s p c past) v) past)
  quiet_place v e past h a =
      let S = seen s p c past in
      let L = looked e.what c in
      let T = told s p c e past in
      let k = seen_quiet e past h a in
      let m : max (max (max S L) T) v ≡ max (max (max S L) (max S T)) (max S v) = omega arith in
      newer_quiet (max (seen s p c (e ∷ past)) v) e past a
      ∙ ap (λ (u : ℕ). newer s p c (max u v) past) k
      ∙ ap (λ (u : ℕ). newer s p c u past) m
      ∙ newer_max (max (max S L) (max S T)) (max S v) past
      ∙ ap (λ (u : ℕ). lower u (newer s p c (max S v) past)) (newer_max (max S L) (max S T) past
      ∙ ap (lower (newer s p c (max S L) past)) (told_all_places (lanes_of s e past) past))

  asking_place : (v : ℕ) (e : Event) (past : List Event) → is_of e p ≡ true → asks s p c e past ≡ true →
      newer s p c (max (seen s p c (e ∷ past)) v) (e ∷ past) ≡ 0
  asking_place v e past h a =
      let k = seen_asking e past h a in newer_none (max (seen s p c (e ∷ past)) v) (e ∷ past) (omega (arith, k))

  module _ (limit : ℕ) (past : List Event) (r : IsRun s limit past) where
    pub lane_place : (x : Lane) (e : Event) → unnoticed s p c (told_by s x p c (e ∷ past)) (e ∷ past)
        ≡ place_after (is_of e p) (asks s p c e past) (touches s x e past) (own_place e past) (unnoticed s p c (told_by s x p c past) past)
    lane_place x e = go (is_of e p) refl (asks s p c e past) refl (touches s x e past) refl
      where
        go : (q : Bool) → is_of e p ≡ q → (a : Bool) → asks s p c e past ≡ a → (t : Bool) → touches s x e past ≡ t →
            unnoticed s p c (told_by s x p c (e ∷ past)) (e ∷ past) ≡ place_after q a t (own_place e past) (unnoticed s p c (told_by s x p c past) past)
        go true h true k t l = asking_place (told_by s x p c (e ∷ past)) e past h k
        go true h false k t l =
            quiet_place (told_by s x p c (e ∷ past)) e past h k
            ∙ ap (λ (v : ℕ). lower (own_place e past) (newer s p c (max (seen s p c past) v) past)) (told_quiet x e past k)
        go false h true k true l =
            let v : told_by s x p c (e ∷ past) ≡ length past + 1 = rw (k, l) refl in
            newer_none (max (seen s p c (e ∷ past)) (told_by s x p c (e ∷ past))) (e ∷ past) (omega (arith, v))
        go false h true k false l =
            let v : told_by s x p c (e ∷ past) ≡ told_by s x p c past = rw (k, l) refl in
            let a = seen_length s limit p c past r in
            let b = told_by_below s x p c past in
            let d = asked_below s p c past in
            ap (λ (u : ℕ). newer s p c (max u (told_by s x p c (e ∷ past))) (e ∷ past)) (seen_other e past h)
            ∙ ap (λ (u : ℕ). newer s p c (max (seen s p c past) u) (e ∷ past)) v
            ∙ newer_old (max (seen s p c past) (told_by s x p c past)) e past (omega (arith, a, b, d))
            ∙ ap (λ (w : Bool). count_if w + unnoticed s p c (told_by s x p c past) past) k
        go false h false k t l =
            newer_quiet (max (seen s p c (e ∷ past)) (told_by s x p c (e ∷ past))) e past k
            ∙ ap (λ (u : ℕ). newer s p c (max u (told_by s x p c (e ∷ past))) past) (seen_other e past h)
            ∙ ap (λ (u : ℕ). newer s p c (max (seen s p c past) u) past) (told_quiet x e past k)

    pub base_place : (e : Event) → unnoticed s p c 0 (e ∷ past)
        ≡ place_after (is_of e p) (asks s p c e past) false (own_place e past) (unnoticed s p c 0 past)
    base_place e = go (is_of e p) refl (asks s p c e past) refl
      where
        go : (q : Bool) → is_of e p ≡ q → (a : Bool) → asks s p c e past ≡ a →
            unnoticed s p c 0 (e ∷ past) ≡ place_after q a false (own_place e past) (unnoticed s p c 0 past)
        go true h true k = asking_place 0 e past h k
        go true h false k = quiet_place 0 e past h k
        go false h true k =
            let a = seen_length s limit p c past r in
            ap (λ (u : ℕ). newer s p c (max u 0) (e ∷ past)) (seen_other e past h)
            ∙ newer_old (max (seen s p c past) 0) e past (omega (arith, a))
            ∙ ap (λ (w : Bool). count_if w + unnoticed s p c 0 past) k
        go false h false k =
            newer_quiet (max (seen s p c (e ∷ past)) 0) e past k ∙ ap (λ (u : ℕ). newer s p c (max u 0) past) (seen_other e past h)

    -- ---- what is due

    abbrev pub due : List Event → Bool
    due h = nat_lt (served s p c h) (seen s p c h)

    -- a Look found what was asked, or nothing
    abbrev pub IsFound : What → Type 0
    IsFound w = (looked w c ≡ 0) ⊎ (was_asked s p c (looked w c) past ≡ true)

    due_up : (old new : ℕ) → served s p c past ≤ old → old ≤ new → (new ≡ old) ⊎ (was_asked s p c new past ≡ true) → seen s p c past ≡ old →
        nat_lt (served s p c past) new ≡ (nat_lt (served s p c past) old || nat_lt (newer s p c new past) (newer s p c old past))
    due_up old new a b w q = go (nat_lt old new) refl w
      where
        or_false : (b : Bool) → b ≡ (b || false)
        or_false true = refl
        or_false false = refl

        or_true : (b : Bool) → true ≡ (b || true)
        or_true true = refl
        or_true false = refl

        go : (t : Bool) → nat_lt old new ≡ t → (new ≡ old) ⊎ (was_asked s p c new past ≡ true) →
            nat_lt (served s p c past) new ≡ (nat_lt (served s p c past) old || nat_lt (newer s p c new past) (newer s p c old past))
        go false k w =
            let l = ltb-false old new k in
            let e : new ≡ old = omega (arith, l, b) in
            let z : nat_lt (newer s p c old past) (newer s p c old past) ≡ false = le-ltb (newer s p c old past) (newer s p c old past) (omega arith) in
            rw (e, z) (or_false (nat_lt (served s p c past) old))
        go true k (inl e) = let l = ltb-true old new k in absurd (omega (arith, l, e))
        go true k (inr w) =
            let l = ltb-true old new k in
            let f = newer_strict old new past l w in
            let x : nat_lt (newer s p c new past) (newer s p c old past) ≡ true = lt-ltb (newer s p c new past) (newer s p c old past) f in
            let y : nat_lt (served s p c past) new ≡ true = lt-ltb (served s p c past) new (omega (arith, a, l)) in
            rw (x, y) (or_true (nat_lt (served s p c past) old))

    max_found : (u v : ℕ) → (u ≡ seen s p c past) ⊎ (was_asked s p c u past ≡ true) → seen s p c past ≤ u → (v ≡ 0) ⊎ (was_asked s p c v past ≡ true) →
        (max u v ≡ seen s p c past) ⊎ (was_asked s p c (max u v) past ≡ true)
    max_found u v a b d = go (nat_lt u v) refl a d
      where
        Fine : ℕ → Type 0
        Fine m = (m ≡ seen s p c past) ⊎ (was_asked s p c m past ≡ true)

        go : (t : Bool) → nat_lt u v ≡ t → Fine u → (v ≡ 0) ⊎ (was_asked s p c v past ≡ true) → Fine (max u v)
        go false k a d = let l = ltb-false u v k in let m : u ≡ max u v = omega (arith, l) in subst Fine m a
        go true k a (inl z) = let l = ltb-true u v k in absurd (omega (arith, l, z))
        go true k a (inr w) = let l = ltb-true u v k in let m : v ≡ max u v = omega (arith, l) in subst Fine m (inr w)

    pub due_moves : (e : Event) → IsFound e.what → due (e ∷ past)
        ≡ due_after (is_of e p) (serves c e.what) (asks s p c e past) (due past) (unnoticed s p c 0 (e ∷ past)) (unnoticed s p c 0 past)
    due_moves e found = go (is_of e p) refl (serves c e.what) refl (asks s p c e past) refl
      where
        go : (q : Bool) → is_of e p ≡ q → (v : Bool) → serves c e.what ≡ v → (a : Bool) → asks s p c e past ≡ a →
            due (e ∷ past) ≡ due_after q v a (due past) (unnoticed s p c 0 (e ∷ past)) (unnoticed s p c 0 past)
        go false h v k a m = rw h refl
        go true h true k a m =
            let x : served s p c (e ∷ past) ≡ seen s p c (e ∷ past) = rw (h, k) refl in
            le-ltb (served s p c (e ∷ past)) (seen s p c (e ∷ past)) (omega (arith, x))
        go true h false k true m =
            let x : served s p c (e ∷ past) ≡ served s p c past = rw (h, k) refl in
            let y = seen_asking e past h m in
            let z = served_below s limit p c past r in
            let w = seen_length s limit p c past r in
            lt-ltb (served s p c (e ∷ past)) (seen s p c (e ∷ past)) (omega (arith, x, y, z, w))
        go true h false k false m =
            let S = seen s p c past in
            let x : served s p c (e ∷ past) ≡ served s p c past = rw (h, k) refl in
            let y = seen_quiet e past h m in
            let new = max (max S (looked e.what c)) (told s p c e past) in
            let up : S ≤ new = omega arith in
            let b0 : unnoticed s p c 0 (e ∷ past) ≡ newer s p c new past =
            newer_quiet (max (seen s p c (e ∷ past)) 0) e past m
            ∙ (let z : max (seen s p c (e ∷ past)) 0 ≡ new = omega (arith, y) in ap (λ (u : ℕ). newer s p c u past) z) in
            let b1 : unnoticed s p c 0 past ≡ newer s p c S past = (let z : max S 0 ≡ S = omega arith in ap (λ (u : ℕ). newer s p c u past) z) in
            let f = max_found (max S (looked e.what c)) (told s p c e past)
            (max_found S (looked e.what c) (inl refl) (omega arith) found) (omega arith) (told_all_was (lanes_of s e past) past) in
            let d = due_up S new (served_below s limit p c past r) up f refl in
            let l : nat_lt (served s p c (e ∷ past)) (seen s p c (e ∷ past)) ≡ nat_lt (served s p c past) new =
            ap (λ (u : ℕ). nat_lt u (seen s p c (e ∷ past))) x ∙ ap (nat_lt (served s p c past)) y in
            l ∙ d ∙ rw (b0, b1) refl
