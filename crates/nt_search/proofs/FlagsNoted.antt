-- Flags of which each tells whether an event that is watched for came, by their places.
use Rattle.std.proofs.Common.{arith, inl, inr, subst, sym, ◌∙◌}
use Rattle.std.proofs.lemmas.Bool.{ltb-false, ltb-true}
use Rattle.std.proofs.lemmas.List.{get_or-set_other, get_or-set_same, get_or_default, length-set}
use Rattle.std.specs.Prelude.{Bool, List, [], false, get_or, length, nat_lt, refl, set, suc, true, zero, ℕ, ◌+◌, ◌<◌, ◌∷◌, ◌≡◌, ◌≤◌}
use Rattle.nt_event.specs.declared.events.Event.{Event}
use Rattle.nt_expect.specs.declared.expectations.Watched.{Watched}
use Rattle.nt_expect.specs.Meaning.{Came, Matches}
use Rattle.nt_shows.specs.Tells.{AreCame, Tells}

-- each flag tells of its event
pub came_at : (watched : List Watched) (past : List Event) (flags : List Bool) → AreCame watched past flags → (k : ℕ) (b : Bool) (d : Watched) →
    k < length watched → Tells (get_or flags k b) (Came (get_or watched k d) past)
came_at [] past flags a k b d l = absurd (omega (arith, l))
came_at (x ∷ watched) past [] a k b d l = absurd a
came_at (x ∷ watched) past (f ∷ flags) a zero b d l = a.0
came_at (x ∷ watched) past (f ∷ flags) a (suc k) b d l = came_at watched past flags a.1 k b d (omega (arith, l))

-- and where each does they are the flags
pub came_from : (watched : List Watched) (past : List Event) (flags : List Bool) → length flags ≡ length watched →
    ((k : ℕ) (b : Bool) (d : Watched) → k < length watched → Tells (get_or flags k b) (Came (get_or watched k d) past)) → AreCame watched past flags
came_from [] past [] e each = tt
came_from [] past (f ∷ flags) e each = cc
came_from (x ∷ watched) past [] e each = cc
came_from (x ∷ watched) past (f ∷ flags) e each =
    let rest : length flags ≡ length watched = omega (arith, e) in
    (each 0 f x (omega arith), came_from watched past flags rest (λ k b d l. each (suc k) b d (omega (arith, l))))

-- up to a place the flags tell of the event too, from there on they are as before
pub record AreNotedTo (watched : List Watched) (e : Event) (old now : List Bool) (i : ℕ) : Type 0 where
  pub count : length now ≡ length old
  pub done : (past : List Event) → AreCame watched past old → (k : ℕ) (b : Bool) (d : Watched) → k < i → k < length watched →
      Tells (get_or now k b) (Came (get_or watched k d) (e ∷ past))
  pub rest : (k : ℕ) (b : Bool) → i ≤ k → get_or now k b ≡ get_or old k b

-- before any flag is looked at, the flags of all watched events are as they were
pub none_noted : (watched : List Watched) (e : Event) (old : List Bool) → AreNotedTo watched e old old 0
none_noted watched e old = record { count = refl; done = λ past a k b d l low. absurd (omega (arith, l)); rest = λ k b l. refl }

-- what tells of one event more
tells_more : (x : Watched) (e : Event) (past : List Event) (old matched : Bool) → Tells old (Came x past) → Tells matched (Matches x e past) →
    matched ≡ false → Tells old (Came x (e ∷ past))
tells_more x e past true false c m q = inr c
tells_more x e past false false c m q = λ came. go came
  where
    go : Came x (e ∷ past) → ⊥
    go (inl y) = m y
    go (inr y) = c y
tells_more x e past old true c m q = cc

module _ (watched : List Watched) (e : Event) (old now : List Bool) (i : ℕ) (h : AreNotedTo watched e old now i) (low : i < length watched)
    (room : length old ≡ length watched) where
  -- the flag as it was
  flag_is : (b : Bool) → get_or now i b ≡ get_or old i b
  flag_is b = h.rest i b (omega arith)

  tells_old : (past : List Event) → AreCame watched past old → (b : Bool) (d : Watched) → Tells (get_or now i b) (Came (get_or watched i d) past)
  tells_old past a b d = subst (λ (f : Bool). Tells f (Came (get_or watched i d) past)) (sym (flag_is b)) (came_at watched past old a i b d low)

  -- what is told of the flag and the event as they were read
  pub as_read : (b r t : Bool) (x : Watched) → b ≡ get_or now i b → x ≡ get_or watched i x → r ≡ t →
      ((past : List Event) → Tells b (Came x past) → Tells r (Matches x e past)) →
      (past : List Event) → Tells (get_or now i b) (Came (get_or watched i x) past) → Tells t (Matches (get_or watched i x) e past)
  as_read b r t x bs xs rs told past a =
      let before : Tells b (Came x past) = subst (λ (f : Bool). Tells f (Came x past)) (sym bs)
      (subst (λ (y : Watched). Tells (get_or now i b) (Came y past)) (sym xs) a) in
      subst (λ (f : Bool). Tells f (Matches (get_or watched i x) e past)) rs
      (subst (λ (y : Watched). Tells r (Matches y e past)) xs (told past before))

  -- the event is not one of those: the flag stays
  pub stays : (b : Bool) (d : Watched) → ((past : List Event) → Tells (get_or now i b) (Came (get_or watched i d) past) →
      Tells false (Matches (get_or watched i d) e past)) → AreNotedTo watched e old now (i + 1)
  stays b d not = record {
    count = h.count;
    done = λ past a k b' d' l inside. at past a k b' d' l inside;
    rest = λ k b' l. h.rest k b' (omega (arith, l));
  }
    where
      here : (past : List Event) → AreCame watched past old → (b' : Bool) (d' : Watched) → Tells (get_or now i b') (Came (get_or watched i d') (e ∷ past))
      here past a b' d' =
          let within : i < length now = omega (arith, h.count, room, low) in
          let flags = get_or_default now i b b' within in
          let events = get_or_default watched i d d' low in
          let told = tells_more (get_or watched i d) e past (get_or now i b) false (tells_old past a b d) (not past (tells_old past a b d)) refl in
          subst (λ (x : Watched). Tells (get_or now i b') (Came x (e ∷ past))) events
          (subst (λ (f : Bool). Tells f (Came (get_or watched i d) (e ∷ past))) flags told)

      at : (past : List Event) → AreCame watched past old → (k : ℕ) (b' : Bool) (d' : Watched) → k < i + 1 → k < length watched →
          Tells (get_or now k b') (Came (get_or watched k d') (e ∷ past))
      at past a k b' d' l inside = go (nat_lt k i) refl
        where
          go : (t : Bool) → nat_lt k i ≡ t → Tells (get_or now k b') (Came (get_or watched k d') (e ∷ past))
          go true q = h.done past a k b' d' (ltb-true k i q) inside
          go false q =
              let m = ltb-false k i q in
              let same : i ≡ k = omega (arith, m, l) in
              subst (λ (n : ℕ). Tells (get_or now n b') (Came (get_or watched n d') (e ∷ past))) same (here past a b' d')

  -- it is one: the flag is set
  pub is_set : (b : Bool) (d : Watched) → ((past : List Event) → Tells (get_or now i b) (Came (get_or watched i d) past) →
      Tells true (Matches (get_or watched i d) e past)) → AreNotedTo watched e old (set now i true) (i + 1)
  is_set b d does = record {
    count = length-set now i true ∙ h.count;
    done = λ past a k b' d' l inside. at past a k b' d' l inside;
    rest = λ k b' l. get_or-set_other now i k true b' (omega (arith, l)) ∙ h.rest k b' (omega (arith, l));
  }
    where
      here : (past : List Event) → AreCame watched past old → (b' : Bool) (d' : Watched) →
          Tells (get_or (set now i true) i b') (Came (get_or watched i d') (e ∷ past))
      here past a b' d' =
          let within : i < length now = omega (arith, h.count, room, low) in
          let flag = get_or-set_same now i true b' within in
          let events = get_or_default watched i d d' low in
          subst (λ (f : Bool). Tells f (Came (get_or watched i d') (e ∷ past))) (sym flag)
          (subst (λ (x : Watched). Came x (e ∷ past)) events (inl (does past (tells_old past a b d))))

      at : (past : List Event) → AreCame watched past old → (k : ℕ) (b' : Bool) (d' : Watched) → k < i + 1 → k < length watched →
          Tells (get_or (set now i true) k b') (Came (get_or watched k d') (e ∷ past))
      at past a k b' d' l inside = go (nat_lt k i) refl
        where
          go : (t : Bool) → nat_lt k i ≡ t → Tells (get_or (set now i true) k b') (Came (get_or watched k d') (e ∷ past))
          go true q =
              let m = ltb-true k i q in
              let other = get_or-set_other now i k true b' (omega (arith, m)) in
              subst (λ (f : Bool). Tells f (Came (get_or watched k d') (e ∷ past))) (sym other) (h.done past a k b' d' m inside)
          go false q =
              let m = ltb-false k i q in
              let same : i ≡ k = omega (arith, m, l) in
              subst (λ (n : ℕ). Tells (get_or (set now i true) n b') (Came (get_or watched n d') (e ∷ past))) same (here past a b' d')
