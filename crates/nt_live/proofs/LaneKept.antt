-- The lists that keepers keep, as lists of the lanes with the state that each note shows.
use Rattle.std.proofs.Common.{ap, arith, inl, inr, subst, sym, ⊎_elim, ◌∙◌}
use Rattle.std.proofs.lemmas.Bool.{eq-eqb, eqb-true, ltb-true}
use Rattle.std.specs.List.Sorted.{IsStrictlyIncreasing}
use Rattle.std.specs.Prelude.{Bool, Contains, List, [], false, get_or, if◌then◌else◌, length, refl, suc, true, ℕ, ◌++◌, ◌+◌, ◌<◌, ◌==◌, ◌∷◌, ◌||◌, ◌≡◌, ◌⊎◌}
use Rattle.nt_event.specs.declared.jobs.Lane.{Lane}
use Rattle.nt_event.specs.declared.jobs.Lane.TheVariants.{Lock as LockLane, Object as ObjectLane, Queue as QueueLane, Threads as ThreadsLane}
use Rattle.nt_event.specs.declared.jobs.Lane.TheVariants.{Timers as TimersLane}
use Rattle.nt_event.specs.declared.scripts.Script.{Script}
use Rattle.nt_event.specs.LaneStates.{LaneState, lane_state}
use Rattle.nt_event.specs.Lanes.{lane_number, same_lane}
use Rattle.nt_event.specs.Acts.{is_among}
use Rattle.nt_mark.proofs.Sums.{first_or_rest, in_first, in_none, in_rest}
use Rattle.nt_mark.specs.declared.seats.Keeper.{Keeper}
use Rattle.nt_mark.specs.declared.view.Note.{Note}
use Rattle.nt_mark.specs.Names.{keeper_lane, keeper_notes}
use Rattle.nt_mark.specs.Views.{note_numbers}
use Rattle.nt_states.specs.LaneLists.{lane_fits}
use Rattle.nt_compose.specs.Noted.{Noted, Rises, last_noted}
use Rattle.nt_lane_record.specs.Held.{first_state, last_shown}

-- ---- lanes by their numbers

-- a lane whose list is kept is the same as itself
same_itself : (x : Lane) → same_lane x x ≡ true
same_itself (ObjectLane d) = eq-eqb d.0 d.0 refl
same_itself (QueueLane p) = eq-eqb p.0 p.0 refl
same_itself (ThreadsLane p) = eq-eqb p.0 p.0 refl
same_itself TimersLane = refl
same_itself (LockLane k) = eq-eqb k.0 k.0 refl

-- two lanes of the script with one number are one
pub one_lane : (s : Script) (x y : Lane) → lane_fits s x ≡ true → lane_fits s y ≡ true → lane_number s x ≡ lane_number s y → x ≡ y
one_lane s (ObjectLane d) (ObjectLane e) f g h = ap (λ (n : ℕ). ObjectLane (record { 0 = n })) h
one_lane s (QueueLane p) (QueueLane q) f g h = let e : p.0 ≡ q.0 = omega (arith, h) in ap (λ (n : ℕ). QueueLane (record { 0 = n })) e
one_lane s (ThreadsLane p) (ThreadsLane q) f g h = let e : p.0 ≡ q.0 = omega (arith, h) in ap (λ (n : ℕ). ThreadsLane (record { 0 = n })) e
one_lane s TimersLane TimersLane f g h = refl
one_lane s (LockLane k) (LockLane m) f g h = let e : k.0 ≡ m.0 = omega (arith, h) in ap (λ (n : ℕ). LockLane (record { 0 = n })) e
one_lane s (ObjectLane d) (QueueLane p) f g h = let k = ltb-true d.0 (length s.dpcs) f in absurd (omega (arith, h, k))
one_lane s (ObjectLane d) (ThreadsLane p) f g h = let k = ltb-true d.0 (length s.dpcs) f in absurd (omega (arith, h, k))
one_lane s (ObjectLane d) TimersLane f g h = let k = ltb-true d.0 (length s.dpcs) f in absurd (omega (arith, h, k))
one_lane s (QueueLane p) (ObjectLane d) f g h = let k = ltb-true d.0 (length s.dpcs) g in absurd (omega (arith, h, k))
one_lane s (QueueLane p) (ThreadsLane q) f g h = let k = ltb-true p.0 s.cpus f in absurd (omega (arith, h, k))
one_lane s (QueueLane p) TimersLane f g h = let k = ltb-true p.0 s.cpus f in absurd (omega (arith, h, k))
one_lane s (ThreadsLane p) (ObjectLane d) f g h = let k = ltb-true d.0 (length s.dpcs) g in absurd (omega (arith, h, k))
one_lane s (ThreadsLane p) (QueueLane q) f g h = let k = ltb-true q.0 s.cpus g in absurd (omega (arith, h, k))
one_lane s (ThreadsLane p) TimersLane f g h = let k = ltb-true p.0 s.cpus f in absurd (omega (arith, h, k))
one_lane s TimersLane (ObjectLane d) f g h = let k = ltb-true d.0 (length s.dpcs) g in absurd (omega (arith, h, k))
one_lane s TimersLane (QueueLane q) f g h = let k = ltb-true q.0 s.cpus g in absurd (omega (arith, h, k))
one_lane s TimersLane (ThreadsLane p) f g h = let k = ltb-true p.0 s.cpus g in absurd (omega (arith, h, k))
one_lane s (ObjectLane d) (LockLane m) f g h = let k = ltb-true d.0 (length s.dpcs) f in absurd (omega (arith, h, k))
one_lane s (QueueLane p) (LockLane m) f g h = let k = ltb-true p.0 s.cpus f in absurd (omega (arith, h, k))
one_lane s (ThreadsLane p) (LockLane m) f g h = let k = ltb-true p.0 s.cpus f in absurd (omega (arith, h, k))
one_lane s TimersLane (LockLane m) f g h = absurd (omega (arith, h))
one_lane s (LockLane m) (ObjectLane d) f g h = let k = ltb-true d.0 (length s.dpcs) g in absurd (omega (arith, h, k))
one_lane s (LockLane m) (QueueLane p) f g h = let k = ltb-true p.0 s.cpus g in absurd (omega (arith, h, k))
one_lane s (LockLane m) (ThreadsLane p) f g h = let k = ltb-true p.0 s.cpus g in absurd (omega (arith, h, k))
one_lane s (LockLane m) TimersLane f g h = absurd (omega (arith, h))

-- a lane of a list is among it
pub among : (x : Lane) (xs : List Lane) → Contains xs x → is_among x xs ≡ true
among x [] h = absurd (in_none x h)
among x (y ∷ ys) h = go (same_lane x y) refl (first_or_rest y ys x h) (λ r. among x ys r)
  where
    go : (b : Bool) → same_lane x y ≡ b → (x ≡ y) ⊎ Contains ys x → (Contains ys x → is_among x ys ≡ true) → is_among x (y ∷ ys) ≡ true
    go true e h more = ap (λ (b : Bool). b || is_among x ys) e
    go false e (inl d) more =
        let yes : same_lane x y ≡ true = subst (λ (z : Lane). same_lane x z ≡ true) d (same_itself x) in
        let clash : false ≡ true = sym e ∙ yes in
        absurd (cc)
    go false e (inr r) more = ap (λ (b : Bool). b || is_among x ys) e ∙ more r

-- ---- the keeper of a lane

-- the list of the keeper of the lane of this number
abbrev pub kept_notes : ℕ → List Keeper → List Note
kept_notes x [] = []
kept_notes x (k ∷ ks) = if keeper_lane k == x then keeper_notes k else kept_notes x ks

-- it is the list of some keeper of that lane
abbrev pub IsOf : ℕ → List Keeper → Type 0
IsOf x ks = (k : Keeper) × Contains ks k × (keeper_lane k ≡ x) × (kept_notes x ks ≡ keeper_notes k)

-- if there is a keeper of a lane, the list found for the lane is that of some keeper of it
pub kept_found : (x : ℕ) (ks : List Keeper) (k : Keeper) → Contains ks k → keeper_lane k ≡ x → IsOf x ks
kept_found x [] k h is = absurd (in_none k h)
kept_found x (y ∷ ks) k h is = go (keeper_lane y == x) refl (first_or_rest y ks k h) (λ r. kept_found x ks k r is)
  where
    pick : (b : Bool) → (keeper_lane y == x) ≡ b → kept_notes x (y ∷ ks) ≡ (if b then keeper_notes y else kept_notes x ks)
    pick b e = ap (λ (b : Bool). if b then keeper_notes y else kept_notes x ks) e

    go : (b : Bool) → (keeper_lane y == x) ≡ b → (k ≡ y) ⊎ Contains ks k → (Contains ks k → IsOf x ks) → IsOf x (y ∷ ks)
    go true e h more = (y, in_first y ks, eqb-true (keeper_lane y) x e, pick true e)
    go false e (inl d) more =
        let yes : (keeper_lane y == x) ≡ true = eq-eqb (keeper_lane y) x (ap keeper_lane (sym d) ∙ is) in
        let clash : false ≡ true = sym e ∙ yes in
        absurd (cc)
    go false e (inr r) more = let o = more r in (o.0, in_rest y ks o.0 o.1, o.2, pick false e ∙ o.3)

-- the list found for a lane is empty or is that of some keeper of the lane
pub kept_cases : (x : ℕ) (ks : List Keeper) → (kept_notes x ks ≡ []) ⊎ IsOf x ks
kept_cases x [] = inl refl
kept_cases x (y ∷ ks) = go (keeper_lane y == x) refl (kept_cases x ks)
  where
    pick : (b : Bool) → (keeper_lane y == x) ≡ b → kept_notes x (y ∷ ks) ≡ (if b then keeper_notes y else kept_notes x ks)
    pick b e = ap (λ (b : Bool). if b then keeper_notes y else kept_notes x ks) e

    go : (b : Bool) → (keeper_lane y == x) ≡ b → (kept_notes x ks ≡ []) ⊎ IsOf x ks → (kept_notes x (y ∷ ks) ≡ []) ⊎ IsOf x (y ∷ ks)
    go true e more = inr (y, in_first y ks, eqb-true (keeper_lane y) x e, pick true e)
    go false e (inl z) = inl (pick false e ∙ z)
    go false e (inr o) = inr (o.0, in_rest y ks o.0 o.1, o.2, pick false e ∙ o.3)

-- ---- notes with the states that they show

-- a note without a state shows the one before
abbrev pub images : LaneState → List Note → List Noted
images x [] = []
images x (n ∷ ns) = record { number = n.number; state = first_state x n.states } ∷ images (first_state x n.states) ns

-- the states that two joined lists of notes show are those of the first and then those of the second from there
pub images_append : (x : LaneState) (ms ns : List Note) → images x (ms ++ ns) ≡ images x ms ++ images (last_shown x ms) ns
images_append x [] ns = refl
images_append x (m ∷ ms) ns =
    ap (λ (l : List Noted). record { number = m.number; state = first_state x m.states } ∷ l) (images_append (first_state x m.states) ms ns)

-- the state last noted of what a list of notes shows is the state that the notes show last
pub images_last : (x : LaneState) (ns : List Note) → last_noted x (images x ns) ≡ last_shown x ns
images_last x [] = refl
images_last x (n ∷ ns) = images_last (first_state x n.states) ns

-- the numbers of a strictly increasing list after the first are strictly increasing
rest_rises : (x : ℕ) (xs : List ℕ) → IsStrictlyIncreasing (x ∷ xs) → IsStrictlyIncreasing xs
rest_rises x xs h k l =
    let e : suc k + 1 ≡ suc (k + 1) = omega arith in
    subst (λ (j : ℕ). get_or (x ∷ xs) (suc k) 0 < get_or (x ∷ xs) j 0) e (h (suc k) (omega (arith, l)))

-- if the numbers of notes rise, so do those of what they show
pub images_rise : (x : LaneState) (ns : List Note) → IsStrictlyIncreasing (note_numbers ns) → Rises (images x ns)
images_rise x [] h = tt
images_rise x (n ∷ []) h = tt
images_rise x (n ∷ m ∷ ns) h =
    (h 0 (omega arith), images_rise (first_state x n.states) (m ∷ ns) (rest_rises n.number (note_numbers (m ∷ ns)) h))

-- all that a list of notes shows has the number of one of the notes
pub images_has : (x : LaneState) (ns : List Note) (y : Noted) → Contains (images x ns) y → (n : Note) × Contains ns n × (n.number ≡ y.number)
images_has x [] y h = absurd (in_none y h)
images_has x (n ∷ ns) y h = ⊎_elim (λ e. (n, in_first n ns, ap (λ (z : Noted). z.number) (sym e)))
    (λ r. let a = images_has (first_state x n.states) ns y r in (a.0, in_rest n ns a.0 a.1, a.2))
    (first_or_rest (record { number = n.number; state = first_state x n.states }) (images (first_state x n.states) ns) y h)

-- the list of the keeper of a lane's number
abbrev pub kept_list : Script → List Keeper → Lane → List Noted
kept_list s ks x = images (lane_state s x []) (kept_notes (lane_number s x) ks)

-- the list of a lane; one that is not the script's has none
abbrev pub lane_list : Script → List Keeper → Lane → List Noted
lane_list s ks x = if lane_fits s x then kept_list s ks x else []
