-- One list of the events of all workers, by their numbers, is a run of which each worker's list is its processor's part.
use Rattle.std.proofs.Common.{ap, arith, inl, inr, refl, subst, sym, ⊎_elim, ◌∙◌}
use Rattle.std.proofs.lemmas.Bool.{ltb-false, ltb-true}
use Rattle.std.proofs.lemmas.List.{append_assoc, length-append, map-append, reverse-append, reverse-reverse, take_all, take_more}
use Rattle.std.specs.Prelude.{All, Bool, Contains, List, [], false, get_or, if◌then◌else◌, length, map, nat_lt, reverse, suc, take, true, zero, ℕ, ◌++◌, ◌+◌}
use Rattle.std.specs.Prelude.{◌<◌}
use Rattle.std.specs.Prelude.{◌∷◌, ◌≡◌, ◌≤◌}
use Rattle.nt_event.specs.declared.events.Event.{Event}
use Rattle.nt_event.specs.declared.numbers.CpuNo.{CpuNo}
use Rattle.nt_event.specs.declared.scripts.Script.{Script}
use Rattle.nt_event.specs.LaneStates.{Entry as PieceEntry, cpu_piece, entry_if}
use Rattle.nt_event.specs.Numbers.{cpu, is_of}
use Rattle.nt_event.specs.Jobs.{is_still}
use Rattle.nt_event.specs.Lanes.{lane_count}
use Rattle.nt_event.specs.Lists.{value_at}
use Rattle.nt_event.specs.Own.{Own}
use Rattle.nt_event.specs.Robin.{is_settled}
use Rattle.nt_event.specs.Script.{fits}
use Rattle.nt_event.specs.Step.{IsRun, is_cut}
use Rattle.nt_compose.specs.Composition.{Placed, events}
use Rattle.nt_compose.specs.Parts.{IsTail, Numbered, own_by, part}
use Rattle.nt_cpu.specs.States.{CpuState}
use Rattle.nt_mark.specs.declared.view.View.{View}
use Rattle.nt_mark.specs.Closing.{IsEachOnce}
use Rattle.nt_mark.specs.Views.{reach, request_word}
use Rattle.nt_lane_record.specs.declared.piece.Piece.{Piece}
use Rattle.nt_live.proofs.Doneness.{all_done_settles}
use Rattle.nt_live.proofs.InPart.{Here, in_part}
use Rattle.nt_live.proofs.Joining.{looked_on}
use Rattle.nt_live.proofs.Merged.{lanes_are}
use Rattle.nt_live.proofs.PieceItems.{lists_are_pieces}
use Rattle.nt_live.proofs.Wholes.{gathers}
use Rattle.nt_live.specs.Gathered.{pair_of}
use Rattle.nt_live.specs.Gathering.{AreTogether, IsDoneWith, IsWhole}
use Rattle.nt_live.specs.LanePieces.{ArePieces, IsItsPiece}
use Rattle.nt_live.specs.Merging.{ArePlaced, IsMerged, IsSettledBy, IsWorked}
use Rattle.nt_live.specs.Teams.{AreOneEach, HasNoMore, HaveNoMore, IsTeam, HasLooked, pair_of_entry}
use Rattle.nt_live.specs.Workers.{AreSteps, IsStep, WorkerState, all_drawn, drawn_of, pairs_of}

-- ---- the events of a processor's list, as its part of the history

-- the entry of a piece that has an event's number and the event
numbered_entry : Numbered → PieceEntry
numbered_entry m = record { number = m.number; event = m.placed.event }

-- the piece of a processor in a history is its part of the history, as entries
piece_is : (p : CpuNo) (h : List Placed) → cpu_piece p (events h) ≡ map numbered_entry (part p h)
unfolding numbered_entry
piece_is p [] = refl
piece_is p (y ∷ past) = go (is_of y.event p) (piece_is p past)
  where
    long : (xs : List Placed) → length (events xs) ≡ length xs
    long [] = refl
    long (x ∷ xs) = ap (λ n. suc n) (long xs)

    go : (b : Bool) → cpu_piece p (events past) ≡ map numbered_entry (part p past) →
        entry_if b (length (events past)) y.event (cpu_piece p (events past))
        ≡ map numbered_entry (if b then (record { number = length past; placed = y } ∷ part p past) else part p past)
    go true ih = λ i. record { number = long past i; event = y.event } ∷ ih i
    go false ih = ih

-- the pairs of a piece's entries, oldest first, are the pairs of the entries that the worker drew
pairs_are : (s : Script) (p : CpuNo) (ms : List Numbered) →
    map pair_of (reverse (map numbered_entry ms)) ≡ map pair_of_entry (all_drawn s p ms)
unfolding numbered_entry
pairs_are s p [] = refl
pairs_are s p (m ∷ ms) =
    ap (λ (xs : List PieceEntry). map pair_of xs) (reverse-append (numbered_entry m ∷ []) (map numbered_entry ms))
    ∙ (map-append pair_of (reverse (map numbered_entry ms)) (numbered_entry m ∷ [])
    ∙ (ap (λ (xs : List (ℕ × Event)). xs ++ (m.number, m.placed.event) ∷ []) (pairs_are s p ms)
    ∙ sym (map-append pair_of_entry (all_drawn s p ms) (drawn_of s p m ms ∷ []))))

-- the piece of a processor in a history, oldest first, is what its worker drew, if the part is its list
part_is : (s : Script) (p : CpuNo) (h : List Placed) (ms : List Numbered) → part p h ≡ ms →
    map pair_of (reverse (cpu_piece p (events h))) ≡ map pair_of_entry (all_drawn s p ms)
part_is s p h ms e =
    ap (λ (xs : List PieceEntry). map pair_of (reverse xs)) (piece_is p h ∙ ap (λ (xs : List Numbered). map numbered_entry xs) e) ∙ pairs_are s p ms

-- ---- the events in the order of their numbers

-- each event of a worker's list is a step from those before it
step_at : (s : Script) (limit : ℕ) (p : CpuNo) (v : View) (ms : List Numbered) (m : Numbered) (past : List Numbered) → AreSteps s limit p v ms →
    IsTail (m ∷ past) ms → IsStep s limit p v m past
step_at s limit p v [] m past a ([], e) = cc
step_at s limit p v [] m past a (x ∷ front, e) = cc
step_at s limit p v (x ∷ ms) m past a ([], e) =
    let is : x ≡ m = cc in
    let rest : ms ≡ past = cc in
    subst (λ (zs : List Numbered). IsStep s limit p v m zs) rest (subst (λ (z : Numbered). IsStep s limit p v z ms) is a.0)
step_at s limit p v (x ∷ ms) m past a (y ∷ front, e) =
    let rest : ms ≡ front ++ m ∷ past = cc in
    step_at s limit p v ms m past a.1 (front, rest)

-- an element's image under a map is in the mapped list
contains_map : {A B : Type 0} (f : A → B) (xs : List A) (x : A) → Contains xs x → Contains (map f xs) (f x)
contains_map f [] x (k, l, e) = absurd (omega (arith, l))
contains_map f (y ∷ xs) x (zero, l, e) = (0, omega arith, ap f e)
contains_map f (y ∷ xs) x (suc k, l, e) =
    let r = contains_map f xs x (k, omega (arith, l), e) in
    (suc r.0, (let z = r.1 in omega (arith, z)), r.2)

-- an empty list has no end with an event in it
no_tail : {A : Type 0} (m : Numbered) (past front : List Numbered) → [] ≡ front ++ m ∷ past → A
no_tail m past [] h = cc
no_tail m past (x ∷ front) h = cc

module _ (s : Script) (limit : ℕ) (v : View) (mine : CpuNo → List Numbered) (es : List Event) (h : List Placed) (n : ℕ)
    (together : AreTogether s limit v mine) (whole : IsWhole s limit mine n h) (placed : ArePlaced (pairs_of v) es) where
  tail_of : (y : Placed) (past front : List Placed) → h ≡ front ++ y ∷ past → IsTail (Here y past ∷ part y.event.cpu past) (mine y.event.cpu)
  tail_of y past front e =
      let p : CpuNo = y.event.cpu in
      subst (λ (zs : List Numbered). IsTail (Here y past ∷ part p past) zs) (ap (λ (xs : List Placed). part p xs) (sym e) ∙ whole.parts p)
      (in_part front past y)

  inside : (y : Placed) (past front : List Placed) → h ≡ front ++ y ∷ past → y.event.cpu.0 < s.cpus
  inside y past front e = go (nat_lt y.event.cpu.0 s.cpus) refl
    where
      go : (b : Bool) → nat_lt y.event.cpu.0 s.cpus ≡ b → y.event.cpu.0 < s.cpus
      go true z = ltb-true y.event.cpu.0 s.cpus z
      go false z =
          let t = tail_of y past front e in
          no_tail (Here y past) (part y.event.cpu past) t.0 (sym (together.others y.event.cpu (ltb-false y.event.cpu.0 s.cpus z)) ∙ t.1)

  here : (y : Placed) (past front : List Placed) (d : Event) → h ≡ front ++ y ∷ past → get_or es (length past) d ≡ y.event
  here y past front d e =
      let p : CpuNo = y.event.cpu in
      let m = Here y past in
      let i = step_at s limit p v (mine p) m (part p past) (together.made p (inside y past front e)).steps (tail_of y past front e) in
      placed.each (length past, y.event) (contains_map pair_of_entry v.entries _ i.found.drawn) d

  in_order : (front past : List Placed) → length h ≤ length es → h ≡ front ++ past → reverse (events past) ≡ take (length past) es
  in_order front [] few e = refl
  in_order front (y ∷ past) few e =
      let long : length h ≡ length front + length (y ∷ past) = ap (λ (xs : List Placed). length xs) e ∙ length-append front (y ∷ past) in
      let more : length (y ∷ past) ≡ length past + 1 = omega arith in
      let within : length past < length es = omega (arith, long, few, more) in
      let ih = in_order (front ++ y ∷ []) past few (e ∙ sym (append_assoc front (y ∷ []) past)) in
      reverse-append (y.event ∷ []) (events past)
      ∙ (ap (λ (xs : List Event). xs ++ y.event ∷ []) ih
      ∙ (ap (λ (z : Event). take (length past) es ++ z ∷ []) (sym (here y past front y.event e))
      ∙ (sym (take_more es (length past) y.event within) ∙ ap (λ (k : ℕ). take k es) (sym more))))

  -- the events of the whole run are those of the list by numbers, the newest first
  pub are_events : length h ≡ length es → events h ≡ reverse es
  are_events long =
      sym (reverse-reverse (events h))
      ∙ ap (λ (xs : List Event). reverse xs) (in_order [] h (omega (arith, long)) refl ∙ take_all (length h) es (omega (arith, long)))

-- ---- the law

module _ (s : Script) (limit : ℕ) (ws : List WorkerState) (cpus : List CpuState) (v w : View)
    (list : List (ℕ × Event)) (es : List Event) (ps : List Piece) (fit : fits s ≡ true) (one : AreOneEach s ws) (t : IsTeam s limit ws cpus v list)
    (l : HasLooked v w)
    (m : IsMerged s w es ps) where
  together : AreTogether s limit w t.mine
  together = looked_on s limit v w t.mine l t.together

  history : List Placed
  history = (gathers s limit w t.mine m.keepers (length es) together m.closed).0

  whole : IsWhole s limit t.mine (length es) history
  unfolding history
  whole = (gathers s limit w t.mine m.keepers (length es) together m.closed).1

  same : events history ≡ reverse es
  same = are_events s limit w t.mine es history (length es) together whole m.placed whole.count

  -- the events of a team whose passes and lanes are closed are a run with each worker's list as its part
  pub worked : IsWorked s limit ws (reverse es)
  worked = record {
    run = subst (λ (xs : List Event). IsRun s limit xs) same whole.composed.run;
    parts = λ k d i.
        let x = t.members k d i in
        ap (λ (p : CpuNo). map pair_of (reverse (cpu_piece p (reverse es)))) x.at
        ∙ (ap (λ (xs : List Event). map pair_of (reverse (cpu_piece (cpu k) xs))) (sym same)
        ∙ (part_is s (cpu k) history (t.mine (cpu k)) (whole.parts (cpu k)) ∙ sym x.pairs));
  }

  -- the lists of the closed lanes are the pieces of the lanes in the run of the team's events
  pub pieces : ArePieces s (reverse es) ps
  pieces = record {
    once = subst (λ (ns : List ℕ). IsEachOnce (lane_count s) ns) (sym (lanes_are m.table ps m.keepers m.lists)) m.closed.lanes;
    each = subst (λ (xs : List Event). All (IsItsPiece s xs) ps) same
        (lists_are_pieces s limit w t.mine m.keepers (length es) history together m.closed whole m.table ps m.lists);
  }

  no_more : HaveNoMore limit v cpus → (p : CpuNo) → p.0 < s.cpus → IsDoneWith s limit v p (t.mine p)
  no_more more p b =
      let long = one.count in
      let i : p.0 < length ws = omega (arith, b, long) in
      let none : WorkerState = get_or ws 0 (record { cpu = record { script = s; cpu = p; limit = limit; own = own_by s p [] }; view = v }) in
      let x = t.members p.0 none i in
      let c : CpuState = (get_or ws p.0 none).cpu in
      let count = t.count in
      let h : HasNoMore limit v c = subst (λ (z : CpuState). HasNoMore limit v z) (x.there c) (more p.0 c (omega (arith, i, count))) in
      let own : c.own ≡ own_by s p (t.mine p) = x.own in
      let here : c.cpu ≡ p = x.at in
      ⊎_elim (λ k. inl (ap (is_cut limit) (sym own) ∙ k))
      (λ k. inr (
        ap is_still (sym own) ∙ k.0,
        λ q l u.
            let a : reach (request_word c.cpu q) v ≤ value_at c.own.seen q = k.1 q l u in
            let e : request_word c.cpu q ≡ request_word p q = ap (λ (z : CpuNo). request_word z q) here in
            let f : value_at c.own.seen q ≡ value_at (own_by s p (t.mine p)).seen q = ap (λ (z : Own). value_at z.seen q) own in
            let r : reach (request_word c.cpu q) v ≡ reach (request_word p q) v = ap (λ (z : ℕ). reach z v) e in omega (arith, a, f, r),
      ))
      h

  -- if none of the team's processors has more to do, the run of its events is settled
  pub settled : IsSettledBy s limit v cpus (reverse es)
  settled more =
      subst (λ (xs : List Event). is_settled s limit xs ≡ true) same
      (all_done_settles s limit v t.mine (length es) history fit t.together whole (no_more more))
