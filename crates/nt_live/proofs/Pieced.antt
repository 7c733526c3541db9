-- In the history that closed passes and lanes show, the list of each lane's keeper is the piece of its lane.
use Rattle.std.proofs.Common.{ap, append_assoc, arith, subst, sym, ⊎_elim, ◌∙◌}
use Rattle.std.proofs.lemmas.List.{reverse-append}
use Rattle.std.proofs.lemmas.List.Elements.{All-contains, Contains-append_left, Contains-append_right}
use Rattle.std.specs.List.Sorted.{IsStrictlyIncreasing}
use Rattle.std.specs.Prelude.{All, Bool, Contains, List, [], false, length, map, refl, reverse, suc, true, ℕ, ◌++◌, ◌<◌, ◌∷◌, ◌||◌, ◌≡◌}
use Rattle.nt_event.specs.declared.jobs.Lane.{Lane}
use Rattle.nt_event.specs.declared.numbers.CpuNo.{CpuNo}
use Rattle.nt_event.specs.declared.scripts.Script.{Script}
use Rattle.nt_event.specs.LaneStates.{Entry as PieceEntry, entry_if, lane_piece}
use Rattle.nt_event.specs.Lanes.{lane_count, lane_number, lanes_of, same_lane, touches, what_lanes}
use Rattle.nt_event.specs.Own.{stand_in}
use Rattle.nt_states.specs.LaneLists.{LaneFits}
use Rattle.nt_event.specs.Acts.{is_among}
use Rattle.nt_mark.proofs.Sums.{in_first, in_none, in_rest, first_or_rest, with_number}
use Rattle.nt_mark.specs.declared.seats.Keeper.{Keeper}
use Rattle.nt_mark.specs.declared.view.Entry.{Entry}
use Rattle.nt_mark.specs.declared.view.LaneList.{LaneList}
use Rattle.nt_mark.specs.declared.view.Note.{Note}
use Rattle.nt_mark.specs.declared.view.View.{View}
use Rattle.nt_mark.specs.Closing.{IsOfEntry, IsOfKeeper}
use Rattle.nt_mark.specs.Names.{keeper_lane, keeper_notes}
use Rattle.nt_mark.specs.Rule.{IsBeginning}
use Rattle.nt_mark.specs.Views.{note_numbers, note_of}
use Rattle.nt_compose.proofs.Composing.{length_events, one_lane as lane_is}
use Rattle.nt_compose.specs.Choices.{AreStepped}
use Rattle.nt_compose.specs.Composition.{Placed, events, state_then}
use Rattle.nt_compose.specs.Parts.{IsTail, Numbered, own_by, part}
use Rattle.nt_lane.specs.Seats.{AreFoundOn, IsFoundOn}
use Rattle.nt_live.specs.Gathering.{AreTogether, IsClosed, IsWhole}
use Rattle.nt_live.specs.LanePieces.{LanesHavePieces}
use Rattle.nt_live.specs.Workers.{drawn_of}
use Rattle.nt_live.proofs.InPart.{Here, in_part}
use Rattle.nt_live.proofs.LaneKept.{among, one_lane}
use Rattle.nt_live.proofs.Once.{number_below, the_one}
use Rattle.nt_live.proofs.Picked.{entry_in, step_in}
use Rattle.nt_live.proofs.Touching.{lanes_met, stepped_before}
use Rattle.nt_live.proofs.Upward.{Ups, below, below_all, below_zero, none_between, ups, with_it}

-- the number of a note is one of the list's
noted_number : (ns : List Note) (m : Note) → Contains ns m → Contains (note_numbers ns) m.number
noted_number [] m h = absurd (in_none m h)
noted_number (x ∷ ns) m h = ⊎_elim
    (λ e. subst (λ (z : Note). Contains (note_numbers (x ∷ ns)) z.number) (sym e) (in_first x.number (note_numbers ns)))
    (λ r. in_rest x.number (note_numbers ns) m.number (noted_number ns m r)) (first_or_rest x ns m h)

-- a list that begins with a beginning that ends with the note has the note
has_last : (front : List Note) (m : Note) (q ns : List Note) → q ≡ front ++ m ∷ [] → IsBeginning q ns → Contains (note_numbers ns) m.number
has_last front m q ns e b =
    let last : Contains (front ++ m ∷ []) m = Contains-append_right front (m ∷ []) m (in_first m []) in
    let begun : Contains q m = subst (λ (l : List Note). Contains l m) (sym e) last in
    noted_number ns m (subst (λ (l : List Note). Contains l m) (sym b.1) (Contains-append_left q b.0 m begun))

-- the list on which an event was found of a lane that is among these
found_on : (s : Script) (v : View) (y : Placed) (past : List Placed) (xs : List Lane) (x : Lane) →
    AreFoundOn s v (length past) y.event (stand_in y.event.cpu (own_by s y.event.cpu (part y.event.cpu past))) y.found xs → is_among x xs ≡ true →
    IsFoundOn s v (length past) y.event (stand_in y.event.cpu (own_by s y.event.cpu (part y.event.cpu past))) y.found x
found_on s v y past [] x f a = absurd cc
found_on s v y past (z ∷ xs) x f a = go (same_lane x z) refl a (found_on s v y past xs x f.1)
  where
    go : (b : Bool) → same_lane x z ≡ b → (b || is_among x xs) ≡ true →
        (is_among x xs ≡ true → IsFoundOn s v (length past) y.event (stand_in y.event.cpu (own_by s y.event.cpu (part y.event.cpu past))) y.found x) →
        IsFoundOn s v (length past) y.event (stand_in y.event.cpu (own_by s y.event.cpu (part y.event.cpu past))) y.found x
    go true e k more =
        subst (IsFoundOn s v (length past) y.event (stand_in y.event.cpu (own_by s y.event.cpu (part y.event.cpu past))) y.found) (lane_is x z e) f.0
    go false e k more = more k

module _ (s : Script) (limit : ℕ) (v : View) (mine : CpuNo → List Numbered) (ks : List Keeper) (n : ℕ) (h : List Placed) (t : AreTogether s limit v mine)
    (c : IsClosed s v ks n) (w : IsWhole s limit mine n h) where
  -- ---- an event of the history

  module _ (front past : List Placed) (y : Placed) (is : h ≡ front ++ y ∷ past) where
    -- the lanes that it touched in the states that it met
    abbrev lanes : List Lane
    lanes = what_lanes s (stand_in y.event.cpu (own_by s y.event.cpu (part y.event.cpu past))) y.event.what y.found.lanes

    there : IsTail (Here y past ∷ part y.event.cpu past) (mine y.event.cpu)
    there =
        subst (IsTail (Here y past ∷ part y.event.cpu past)) (w.parts y.event.cpu)
        (subst (λ (g : List Placed). IsTail (Here y past ∷ part y.event.cpu past) (part y.event.cpu g)) (sym is) (in_part front past y))

    -- the entry of its number is its entry
    pub its_entry : (e : Entry) → Contains v.entries e → e.number ≡ length past → e ≡ drawn_of s y.event.cpu (Here y past) (part y.event.cpu past)
    its_entry e k j =
        the_one (λ (e : Entry). e.number) n v.entries c.once e (drawn_of s y.event.cpu (Here y past) (part y.event.cpu past)) k
        (entry_in s limit v mine t y.event.cpu (Here y past) (part y.event.cpu past) there) j

    met : lanes ≡ lanes_of s y.event (events past)
    met = lanes_met s limit y past (stepped_before s limit front (y ∷ past) (subst (AreStepped s limit) is w.stepped))

    module _ (x : Lane) (fits : LaneFits s x) (k : Keeper) (has : Contains ks k) (of : keeper_lane k ≡ lane_number s x) where
      -- an event on the list of a lane touches it
      only : Contains (note_numbers (keeper_notes k)) (length past) → touches s x y.event (events past) ≡ true
      only p =
          let m = with_number (λ (z : Note). z.number) (length past) (keeper_notes k) p in
          let i = All-contains (IsOfEntry v.entries (keeper_lane k)) (keeper_notes k) m.0
          (All-contains (λ k. All (IsOfEntry v.entries (keeper_lane k)) (keeper_notes k)) ks k c.notes has) m.1 in
          let e = its_entry i.0 i.1 (i.2 ∙ m.2) in
          let l = with_number (lane_number s) (lane_number s x) lanes
          (subst (λ (z : Entry). Contains z.lanes (lane_number s x)) e (subst (Contains i.0.lanes) of i.3)) in
          let named = (step_in s limit v mine t y.event.cpu (Here y past) (part y.event.cpu past) there).found.named in
          let same : l.0 ≡ x = one_lane s l.0 x (All-contains (LaneFits s) lanes l.0 named l.1) fits l.2 in
          ap (is_among x) (sym met) ∙ among x lanes (subst (Contains lanes) same l.1)

      -- an event that touches a lane stands on its list
      on : touches s x y.event (events past) ≡ true → Contains (note_numbers (keeper_notes k)) (length past)
      on a =
          let f = found_on s v y past lanes x (step_in s limit v mine t y.event.cpu (Here y past) (part y.event.cpu past) there).found.on
          (ap (is_among x) met ∙ a) in
          let q = f.2.0 in
          let o = All-contains (λ (q : LaneList). IsOfKeeper ks q) v.prefixes q c.prefixes f.2.1 in
          let same : o.0 ≡ k = the_one keeper_lane (lane_count s) ks c.lanes o.0 k o.1 has (o.2 ∙ (f.2.2 ∙ sym of)) in
          let note : Note = note_of (length past) (state_then s (length past)
          (stand_in y.event.cpu (own_by s y.event.cpu (part y.event.cpu past))) y x ∷ []) in
          subst (λ (k : Keeper). Contains (note_numbers (keeper_notes k)) (length past)) same
          (has_last f.0 note q.notes (keeper_notes o.0) f.2.3 o.3)

  -- ---- the list of a lane

  module _ (x : Lane) (fits : LaneFits s x) (k : Keeper) (has : Contains ks k) (of : keeper_lane k ≡ lane_number s x) where
    abbrev list : List ℕ
    list = note_numbers (keeper_notes k)

    rise : Ups list
    rise = ups list (All-contains (λ k. IsStrictlyIncreasing (note_numbers (keeper_notes k))) ks k c.rise has)

    -- its numbers are those of events of the history
    inside : (j : ℕ) → Contains list j → j < length h
    inside j p =
        let m = with_number (λ (z : Note). z.number) j (keeper_notes k) p in
        let i = All-contains (IsOfEntry v.entries (keeper_lane k)) (keeper_notes k) m.0
        (All-contains (λ k. All (IsOfEntry v.entries (keeper_lane k)) (keeper_notes k)) ks k c.notes has) m.1 in
        let l = number_below (λ (e : Entry). e.number) n v.entries c.once i.0 i.1 in
        let e : i.0.number ≡ j = i.2 ∙ m.2 in
        let d = w.count in
        omega (arith, l, e, d)

    -- those of the older events
    numbers : (front past : List Placed) → h ≡ front ++ past → below (length past) list ≡ reverse (map (λ e. e.number) (lane_piece s x (events past)))
    numbers front [] is = below_zero list
    numbers front (y ∷ past) is =
        go (touches s x y.event (events past)) refl (numbers (front ++ y ∷ []) past (is ∙ sym (append_assoc front (y ∷ []) past)))
      where
        piece : List PieceEntry
        piece = lane_piece s x (events past)

        numbers_in : List PieceEntry → List ℕ
        numbers_in es = map (λ e. e.number) es

        go : (b : Bool) → touches s x y.event (events past) ≡ b → below (length past) list ≡ reverse (numbers_in piece) →
            below (suc (length past)) list ≡ reverse (numbers_in (entry_if b (length (events past)) y.event piece))
        go true e ih =
            with_it (length past) list rise (on front past y is x fits k has of e)
            ∙ (ap (λ (l : List ℕ). l ++ length past ∷ []) ih
            ∙ (ap (λ (m : ℕ). reverse (numbers_in piece) ++ m ∷ []) (sym (length_events past))
            ∙ sym (reverse-append (length (events past) ∷ []) (numbers_in piece))))
        go false e ih = none_between (length past) list none ∙ ih
          where
            none : Contains list (length past) → ⊥
            none p =
                let yes = only front past y is x fits k has of p in
                let clash : false ≡ true = sym e ∙ yes in
                cc

    pub its_numbers : list ≡ reverse (map (λ e. e.number) (lane_piece s x (events h)))
    its_numbers = sym (below_all (length h) list inside) ∙ numbers [] h refl

-- the list of a lane's keeper has the numbers of the lane's piece of the history that closed lanes show
pub lanes_have_pieces : LanesHavePieces
lanes_have_pieces s limit v mine ks n h t c w x fits k has of = its_numbers s limit v mine ks n h t c w x fits k has of
