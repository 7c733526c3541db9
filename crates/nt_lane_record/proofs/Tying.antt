-- What a lane's record keeps when its keeper and a pass tell each other what they know, and when it notes an event.
use Rattle.std.proofs.Common.{ap, append-nil, arith, refl, subst, sym, ⊎_elim, ◌∙◌}
use Rattle.std.proofs.lemmas.List.{map-append}
use Rattle.std.proofs.lemmas.List.Elements.{Contains-append_cases, Contains-append_left, Contains-append_right}
use Rattle.std.specs.Prelude.{Contains, List, [], get_or, max, suc, zero, ℕ, ◌++◌, ◌+◌, ◌<◌, ◌∷◌, ◌≡◌, ◌≤◌}
use Rattle.atomic_table.specs.Seated.{TableId}
use Rattle.nt_event.specs.declared.events.Event.{Event}
use Rattle.nt_mark.specs.declared.view.Entry.{Entry}
use Rattle.nt_mark.specs.declared.view.LaneList.{LaneList}
use Rattle.nt_mark.specs.declared.view.Note.{Note}
use Rattle.nt_mark.specs.declared.view.View.{View}
use Rattle.nt_mark.specs.Rule.{IsAbove, IsLongest}
use Rattle.nt_mark.specs.Views.{both, entry, first_notes, known_entries, known_lists, note_numbers, noted, noted_at, reach, request_word, step_word, telling}
use Rattle.nt_mark.proofs.Noting.{IsAbove-le}
use Rattle.nt_mark.proofs.Reach.{reach_both}
use Rattle.nt_lane_record.proofs.Growing.{grows_by}
use Rattle.nt_lane_record.specs.Records.{AreKnown, IsKnownWith, IsTied}
use Rattle.nt_lane_record.specs.Passes.{Grows, Learns, grows_through}

-- an element of a list with one element is equal to that one
pub one_of : {A : Type 0} (y x : A) → Contains (y ∷ []) x → y ≡ x
one_of {A} y x h = go h.0 h.1 h.2
  where
    go : (k : ℕ) → k < 1 → get_or (y ∷ []) k x ≡ x → y ≡ x
    go zero l e = e
    go (suc k) l e = absurd (omega arith)

-- a list of one element contains it
pub here : {A : Type 0} (x : A) → Contains (x ∷ []) x
here x = (0, omega arith, refl)

-- ---- two seats that told each other

module _ (a b v : View) (is : v ≡ both a (telling b 0 [])) where
  -- being told by another seat leaves the lists that a seat keeps as they were
  pub kept_told : v.kept ≡ a.kept
  kept_told = ap (λ (u : View). u.kept) is ∙ append-nil a.kept

  -- being told by another seat leaves a seat's own entries as they were
  pub entries_told : v.entries ≡ a.entries
  entries_told = ap (λ (u : View). u.entries) is ∙ append-nil a.entries

  -- being told by another seat leaves a seat's marks as they were
  pub marks_told : v.marks ≡ a.marks
  marks_told = ap (λ (u : View). u.marks) is ∙ append-nil a.marks

  -- being told by another seat leaves a seat's looks as they were
  pub looks_told : v.looks ≡ a.looks
  looks_told = ap (λ (u : View). u.looks) is ∙ append-nil a.looks

  -- an entry that a seat knew is still known to it after it was told
  pub known_told : (e : Entry) → Contains a.known e → Contains v.known e
  known_told e h =
      subst (λ (u : View). Contains u.known e) (sym is) (Contains-append_left a.known (known_entries b) e h)

  -- the entries of a seat that tells are known to the seat that is told
  pub own_told : (e : Entry) → Contains b.entries e → Contains v.known e
  own_told e h =
      subst (λ (u : View). Contains u.known e) (sym is) (Contains-append_right a.known (known_entries b) e (Contains-append_right b.known b.entries e h))

  -- the lists that a seat keeps which tells are known to the seat that is told
  pub list_told : (k : LaneList) → Contains b.kept k → Contains v.prefixes k
  list_told k h =
      subst (λ (u : View). Contains u.prefixes k) (sym is) (Contains-append_right a.prefixes (known_lists b) k (Contains-append_right b.prefixes b.kept k h))

  -- after being told, a seat knows of each word the greater of what the two seats knew
  pub reach_told : (w : ℕ) → reach w v ≡ max (reach w a) (reach w b)
  reach_told w = ap (reach w) is ∙ reach_both w a (telling b 0 [])

  -- a seat that is told by another has and knows all that it had and knew
  pub grows_told : Grows a v
  grows_told =
      grows_by a v (ap (λ (u : View). u.parts) is ∙ (let z : a.parts + 0 ≡ a.parts = omega arith in z)) [] (ap (λ (u : View). u.entries) is)
      (known_entries b) (ap (λ (u : View). u.known) is) (known_lists b) (ap (λ (u : View). u.prefixes) is)

  -- it learned
  pub learns_told : Learns a v
  learns_told = record {
    entries = entries_told;
    marks = marks_told;
    looks = looks_told;
    least = λ w. let r = reach_told w in omega arith;
    grows = grows_told;
  }

-- learning twice in turn is learning
pub learns_through : (u v w : View) → Learns u v → Learns v w → Learns u w
learns_through u v w a b = record {
  entries = b.entries ∙ a.entries;
  marks = b.marks ∙ a.marks;
  looks = b.looks ∙ a.looks;
  least = λ x. let h = a.least x in let k = b.least x in omega arith;
  grows = grows_through u v w a.grows b.grows;
}

-- what was known stays known
pub known_more : (told : List (List ℕ)) (v w : View) → ((u : ℕ) → reach u v ≤ reach u w) → AreKnown told v → AreKnown told w
known_more told v w le h p c = let a = h p c in let b = le (request_word p c) in let d = le step_word in (omega arith, omega arith)

-- a keeper's list, told values and events still fit together after a pass told the keeper what it knows
pub tied_met : (t : TableId) (lane : ℕ) (told : List (List ℕ)) (items : List ℕ) (t0 t1 : TableId) (l0 l1 : ℕ) (k0 p0 k1 : View) →
    IsTied t lane told items t0 l0 k0 → t1 ≡ t0 → l1 ≡ l0 → k1 ≡ both k0 (telling p0 0 []) → IsTied t lane told items t1 l1 k1
tied_met t lane told items t0 t1 l0 l1 k0 p0 k1 h a b e = record {
  at = a ∙ h.at;
  its_lane_is = b ∙ h.its_lane_is;
  numbers = h.numbers ∙ sym (ap (λ (ks : List LaneList). note_numbers (first_notes ks)) (kept_told k0 p0 k1 e));
  known = λ n i. let o = h.known n i in (o.0, o.1, o.2, known_told k0 p0 k1 e (entry n o.0 o.1) o.3);
  above = subst (λ (ks : List LaneList). IsAbove (reach step_word k1) (first_notes ks)) (sym (kept_told k0 p0 k1 e))
      (IsAbove-le (reach step_word k0) (reach step_word k1) (first_notes k0.kept) h.above (let r = reach_told k0 p0 k1 e step_word in omega arith));
  asked = known_more told k0 k1 (λ u. let r = reach_told k0 p0 k1 e u in omega arith) h.asked;
}

-- ---- a note

-- the list that the keeper keeps, with one note more, is known to whom it tells it
pub noted_kept : (k : LaneList) (k1 k2 : View) (x : Note) → k1.kept ≡ k ∷ [] → k2 ≡ noted k1 x →
    k2.kept ≡ record { lane = k.lane; word = k.word; notes = k.notes ++ x ∷ [] } ∷ []
noted_kept k k1 k2 x one is = ap (λ (v : View). v.kept) is ∙ ap (λ (ks : List LaneList). noted_at ks x) one

-- if the number of one more event is put on a lane's list, each number of the list is of an entry known with that lane
pub items_more : (lane : ℕ) (items after : List ℕ) (n : ℕ) (e : Event) (lanes : List ℕ) (v w : View) → after ≡ items ++ n ∷ [] →
    ((m : ℕ) → Contains items m → IsKnownWith lane v m) → ((y : Entry) → Contains v.known y → Contains w.known y) → Contains lanes lane →
    Contains w.known (entry n e lanes) → (m : ℕ) → Contains after m → IsKnownWith lane w m
items_more lane items after n e lanes v w is old more among new m h = ⊎_elim
    (λ a. let o = old m a in (o.0, o.1, o.2, more (entry m o.0 o.1) o.3))
    (λ b. last b)
    (Contains-append_cases items (n ∷ []) m (subst (λ (l : List ℕ). Contains l m) is h))
  where
    last : Contains (n ∷ []) m → IsKnownWith lane w m
    last b = subst (λ (z : ℕ). IsKnownWith lane w z) (one_of n m b) (e, lanes, among, new)

-- the numbers of a list and of its notes stay equal if both get one of the same number
pub numbers_more : (items after : List ℕ) (ns ms : List Note) (n : ℕ) (x : Note) → items ≡ note_numbers ns → after ≡ items ++ n ∷ [] →
    ms ≡ ns ++ x ∷ [] → x.number ≡ n → after ≡ note_numbers ms
numbers_more items after ns ms n x h a m q =
    a ∙ ((λ i. h i ++ sym q i ∷ []) ∙ sym (ap note_numbers m ∙ map-append (λ (z : Note). z.number) ns (x ∷ [])))

-- ---- an empty list

-- an empty list has no number to know
pub no_item : (lane : ℕ) (v : View) (n : ℕ) → Contains [] n → IsKnownWith lane v n
no_item lane v n h = absurd (let k : h.0 < 0 = h.1 in omega (arith, k))

-- ---- a comparison

-- the list a keeper kept before a pass told it is the longest known of its lane if the one it keeps then is
pub longest_kept : (lane l0 l1 : ℕ) (k0 p0 k1 p1 : View) → l0 ≡ lane → l1 ≡ l0 → k1 ≡ both k0 (telling p0 0 []) → IsLongest l1 (first_notes k1.kept) p1 →
    IsLongest lane (first_notes k0.kept) p1
longest_kept lane l0 l1 k0 p0 k1 p1 at same is long =
    subst (λ (n : ℕ). IsLongest n (first_notes k0.kept) p1) (same ∙ at)
    (subst (λ (ks : List LaneList). IsLongest l1 (first_notes ks) p1) (kept_told k0 p0 k1 is) long)
