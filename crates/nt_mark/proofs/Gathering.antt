-- All passes and keepers as one seat, and what it shows of each of them.
use Rattle.std.proofs.Common.{◌≡◌, ℕ, ◌+◌, List, [], ◌∷◌, ◌++◌, length, get_or, map, refl, sym, ap, ◌∙◌, subst, inl, inr, ⊎_elim, arith, length-append}
use Rattle.std.proofs.Common.{append-nil, All, Contains, sum_by, nat_lt, if◌then◌else◌, Bool, true, false}
use Rattle.std.proofs.lemmas.Bool.{ltb-true, ltb-false}
use Rattle.std.proofs.lemmas.List.Elements.{Contains-append_left, Contains-append_right, Contains-append_cases, Contains-get_or}
use Rattle.std.proofs.lemmas.List.Sums.{sum_by-cons, sum_by-append}
use Rattle.std.specs.List.Sorted.{IsStrictlyIncreasing}
use mathlib.Core.List.{map-append}
use mathlib.Core.Option.{some, some-ne-none, some-injective}
use lib.ListN.{get_elem?}
use Rattle.atomic_table.specs.Table.{Final, Seen}
use Rattle.nt_mark.specs.declared.view.Entry.{Entry}
use Rattle.nt_mark.specs.declared.view.Mark.{Mark}
use Rattle.nt_mark.specs.declared.view.Look.{Look}
use Rattle.nt_mark.specs.declared.view.Note.{Note}
use Rattle.nt_mark.specs.declared.view.LaneList.{LaneList}
use Rattle.nt_mark.specs.declared.view.View.{View}
use Rattle.nt_mark.specs.declared.view.Sizes.{Sizes}
use Rattle.nt_mark.specs.declared.seats.Pass.{Pass}
use Rattle.nt_mark.specs.declared.seats.Keeper.{Keeper}
use Rattle.nt_mark.specs.Views.{both, note_numbers, entry_numbers, mark_of, first_notes}
use Rattle.nt_mark.specs.Rule.{sum_below, IsBeginning, Holds}
use Rattle.nt_mark.specs.Names.{pass_view, pass_views, keeper_lane, keeper_view, keeper_views, keeper_notes, keeper_lanes}
use Rattle.nt_mark.specs.Closing.{gathered, passes, seat_views, IsEachOnce, IsOfEntry, IsOfKeeper, WasAsked}
use Rattle.nt_mark.proofs.Sums.{in_none, in_first, in_rest, only, first_or_rest, none_left, sum_ones, ones_below, at_one, none_below, one_at}
use Rattle.nt_mark.proofs.Noting.{kept_of}
use Rattle.nt_mark.proofs.Ending.{IsWhole, whole}

-- the passes and the keepers as one
abbrev seats : Pass → List Pass → List Keeper → View
seats p others keepers = gathered (passes p others) (keeper_views keepers)

-- gathering views with one more at the end is putting that one to the first view before gathering
gathered_push : (v : View) (ws : List View) (w : View) → gathered v (ws ++ w ∷ []) ≡ gathered (both v w) ws
gathered_push v [] w = refl
gathered_push v (x ∷ ws) w = ap (λ (u : View). both u x) (gathered_push v ws w)

-- a pass that was taken from the end of the others, and the same of a keeper
pub gathered_pass : (v : View) (before after : List Pass) (x : Pass) → before ≡ after ++ x ∷ [] → gathered v (pass_views before)
    ≡ gathered (both v (pass_view x)) (pass_views after)
gathered_pass v before after x is = ap (gathered v) (ap pass_views is ∙ map-append pass_view after (x ∷ [])) ∙ gathered_push v (pass_views after) (pass_view x)

-- gathering all keepers with a view is joining the last one to the view and gathering the others with that
pub gathered_keeper : (v : View) (before after : List Keeper) (x : Keeper) → before ≡ after ++ x ∷ [] → gathered v (keeper_views before)
    ≡ gathered (both v (keeper_view x)) (keeper_views after)
gathered_keeper v before after x is = ap (gathered v) (ap keeper_views is ∙ map-append keeper_view after (x ∷ []))
    ∙ gathered_push v (keeper_views after) (keeper_view x)

-- appending a list of length zero leaves a list as it was
nothing_more : {A : Type 0} (xs ys : List A) → length ys ≡ 0 → xs ++ ys ≡ xs
nothing_more {A} xs ys none = ap (λ (l : List A). xs ++ l) (none_left ys (omega arith)) ∙ append-nil xs

-- passes gathered to a view that keeps no lane keep no lane
passes_keep_none : (v : View) (ps : List Pass) → length v.kept ≡ 0 → length (gathered v (pass_views ps)).kept ≡ 0
passes_keep_none v [] h = h
passes_keep_none v (p ∷ ps) h = let a = passes_keep_none v ps h in let b = p.no_lane in
    let c = length-append (gathered v (pass_views ps)).kept (pass_view p).kept in omega arith

-- what the first has and what another has is in what they have together
module _ {A : Type 0} (f : View → List A) (adds : (a b : View) → f (both a b) ≡ f a ++ f b) where
  in_gathered : (v : View) (ws : List View) (x : A) → Contains (f v) x → Contains (f (gathered v ws)) x
  in_gathered v [] x h = h
  in_gathered v (w ∷ ws) x h = subst (λ (l : List A). Contains l x) (sym (adds (gathered v ws) w))
      (Contains-append_left (f (gathered v ws)) (f w) x (in_gathered v ws x h))

  other_in_gathered : (v : View) (ws : List View) (w : View) (x : A) → Contains ws w → Contains (f w) x → Contains (f (gathered v ws)) x
  other_in_gathered v [] w x at h = absurd (in_none w at)
  other_in_gathered v (u ∷ ws) w x at h = subst (λ (l : List A). Contains l x) (sym (adds (gathered v ws) u)) (⊎_elim
      (λ e. Contains-append_right (f (gathered v ws)) (f u) x (subst (λ (z : View). Contains (f z) x) e h))
      (λ r. Contains-append_left (f (gathered v ws)) (f u) x (other_in_gathered v ws w x r h))
      (first_or_rest u ws w at))

  in_all : (p : Pass) (others : List Pass) (keepers : List Keeper) (w : View) (x : A) → Contains (seat_views p others keepers) w → Contains (f w) x →
      Contains (f (seats p others keepers)) x
  in_all p others keepers w x at h = ⊎_elim
      (λ e. in_gathered (passes p others) (keeper_views keepers) x
      (in_gathered (pass_view p) (pass_views others) x (subst (λ (z : View). Contains (f z) x) e h)))
      (λ r. ⊎_elim
      (λ a. in_gathered (passes p others) (keeper_views keepers) x (other_in_gathered (pass_view p) (pass_views others) w x a h))
      (λ b. other_in_gathered (passes p others) (keeper_views keepers) w x b h)
      (Contains-append_cases (pass_views others) (keeper_views keepers) w r))
      (first_or_rest (pass_view p) (pass_views others ++ keeper_views keepers) w at)

-- keepers bring lanes and knowledge, and nothing else
entries_stay : (v : View) (ks : List Keeper) → (gathered v (keeper_views ks)).entries ≡ v.entries
entries_stay v [] = refl
entries_stay v (k ∷ ks) = nothing_more (gathered v (keeper_views ks)).entries (keeper_view k).entries k.no_entry ∙ entries_stay v ks

-- gathering keepers to a view leaves its marks as they were
marks_stay : (v : View) (ks : List Keeper) → (gathered v (keeper_views ks)).marks ≡ v.marks
marks_stay v [] = refl
marks_stay v (k ∷ ks) = nothing_more (gathered v (keeper_views ks)).marks (keeper_view k).marks k.no_mark ∙ marks_stay v ks

-- gathering keepers to a view leaves its looks as they were
looks_stay : (v : View) (ks : List Keeper) → (gathered v (keeper_views ks)).looks ≡ v.looks
looks_stay v [] = refl
looks_stay v (k ∷ ks) = nothing_more (gathered v (keeper_views ks)).looks (keeper_view k).looks k.no_look ∙ looks_stay v ks

-- gathering keepers to a view leaves its parts as they were
parts_stay : (v : View) (ks : List Keeper) → (gathered v (keeper_views ks)).parts ≡ v.parts
parts_stay v [] = refl
parts_stay v (k ∷ ks) = let a = parts_stay v ks in let b = k.no_part in omega arith

-- the list that a keeper keeps
its_list : (k : Keeper) → (m : LaneList) × ((keeper_view k).kept ≡ m ∷ []) × (m.lane ≡ k.lane) × (m.notes ≡ keeper_notes k)
its_list k =
    let m = kept_of (keeper_view k).kept k.lane k.word k.one_lane k.its_word in
    (m.0, m.1, m.2, sym (ap first_notes m.1))

-- gathering keepers to a view adds one kept lane for each keeper
lanes_added : (v : View) (ks : List Keeper) → length (gathered v (keeper_views ks)).kept ≡ length v.kept + length ks
lanes_added v [] = omega arith
lanes_added v (k ∷ ks) =
    let a = lanes_added v ks in
    let m = its_list k in
    let one : length (keeper_view k).kept ≡ 1 = ap length m.1 in
    let b = length-append (gathered v (keeper_views ks)).kept (keeper_view k).kept in
    omega arith

-- a sum over the kept lanes of keepers gathered to a view that keeps none is the sum over the keepers' lanes
lane_sum : (h : ℕ → ℕ) (v : View) (ks : List Keeper) → length v.kept ≡ 0 → sum_by (λ (m : LaneList). h m.lane) (gathered v (keeper_views ks)).kept
    ≡ sum_by h (keeper_lanes ks)
lane_sum h v [] none = ap (sum_by (λ (m : LaneList). h m.lane)) (none_left v.kept (omega arith))
lane_sum h v (k ∷ ks) none =
    let f : LaneList → ℕ = λ (m : LaneList). h m.lane in
    let a = lane_sum h v ks none in
    let m = its_list k in
    let b = sum_by-append f (gathered v (keeper_views ks)).kept (keeper_view k).kept in
    let c : sum_by f (keeper_view k).kept ≡ sum_by f (m.0 ∷ []) = ap (sum_by f) m.1 in
    let d = sum_by-cons f m.0 [] in
    let e : h m.0.lane ≡ h k.lane = ap h m.2 in
    let g = sum_by-cons h k.lane (keeper_lanes ks) in
    let z : sum_by f [] ≡ 0 = refl in
    omega arith

-- each gathered keeper's lane is kept, with the keeper's notes
list_of : (v : View) (ks : List Keeper) (k : Keeper) → Contains ks k → (m : LaneList) × Contains (gathered v (keeper_views ks)).kept m × (m.lane ≡ k.lane) ×
    (m.notes ≡ keeper_notes k)
list_of v [] k h = absurd (in_none k h)
list_of v (x ∷ ks) k h = ⊎_elim
    (λ e.
    let m = its_list x in
    let has : Contains (keeper_view x).kept m.0 = subst (λ (l : List LaneList). Contains l m.0) (sym m.1) (in_first m.0 []) in (
      m.0,
      Contains-append_right (gathered v (keeper_views ks)).kept (keeper_view x).kept m.0 has,
      m.2 ∙ ap (λ (y : Keeper). y.lane) (sym e),
      m.3
          ∙ ap keeper_notes (sym e),
    ))
    (λ r. let m = list_of v ks k r in (m.0, Contains-append_left (gathered v (keeper_views ks)).kept (keeper_view x).kept m.0 m.1, m.2, m.3))
    (first_or_rest x ks k h)

-- each lane kept after gathering keepers to a view that keeps none is a keeper's, with its notes
keeper_of : (v : View) (ks : List Keeper) → length v.kept ≡ 0 → (m : LaneList) → Contains (gathered v (keeper_views ks)).kept m → (k : Keeper) ×
    Contains ks k × (k.lane ≡ m.lane) × (keeper_notes k ≡ m.notes)
keeper_of v [] none m h = absurd (in_none m (subst (λ (l : List LaneList). Contains l m) (none_left v.kept (omega arith)) h))
keeper_of v (x ∷ ks) none m h = ⊎_elim
    (λ r. let k = keeper_of v ks none m r in (k.0, in_rest x ks k.0 k.1, k.2, k.3))
    (λ r.
    let l = its_list x in
    let is : m ≡ l.0 = only l.0 m (subst (λ (q : List LaneList). Contains q m) l.1 r) in
    (x, in_first x ks, sym l.2 ∙ ap (λ (q : LaneList). q.lane) (sym is), sym l.3 ∙ ap (λ (q : LaneList). q.notes) (sym is)))
    (Contains-append_cases (gathered v (keeper_views ks)).kept (keeper_view x).kept m h)

-- what holds of each element of a list holds of all of it
each_of : {A : Type 0} (P : A → Type 0) (xs : List A) → ((x : A) → Contains xs x → P x) → All P xs
each_of P xs h k d lt = h (get_or xs k d) (Contains-get_or xs k d lt)

-- a list with each number below n once, as sums tell it
once_below : (xs : List ℕ) (n : ℕ) → ((h : ℕ → ℕ) → sum_by h xs ≡ sum_below h n) → IsEachOnce n xs
once_below xs n all k = all (at_one k) ∙ once (nat_lt k n) refl
  where
    once : (b : Bool) → nat_lt k n ≡ b → sum_below (at_one k) n ≡ (if b then 1 else 0)
    once true e = one_at k n (ltb-true k n e)
    once false e = none_below k n (ltb-false k n e)

-- a sum over a mapped list is the sum of the composed function over the list
sum_map : {A : Type 0} (f : ℕ → ℕ) (g : A → ℕ) (xs : List A) → sum_by f (map g xs) ≡ sum_by (λ (x : A). f (g x)) xs
sum_map f g [] = refl
sum_map {A} f g (x ∷ xs) = let a = sum_map f g xs in let b = sum_by-cons f (g x) (map g xs) in let c = sum_by-cons (λ (y : A). f (g y)) x xs in omega arith

-- what `close` says
pub record IsEnd (lanes : ℕ) (p : Pass) (others : List Pass) (keepers : List Keeper) (count : ℕ) : Type 0 where
  pub count_is : count ≡ length (passes p others).entries
  pub each_once : IsEachOnce count (entry_numbers (passes p others).entries)
  pub lanes_once : IsEachOnce lanes (keeper_lanes keepers)
  pub rise : All (λ k. IsStrictlyIncreasing (note_numbers (keeper_notes k))) keepers
  pub notes : All (λ k. All (IsOfEntry (passes p others).entries (keeper_lane k)) (keeper_notes k)) keepers
  pub known : All (λ (v : View). All (Contains (passes p others).entries) v.known) (seat_views p others keepers)
  pub prefixes : All (λ (v : View). All (IsOfKeeper keepers) v.prefixes) (seat_views p others keepers)
  pub looks : All (WasAsked (passes p others)) (passes p others).looks

-- if all passes and keepers are whole as one seat, each number was drawn once and each lane has one keeper
ends : (lanes : ℕ) (p : Pass) (others : List Pass) (keepers : List Keeper) (count : ℕ) → IsWhole lanes (seats p others keepers) count →
    IsEnd lanes p others keepers count
ends lanes p others keepers count w =
    let v = passes p others in
    let views = seat_views p others keepers in
    let none = passes_keep_none (pass_view p) others p.no_lane in
    let es = entries_stay v keepers in
    let ms = marks_stay v keepers in
    let ls = looks_stay v keepers in
    let drawn : (h : ℕ → ℕ) → sum_by (λ (e : Entry). h e.number) v.entries ≡ sum_below h count = λ h. ap (sum_by (λ (e : Entry). h e.number)) (sym es)
    ∙ w.drawn_once h in
    record {
      count_is = let a = drawn (λ _. 1) in let b = sum_ones v.entries in let c = ones_below count in omega arith;
      each_once = once_below (entry_numbers v.entries) count (λ h. sum_map h (λ (e : Entry). e.number) v.entries ∙ drawn h);
      lanes_once = once_below (keeper_lanes keepers) lanes (λ h. sym (lane_sum h v keepers none) ∙ w.kept_once h);
      rise = each_of (λ k. IsStrictlyIncreasing (note_numbers (keeper_notes k))) keepers
          (λ k h. let m = list_of v keepers k h in subst (λ (l : List Note). IsStrictlyIncreasing (note_numbers l)) m.3 (w.rise m.0 m.1));
      notes = each_of (λ (k : Keeper). All (IsOfEntry v.entries k.lane) (keeper_notes k)) keepers
          (λ k h. each_of (IsOfEntry v.entries k.lane) (keeper_notes k)
          (λ n hn.
          let m = list_of v keepers k h in
          let o = w.notes m.0 n m.1 (subst (λ (l : List Note). Contains l n) (sym m.3) hn) in
          (o.0, subst (λ (l : List Entry). Contains l o.0) es o.1, o.2, subst (λ (x : ℕ). Contains o.0.lanes x) m.2 o.3)));
      known = each_of (λ (u : View). All (Contains v.entries) u.known) views
          (λ u at. each_of (Contains v.entries) u.known (λ e h. subst (λ (l : List Entry). Contains l e) es
          (w.known e (in_all (λ (z : View). z.known) (λ a b. refl) p others keepers u e at h))));
      prefixes = each_of (λ (u : View). All (IsOfKeeper keepers) u.prefixes) views
          (λ u at. each_of (IsOfKeeper keepers) u.prefixes
          (λ q h.
          let m = w.prefixes q (in_all (λ (z : View). z.prefixes) (λ a b. refl) p others keepers u q at h) in
          let k = keeper_of v keepers none m.0 m.1 in
          (k.0, k.1, k.2 ∙ m.2, subst (λ (l : List Note). IsBeginning q.notes l) (sym k.3) m.3)));
      looks = each_of (WasAsked v) v.looks
          (λ l h. ⊎_elim (λ z. inl z)
          (λ s. inr (
            s.0,
            s.1,
            subst (λ (q : List Mark). Contains q (mark_of l.cpu l.class s.0)) ms s.2,
            (s.3.0, subst (λ (q : List Entry). Contains q s.3.0) es s.3.1, s.3.2),
          ))
          (w.looks l (subst (λ (q : List Look). Contains q l) (sym ls) h)));
    }

-- the table at the end, with the view of the seat that took all in
pub closes : {S : Type 0} (key : Sizes) (id : ℕ) (v : View) (p : Pass) (others : List Pass) (keepers : List Keeper) (words : List ℕ) (xs : List S)
    (count : ℕ) → Final (Seen (Holds {S = S} key) id v) words xs → get_elem? words 0 ≡ some count
    → v ≡ seats p others keepers → (passes p others).parts ≡ key.parts → length keepers ≡ key.lanes → IsEnd key.lanes p others keepers count
closes key id v p others keepers words xs count f at same parts lanes =
    let s = f.0 in
    let h = f.1.0 in
    let w = seats p others keepers in
    let mine = subst (λ (u : View). get_elem? s.views id ≡ some u) same f.1.1 in
    let all_parts = parts_stay (passes p others) keepers ∙ parts in
    let none = passes_keep_none (pass_view p) others p.no_lane in
    let all_lanes : length w.kept ≡ key.lanes = let a = lanes_added (passes p others) keepers in omega arith in
    let all = whole key s.words s.views h.0 h.1 h.2 id w mine all_parts all_lanes in
    ends key.lanes p others keepers count (subst (IsWhole key.lanes w) (ap (λ (q : List ℕ). get_or q 0 0) f.2 ∙ first words count at) all)
  where
    first : (q : List ℕ) (n : ℕ) → get_elem? q 0 ≡ some n → get_or q 0 0 ≡ n
    first [] n e = absurd (some-ne-none n (sym e))
    first (x ∷ q) n e = some-injective x n e
