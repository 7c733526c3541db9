-- A seat that is cut in two and two seats that become one keep the rule.
use Rattle.std.proofs.Common.{◌≡◌, ◌≢◌, ℕ, ◌+◌, ◌*◌, ◌≤◌, List, [], ◌∷◌, ◌++◌, length, get_or, set, refl, sym, ◌∙◌, subst, ⊎_elim, arith, length-append}
use Rattle.std.proofs.Common.{append-nil, zero-le, Contains, sum_by}
use Rattle.std.proofs.lemmas.List.Elements.{Contains-append_left, Contains-append_right, Contains-append_cases}
use Rattle.std.proofs.lemmas.List.Sums.{sum_by-cons, sum_by-append, sum_by_push}
use mathlib.Core.Logic.{dite}
use mathlib.Core.Option.{some, some-injective}
use native.Mathlib.Decide.{ℕ_discrete}
use lib.ListN.{get_elem?}
use Rattle.atomic_table.specs.Table.{Splits, Joins}
use Rattle.atomic_table.proofs.Lists.{at_snoc, set_else}
use Rattle.nt_mark.specs.declared.view.Entry.{Entry}
use Rattle.nt_mark.specs.declared.view.Mark.{Mark}
use Rattle.nt_mark.specs.declared.view.Note.{Note}
use Rattle.nt_mark.specs.declared.view.LaneList.{LaneList}
use Rattle.nt_mark.specs.declared.view.View.{View}
use Rattle.nt_mark.specs.declared.view.Sizes.{Sizes}
use Rattle.nt_mark.specs.Views.{request_word, telling, keeping, both, spent, first_kept, other_kept}
use Rattle.nt_mark.specs.Rule.{IsMarked, Fits, Keeps, Holds}
use Rattle.nt_mark.proofs.Sums.{in_none, in_first, in_rest, only, sum_changed, get_front, there}
use Rattle.nt_mark.proofs.Drawing.{asked_more, still, each_set}

-- the sum after one view was cut in two
sum_cut : (f : View → ℕ) (views : List View) (id : ℕ) (v left right : View) → get_elem? views id ≡ some v → f left + f right ≡ f v →
    sum_by f (set views id left ++ right ∷ []) ≡ sum_by f views
sum_cut f views id v left right at sum =
    let a = sum_by_push f (set views id left) right in
    let b = sum_changed f views id v left at in
    omega arith

-- a mark stays some seat's mark after the seat is cut in two, if the left part keeps all its marks
marks_cut : (views : List View) (id : ℕ) (v left right : View) → get_elem? views id ≡ some v → left.marks ≡ v.marks → (m : Mark) → IsMarked views m →
    IsMarked (set views id left ++ right ∷ []) m
marks_cut views id v left right at same t m = dite (ℕ_discrete m.0 id)
    (λ e.
    let is : v ≡ m.1 = some-injective v m.1 (sym at ∙ subst (λ (k : ℕ). get_elem? views k ≡ some m.1) e m.2) in (
      id,
      left,
      get_front (set views id left) (right ∷ []) id left (there views id v left at),
      subst (λ (l : List Mark). Contains l t) (sym same) (subst (λ (u : View). Contains u.marks t) (sym is) m.3),
    ))
    (λ other. (m.0, m.1, get_front (set views id left) (right ∷ []) m.0 m.1 (set_else views id m.0 left other ∙ m.2), m.3))

module _ (key : Sizes) (words : List ℕ) (views : List View) (log : List Entry) (lists : List (List Note)) (id : ℕ) (v : View) (p q : ℕ) (ks ms : List LaneList)
    (at : get_elem? views id ≡ some v) (r : Keeps key words views log lists) (parts : p + q ≡ v.parts) (few : length v.entries ≤ key.limit * p)
    (lanes : (h : LaneList → ℕ) → sum_by h ks + sum_by h ms ≡ sum_by h v.kept) (in_ks : (k : LaneList) → Contains ks k → Contains v.kept k)
    (in_ms : (k : LaneList) → Contains ms k → Contains v.kept k) where
  cut_keeps : Keeps key words (set views id (keeping v p ks) ++ telling v q ms ∷ []) log lists
  cut_keeps =
      let left = keeping v p ks in
      let right = telling v q ms in
      let views' = set views id left ++ right ∷ [] in
      let marks_stay = marks_cut views id v left right at refl in
      let old = r.each id v at in
      let up : (i : ℕ) → get_or words i 0 ≤ get_or words i 0 = λ i. omega arith in
      let others : (j : ℕ) (u : View) → get_elem? views j ≡ some u → Fits key words views' log lists u
      = λ j u g. still key words words views views' log log lists lists up marks_stay (λ k e x. x) (λ l y b. b) u (λ k h. refl) (r.each j u g) in
      let mine = others id v at in
      let is_left : Fits key words views' log lists left = record {
        few = few;
        own = mine.own;
        marks = mine.marks;
        known = mine.known;
        prefixes = mine.prefixes;
        kept = λ k h. mine.kept k (in_ks k h);
        reached = mine.reached;
        looks = mine.looks;
      } in
      let is_right : Fits key words views' log lists right = record {
        few = zero-le;
        own = λ e h. absurd (in_none e h);
        marks = λ t h. absurd (in_none t h);
        known = λ e h. ⊎_elim (λ a. mine.known e a) (λ b. mine.own e b) (Contains-append_cases v.known v.entries e h);
        prefixes = λ k h. ⊎_elim (λ a. mine.prefixes k a) (λ b. ((mine.kept k b).0, ([], sym (mine.kept k b).1 ∙ sym (append-nil k.notes))))
            (Contains-append_cases v.prefixes v.kept k h);
        kept = λ k h. mine.kept k (in_ms k h);
        reached = mine.reached;
        looks = λ t h. absurd (in_none t h);
      } in
      record {
        wide = r.wide;
        small = r.small;
        steps = r.steps;
        drawn_once = λ h. sum_cut (λ (u : View). sum_by (λ (e : Entry). h e.number) u.entries) views id v left right at (omega arith) ∙ r.drawn_once h;
        parts = sum_cut (λ (u : View). u.parts) views id v left right at parts ∙ r.parts;
        kept_once = λ h. sum_cut (λ (u : View). sum_by (λ (k : LaneList). h k.lane) u.kept) views id v left right at (lanes (λ (k : LaneList). h k.lane))
            ∙ r.kept_once h;
        lane_words = r.lane_words;
        all_lists = r.all_lists;
        rise = r.rise;
        of_entries = r.of_entries;
        asked = λ y class c d. asked_more views views' marks_stay y class (get_or words (request_word y class) 0) (r.asked y class c d);
        each = λ j u g. ⊎_elim (λ g2. each_set (Fits key words views' log lists) views id left is_left (λ j2 u2 apart g3. others j2 u2 g3) j u g2)
            (λ (e : right ≡ u). subst (Fits key words views' log lists) e is_right) (at_snoc (set views id left) right u j g);
      }

-- a new seat gets some of the parts
pub splitting : {S : Type 0} (key : Sizes) (id : ℕ) (v : View) (p q : ℕ) → p + q ≡ v.parts → length v.entries ≤ key.limit * p →
    Splits (Holds {S = S} key) id v (keeping v p v.kept) (telling v q [])
splitting key id v p q parts few s h at = (
  h.0,
  h.1,
  cut_keeps key s.words s.views h.0 h.1 id v p q v.kept [] at h.2 parts few (λ f. omega arith) (λ k x. x)
      (λ k x. absurd (in_none k x)),
)

-- a new seat is told all that another knows: nothing else changes
pub telling_all : {S : Type 0} (key : Sizes) (id : ℕ) (v : View) → Splits (Holds {S = S} key) id v v (telling v 0 [])
telling_all key id v s h at = (
  h.0,
  h.1,
  cut_keeps key s.words s.views h.0 h.1 id v v.parts 0 v.kept [] at h.2 (omega arith) (h.2.each id v at).few
      (λ f. omega arith) (λ k x. x) (λ k x. absurd (in_none k x)),
)

-- a new seat gets the lane that another keeps first
pub giving_lane : {S : Type 0} (key : Sizes) (id : ℕ) (v : View) →
    Splits (Holds {S = S} key) id v (keeping v v.parts (other_kept v.kept)) (telling v 0 (first_kept v.kept))
giving_lane key id v s h at = (
  h.0,
  h.1,
  cut_keeps key s.words s.views h.0 h.1 id v v.parts 0 (other_kept v.kept) (first_kept v.kept) at h.2 (omega arith)
      (h.2.each id v at).few (sums v.kept) (others v.kept) (firsts v.kept),
)
  where
    sums : (ks : List LaneList) (f : LaneList → ℕ) → sum_by f (other_kept ks) + sum_by f (first_kept ks) ≡ sum_by f ks
    sums [] f = refl
    sums (k ∷ ks) f = let a = sum_by-cons f k ks in let b = sum_by-cons f k [] in let z : sum_by f [] ≡ 0 = refl in omega arith

    others : (ks : List LaneList) (k : LaneList) → Contains (other_kept ks) k → Contains ks k
    others [] k x = x
    others (y ∷ ks) k x = in_rest y ks k x

    firsts : (ks : List LaneList) (k : LaneList) → Contains (first_kept ks) k → Contains ks k
    firsts [] k x = x
    firsts (y ∷ ks) k x = subst (λ z. Contains (y ∷ ks) z) (sym (only y k x)) (in_first y ks)

-- the sum after two views became one
sum_met : (f : View → ℕ) (views : List View) (id other : ℕ) (v w : View) → get_elem? views id ≡ some v → other ≢ id → get_elem? (set views id (both v w)) other
    ≡ some w
    → f (both v w) ≡ f v + f w → f spent ≡ 0 → sum_by f (set (set views id (both v w)) other spent) ≡ sum_by f views
sum_met f views id other v w at apart there' sum zero_spent =
    let a = sum_changed f (set views id (both v w)) other w spent there' in
    let b = sum_changed f views id v (both v w) at in
    omega arith

-- a mark stays some seat's mark after two different seats become one
marks_met : (views : List View) (id other : ℕ) (v w : View) → get_elem? views id ≡ some v → other ≢ id → get_elem? views other ≡ some w
    → (m : Mark) → IsMarked views m → IsMarked (set (set views id (both v w)) other spent) m
marks_met views id other v w at apart at2 t m =
    let b = both v w in
    let first : get_elem? (set (set views id b) other spent) id ≡ some b = set_else (set views id b) other id spent (λ e. apart (sym e))
    ∙ there views id v b at in
    dite (ℕ_discrete m.0 id)
    (λ e.
    let is : v ≡ m.1 = some-injective v m.1 (sym at ∙ subst (λ (k : ℕ). get_elem? views k ≡ some m.1) e m.2) in
    (id, b, first, Contains-append_left v.marks w.marks t (subst (λ (u : View). Contains u.marks t) (sym is) m.3)))
    (λ ne. dite (ℕ_discrete m.0 other)
    (λ e.
    let is : w ≡ m.1 = some-injective w m.1 (sym at2 ∙ subst (λ (k : ℕ). get_elem? views k ≡ some m.1) e m.2) in
    (id, b, first, Contains-append_right v.marks w.marks t (subst (λ (u : View). Contains u.marks t) (sym is) m.3)))
    (λ ne2. (m.0, m.1, set_else (set views id b) other m.0 spent ne2 ∙ (set_else views id m.0 b ne ∙ m.2), m.3)))

-- two seats of one table become one that has all of both, one of them is left with nothing, and the rule stays
pub joining : {S : Type 0} (key : Sizes) (id other : ℕ) (v w : View) → Joins (Holds {S = S} key) id v other w (both v w) spent
joining key id other v w s h at apart there' =
    let r = h.2 in
    let log = h.0 in
    let lists = h.1 in
    let b = both v w in
    let views = s.views in
    let views' = set (set views id b) other spent in
    let at2 : get_elem? views other ≡ some w = sym (set_else views id other b apart) ∙ there' in
    let marks_stay = marks_met views id other v w at apart at2 in
    let up : (i : ℕ) → get_or s.words i 0 ≤ get_or s.words i 0 = λ i. omega arith in
    let others : (j : ℕ) (u : View) → get_elem? views j ≡ some u → Fits key s.words views' log lists u
    = λ j u g. still key s.words s.words views views' log log lists lists up marks_stay (λ k e x. x) (λ l y x. x) u (λ k x. refl) (r.each j u g) in
    let one = others id v at in
    let two = others other w at2 in
    let is_both : Fits key s.words views' log lists b = record {
      few = let f = one.few in let g = two.few in let l = length-append v.entries w.entries in omega arith;
      own = λ e x. ⊎_elim (λ y. one.own e y) (λ y. two.own e y) (Contains-append_cases v.entries w.entries e x);
      marks = λ t x. ⊎_elim (λ y. let m = one.marks t y in (m.0, Contains-append_left v.entries w.entries m.0 m.1, m.2))
          (λ y. let m = two.marks t y in (m.0, Contains-append_right v.entries w.entries m.0 m.1, m.2)) (Contains-append_cases v.marks w.marks t x);
      known = λ e x. ⊎_elim (λ y. one.known e y) (λ y. two.known e y) (Contains-append_cases v.known w.known e x);
      prefixes = λ k x. ⊎_elim (λ y. one.prefixes k y) (λ y. two.prefixes k y) (Contains-append_cases v.prefixes w.prefixes k x);
      kept = λ k x. ⊎_elim (λ y. one.kept k y) (λ y. two.kept k y) (Contains-append_cases v.kept w.kept k x);
      reached = λ t x. ⊎_elim (λ y. one.reached t y) (λ y. two.reached t y) (Contains-append_cases v.reached w.reached t x);
      looks = λ t x. ⊎_elim (λ y. one.looks t y) (λ y. two.looks t y) (Contains-append_cases v.looks w.looks t x);
    } in
    let is_spent : Fits key s.words views' log lists spent = record {
      few = zero-le;
      own = λ e x. absurd (in_none e x);
      marks = λ t x. absurd (in_none t x);
      known = λ e x. absurd (in_none e x);
      prefixes = λ k x. absurd (in_none k x);
      kept = λ k x. absurd (in_none k x);
      reached = λ t x. absurd (in_none t x);
      looks = λ t x. absurd (in_none t x);
    } in (
      log,
      lists,
      record {
        wide = r.wide;
        small = r.small;
        steps = r.steps;
        drawn_once = λ g. sum_met (λ (u : View). sum_by (λ (e : Entry). g e.number) u.entries) views id other v w at apart there'
            (sum_by-append (λ (e : Entry). g e.number) v.entries w.entries) refl ∙ r.drawn_once g;
        parts = sum_met (λ (u : View). u.parts) views id other v w at apart there' refl refl ∙ r.parts;
        kept_once = λ g. sum_met (λ (u : View). sum_by (λ (k : LaneList). g k.lane) u.kept) views id other v w at apart there'
            (sum_by-append (λ (k : LaneList). g k.lane) v.kept w.kept) refl ∙ r.kept_once g;
        lane_words = r.lane_words;
        all_lists = r.all_lists;
        rise = r.rise;
        of_entries = r.of_entries;
        asked = λ y class c d. asked_more views views' marks_stay y class (get_or s.words (request_word y class) 0) (r.asked y class c d);
        each = each_set (Fits key s.words views' log lists) (set views id b) other spent is_spent
            (λ j u ne g. each_set (Fits key s.words views' log lists) views id b is_both (λ j2 u2 ne2 g2. others j2 u2 g2) j u g);
      },
    )
