-- What every step needs, and a draw.
use Rattle.std.proofs.Common.{◌≡◌, ◌≢◌, ℕ, suc, ◌+◌, ◌*◌, ◌%◌, ◌<◌, ◌≤◌, List, [], ◌∷◌, ◌++◌, length, get_or, set, refl, sym, ap, ◌∙◌, subst, inl, inr, ⊎_elim}
use Rattle.std.proofs.Common.{arith, length-append, length-set, get_or-set_other, get_or-set_same, zero-le, cond, eqb, eq-eqb, ne_eqb, Contains, sum_by}
use Rattle.std.proofs.Math.Nat.{max-le}
use Rattle.std.proofs.lemmas.List.Elements.{Contains-append_left, Contains-push_cases, Contains-get_or}
use Rattle.std.proofs.lemmas.List.Sums.{sum_by_push}
use mathlib.Core.Logic.{dite}
use mathlib.Core.Option.{some, some-injective}
use native.Mathlib.Decide.{ℕ_discrete}
use lib.ListN.{get_elem?}
use Rattle.atomic_table.specs.Table.{Me, keeps, Allows}
use Rattle.atomic_table.proofs.Lists.{at_set, at_last, set_else}
use Rattle.nt_event.specs.declared.events.Event.{Event}
use Rattle.nt_event.specs.declared.numbers.CpuNo.{CpuNo}
use Rattle.nt_mark.specs.declared.view.Entry.{Entry}
use Rattle.nt_mark.specs.declared.view.Mark.{Mark}
use Rattle.nt_mark.specs.declared.view.Look.{Look}
use Rattle.nt_mark.specs.declared.view.Note.{Note}
use Rattle.nt_mark.specs.declared.view.LaneList.{LaneList}
use Rattle.nt_mark.specs.declared.view.Reached.{Reached}
use Rattle.nt_mark.specs.declared.view.View.{View}
use Rattle.nt_mark.specs.declared.view.Sizes.{Sizes}
use Rattle.nt_mark.specs.Views.{step_word, request_word, lane_word, entry, mark_of, reached_at, drawn, greatest}
use Rattle.nt_mark.specs.Rule.{sum_below, IsMarked, IsAsked, IsBeginning, Fits, Keeps, Holds, Draws}
use Rattle.nt_mark.proofs.Sums.{in_first, in_rest, sum_changed, sum_same, sum_bounded, sum_ones, get_front, ones_below, rises_at, get_below, there}

-- a mark that some seat has is still there after a change of one view that keeps the marks
pub marks_set : (views : List View) (id : ℕ) (v w : View) → get_elem? views id ≡ some v → ((m : Mark) → Contains v.marks m → Contains w.marks m) → (m : Mark) →
    IsMarked views m → IsMarked (set views id w) m
marks_set views id v w at more t m = dite (ℕ_discrete m.0 id)
    (λ e.
    let same : v ≡ m.1 = some-injective v m.1 (sym at ∙ subst (λ (k : ℕ). get_elem? views k ≡ some m.1) e m.2) in
    (id, w, there views id v w at, more t (subst (λ (u : View). Contains u.marks t) (sym same) m.3)))
    (λ other. (m.0, m.1, set_else views id m.0 w other ∙ m.2, m.3))

-- a request value that was asked by some mark stays so if all marks are kept
pub asked_more : (views views' : List View) → ((m : Mark) → IsMarked views m → IsMarked views' m) → (p : CpuNo) (class a : ℕ) → IsAsked views p class a →
    IsAsked views' p class a
asked_more views views' more p class a h = ⊎_elim (λ z. inl z) (λ s. inr (s.0, s.1, more (mark_of p class s.0) s.2)) h

module _ (key : Sizes) (words words' : List ℕ) (views views' : List View) (log log' : List Entry) (lists lists' : List (List Note)) where
  -- what fits one view still fits it where all has grown
  pub still : ((i : ℕ) → get_or words i 0 ≤ get_or words' i 0) → ((m : Mark) → IsMarked views m → IsMarked views' m)
      → ((k : ℕ) (e : Entry) → get_elem? log k ≡ some e → get_elem? log' k ≡ some e)
      → ((l : List Note) (x : ℕ) → IsBeginning l (get_or lists x []) → IsBeginning l (get_or lists' x []))
      → (v : View) → ((k : LaneList) → Contains v.kept k → get_or lists' k.lane [] ≡ get_or lists k.lane [])
      → Fits key words views log lists v → Fits key words' views' log' lists' v
  still up marks_stay log_stays lists_grow v own_lists f = record {
    few = f.few;
    own = λ e h. log_stays e.number e (f.own e h);
    marks = f.marks;
    known = λ e h. log_stays e.number e (f.known e h);
    prefixes = λ k h. ((f.prefixes k h).0, lists_grow k.notes k.lane (f.prefixes k h).1);
    kept = λ k h. ((f.kept k h).0, (f.kept k h).1 ∙ sym (own_lists k h), (f.kept k h).2);
    reached = λ r h. let a = f.reached r h in let b = up r.word in omega arith;
    looks = λ l h. asked_more views views' marks_stay l.cpu l.class l.value (f.looks l h);
  }

-- all views fit after a change of one
pub each_set : (P : View → Type 0) (views : List View) (id : ℕ) (w : View) → P w → ((j : ℕ) (u : View) → j ≢ id → get_elem? views j ≡ some u → P u) →
    (j : ℕ) (u : View) → get_elem? (set views id w) j ≡ some u → P u
each_set P views id w mine others j u e = ⊎_elim (λ (t : (j ≡ id) × (w ≡ u)). subst P t.1 mine)
    (λ (t : (j ≢ id) × (get_elem? views j ≡ some u)). others j u t.0 t.1) (at_set views id j w u e)

-- no more numbers were drawn than the parts allow
pub log_bound : (key : Sizes) (words : List ℕ) (views : List View) (log : List Entry) (lists : List (List Note)) → Keeps key words views log lists →
    length log ≤ key.limit * key.parts
log_bound key words views log lists r =
    let ones = r.drawn_once (λ _. 1) in
    let few = sum_bounded (λ (v : View). sum_by (λ (e : Entry). 1) v.entries) (λ (v : View). v.parts) key.limit views
    (λ j v at. let n = (r.each j v at).few in let o = sum_ones v.entries in omega arith) in
    let all = ones_below (length log) in
    let p : key.limit * sum_by (λ (v : View). v.parts) views ≡ key.limit * key.parts = ap (λ (n : ℕ). key.limit * n) r.parts in
    omega arith

-- what is known of a word is at most what it holds
pub reach_below : (words : List ℕ) (w : ℕ) (rs : List Reached) → ((r : Reached) → Contains rs r → r.value ≤ get_or words r.word 0) →
    greatest w rs ≤ get_or words w 0
reach_below words w [] h = zero-le
reach_below words w (r ∷ rs) h =
    max-le (picked (ℕ_discrete r.word w)) (reach_below words w rs (λ u m. h u (in_rest r rs u m)))
  where
    picked : Dec (r.word ≡ w) → cond (eqb r.word w) r.value 0 ≤ get_or words w 0
    picked (yes e) = rw (eq-eqb r.word w e) (subst (λ (k : ℕ). r.value ≤ get_or words k 0) e (h r (in_first r rs)))
    picked (no ne) = rw (ne_eqb r.word w ne) zero-le

-- what was asked is no more than was drawn
pub asked_below : (key : Sizes) (words : List ℕ) (views : List View) (log : List Entry) (lists : List (List Note)) → Keeps key words views log lists →
    (p : CpuNo) (class a : ℕ) → IsAsked views p class a → a ≤ get_or words 0 0
asked_below key words views log lists r p class a h = ⊎_elim (λ (z : a ≡ 0). rw z zero-le)
    (λ s.
    let m = s.2 in
    let f = r.each m.0 m.1 m.2 in
    let e = f.marks (mark_of p class s.0) m.3 in
    let at = f.own e.0 e.1 in
    let below = get_below log e.0.number e.0 at in
    let steps = r.steps in
    let n = e.2 in
    let is = s.1 in
    omega arith) h

-- a draw of the next number keeps the rule, if the seat has drawn less than its parts allow
draw_keeps : (key : Sizes) (words : List ℕ) (views : List View) (log : List Entry) (lists : List (List Note)) (id : ℕ) (v : View) (e : Event) (ls : List ℕ)
    → length v.entries < key.limit * v.parts → get_elem? views id ≡ some v → Keeps key words views log lists
    → Keeps key (set words 0 (get_or words 0 0 + 1)) (set views id (drawn v (get_or words 0 0) e ls)) (log ++ entry (get_or words 0 0) e ls ∷ []) lists
draw_keeps key words views log lists id v e ls room at r =
    let n = get_or words 0 0 in
    let x = entry n e ls in
    let w = drawn v n e ls in
    let inside : 0 < length words = let a = r.wide in omega arith in
    let up = rises_at words 0 (n + 1) inside (omega arith) in
    let here : get_or (set words 0 (n + 1)) 0 0 ≡ n + 1 = get_or-set_same words 0 (n + 1) 0 inside in
    let marks_stay = marks_set views id v w at (λ t h. h) in
    let log_stays : (k : ℕ) (f : Entry) → get_elem? log k ≡ some f → get_elem? (log ++ x ∷ []) k ≡ some f = λ k f g. get_front log (x ∷ []) k f g in
    let len : length (log ++ x ∷ []) ≡ suc (length log) = omega (arith, length-append log (x ∷ [])) in
    let old = r.each id v at in
    let new_here : get_elem? (log ++ x ∷ []) n ≡ some x = at_last log x n (sym r.steps) in
    record {
      wide = length-set words 0 (n + 1) ∙ r.wide;
      small = r.small;
      steps = let s = r.steps in omega arith;
      drawn_once = λ h.
          let t = sum_changed (λ (u : View). sum_by (λ (f : Entry). h f.number) u.entries) views id v w at in
          let s = sum_by_push (λ (f : Entry). h f.number) v.entries x in
          let d = r.drawn_once h in
          let g : sum_below h (length (log ++ x ∷ [])) ≡ sum_below h (length log) + h (length log) = ap (sum_below h) len in
          let i : h n ≡ h (length log) = ap h r.steps in
          omega arith;
      parts = sum_same (λ (u : View). u.parts) views id v w at refl ∙ r.parts;
      kept_once = λ h. sum_same (λ (u : View). sum_by (λ (k : LaneList). h k.lane) u.kept) views id v w at refl ∙ r.kept_once h;
      lane_words = λ y l. get_or-set_other words 0 (lane_word key.cpus y) (n + 1) 0 (omega arith) ∙ r.lane_words y l;
      all_lists = r.all_lists;
      rise = r.rise;
      of_entries = λ y m l h. let o = r.of_entries y m l h in (o.0, log_stays o.0.number o.0 o.1, o.2, o.3);
      asked = λ p class c d. subst (λ (a : ℕ). IsAsked (set views id w) p class a)
          (sym (get_or-set_other words 0 (request_word p class) (n + 1) 0 (omega arith)))
          (asked_more views (set views id w) marks_stay p class (get_or words (request_word p class) 0) (r.asked p class c d));
      each = each_set (Fits key (set words 0 (n + 1)) (set views id w) (log ++ x ∷ []) lists) views id w
          record {
            few = let a = length-append v.entries (x ∷ []) in omega arith;
            own = λ f h. ⊎_elim (λ p. log_stays f.number f (old.own f p))
                (λ (is : x ≡ f). subst (λ (z : Entry). get_elem? (log ++ x ∷ []) z.number ≡ some z) is new_here) (Contains-push_cases v.entries x f h);
            marks = λ t h. let o = old.marks t h in (o.0, Contains-append_left v.entries (x ∷ []) o.0 o.1, o.2);
            known = λ f h. log_stays f.number f (old.known f h);
            prefixes = old.prefixes;
            kept = old.kept;
            reached = λ t h. ⊎_elim (λ p. let a = old.reached t p in let b = up t.word in omega arith)
                (λ (is : reached_at step_word (n + 1) ≡ t). subst (λ (z : Reached). z.value ≤ get_or (set words 0 (n + 1)) z.word 0) is (omega arith))
                (Contains-push_cases v.reached (reached_at step_word (n + 1)) t h);
            looks = λ l h. asked_more views (set views id w) marks_stay l.cpu l.class l.value (old.looks l h);
          }
          (λ j u apart g. still key words (set words 0 (n + 1)) views (set views id w) log (log ++ x ∷ []) lists lists up marks_stay log_stays (λ l y b. b) u
          (λ k h. refl) (r.each j u g));
    }

-- a seat with room for an entry may count the step word up and take its number, and the rule stays
pub draws : {S : Type 0} (key : Sizes) (slots id : ℕ) (me : Me S View) (e : Event) (ls : List ℕ) (most : ℕ) → length me.0.entries < key.limit * me.0.parts →
    most ≡ key.limit * key.parts
    → Allows (Holds {S = S} key) slots id me 0 (λ n. (n + 1) % 18446744073709551616) (λ n m'. Draws e ls most me n m')
draws key slots id me e ls most room is s h count at small =
    let n = get_or s.words 0 0 in
    let x = entry n e ls in
    let w = drawn me.0 n e ls in
    let r = h.2 in
    let bound = log_bound key s.words s.views h.0 h.1 r in
    let no_wrap : (n + 1) % 18446744073709551616 ≡ n + 1 = let a = r.steps in let b = r.small in omega arith in
    let kept = draw_keeps key s.words s.views h.0 h.1 id me.0 e ls room at r in
    let mine = r.each id me.0 at in
    let looks_below : (l : Look) → Contains me.0.looks l →
    l.value ≤ n = λ l has. asked_below key s.words s.views h.0 h.1 r l.cpu l.class l.value (mine.looks l has) in (
      w,
      keeps,
      tt,
      (h.0 ++ x ∷ [], h.1, subst (λ (k : ℕ). Keeps key (set s.words 0 k) (set s.views id w) (h.0 ++ x ∷ []) h.1) (sym no_wrap) kept),
      (
        refl,
        refl,
        reach_below s.words 0 me.0.reached mine.reached,
        (λ k d lt. looks_below (get_or me.0.looks k d) (Contains-get_or me.0.looks k d lt)),
        (let a = log_bound key _ _ _ _ kept in let b = r.steps in let c = length-append h.0 (x ∷ []) in omega arith),
      ),
    )
