-- A mark and a look keep the rule.
use Rattle.std.proofs.Common.{◌≡◌, ℕ, ◌+◌, ◌%◌, ◌<◌, ◌≤◌, List, [], ◌∷◌, length, get_or, set, refl, sym, ap, ◌∙◌, subst, inr, ⊎_elim, arith, length-set}
use Rattle.std.proofs.Common.{get_or-set_other, get_or-set_same, max, Contains, sum_by}
use Rattle.std.proofs.lemmas.List.Elements.{Contains-append_left, Contains-append_cases, Contains-push, Contains-push_cases}
use mathlib.Core.Logic.{dite}
use mathlib.Core.Option.{some}
use native.Mathlib.Decide.{ℕ_discrete}
use lib.ListN.{get_elem?}
use Rattle.atomic_table.specs.Table.{Me, keeps, Allows}
use Rattle.nt_event.specs.declared.numbers.CpuNo.{CpuNo}
use Rattle.nt_mark.specs.declared.view.Entry.{Entry}
use Rattle.nt_mark.specs.declared.view.Mark.{Mark}
use Rattle.nt_mark.specs.declared.view.Look.{Look}
use Rattle.nt_mark.specs.declared.view.Note.{Note}
use Rattle.nt_mark.specs.declared.view.LaneList.{LaneList}
use Rattle.nt_mark.specs.declared.view.Reached.{Reached}
use Rattle.nt_mark.specs.declared.view.View.{View}
use Rattle.nt_mark.specs.declared.view.Sizes.{Sizes}
use Rattle.nt_mark.specs.Views.{step_word, request_word, lane_word, mark_of, look_of, reached_at, marked, looked}
use Rattle.nt_mark.specs.Rule.{IsMarked, IsAsked, Fits, Keeps, Holds, Marks, Looks}
use Rattle.nt_mark.proofs.Sums.{first_or_rest, only, sum_same, rises_at, there, get_below}
use Rattle.nt_mark.proofs.Drawing.{asked_below, marks_set, asked_more, still, each_set, log_bound, reach_below}

-- the word tells the processor
same_cpu : (p q : CpuNo) (c d : ℕ) → c ≤ 15 → d ≤ 15 → request_word p c ≡ request_word q d → p ≡ q
same_cpu p q c d hc hd e = let n : p.0 ≡ q.0 = omega arith in ap (λ (k : ℕ). let x : CpuNo = record { 0 = k } in x) n

module _ (key : Sizes) (words : List ℕ) (views : List View) (log : List Entry) (lists : List (List Note)) (id : ℕ) (v w : View) (p : CpuNo) (class n : ℕ)
    (at : get_elem? views id ≡ some v) (r : Keeps key words views log lists) (inside_cpus : p.0 < key.cpus) (inside_classes : class ≤ 15)
    (more : get_or words (request_word p class) 0 ≤ n) where
  -- a request word goes up, and the seat's parts, entries and lanes stay
  word_keeps : w.parts ≡ v.parts → w.entries ≡ v.entries → w.kept ≡ v.kept → ((m : Mark) → Contains v.marks m → Contains w.marks m) →
      IsAsked (set views id w) p class n
      → Fits key (set words (request_word p class) n) (set views id w) log lists w → Keeps key (set words (request_word p class) n) (set views id w) log lists
  word_keeps parts entries kept marks asked fits =
      let i = request_word p class in
      let inside : i < length words = let a = r.wide in omega arith in
      let up = rises_at words i n inside more in
      let marks_stay = marks_set views id v w at marks in
      record {
        wide = length-set words i n ∙ r.wide;
        small = r.small;
        steps = get_or-set_other words i step_word n 0 (omega arith) ∙ r.steps;
        drawn_once = λ h. sum_same (λ (u : View). sum_by (λ (f : Entry). h f.number) u.entries) views id v w at
            (ap (sum_by (λ (f : Entry). h f.number)) entries) ∙ r.drawn_once h;
        parts = sum_same (λ (u : View). u.parts) views id v w at parts ∙ r.parts;
        kept_once = λ h. sum_same (λ (u : View). sum_by (λ (k : LaneList). h k.lane) u.kept) views id v w at (ap (sum_by (λ (k : LaneList). h k.lane)) kept)
            ∙ r.kept_once h;
        lane_words = λ y l. get_or-set_other words i (lane_word key.cpus y) n 0 (omega arith) ∙ r.lane_words y l;
        all_lists = r.all_lists;
        rise = r.rise;
        of_entries = r.of_entries;
        asked = λ q d hq hd. dite (ℕ_discrete (request_word q d) i)
            (λ e.
            let cpu = same_cpu p q class d inside_classes hd (sym e) in
            let cpu_number : p.0 ≡ q.0 = ap (λ (x : CpuNo). x.0) cpu in
            let its_class : class ≡ d = omega arith in
            subst (λ (a : ℕ). IsAsked (set views id w) q d a) (sym (ap (λ (k : ℕ). get_or (set words i n) k 0) e ∙ get_or-set_same words i n 0 inside))
            (subst (λ (c : ℕ). IsAsked (set views id w) q c n) its_class (subst (λ (x : CpuNo). IsAsked (set views id w) x class n) cpu asked)))
            (λ other. subst (λ (a : ℕ). IsAsked (set views id w) q d a) (sym (get_or-set_other words i (request_word q d) n 0 other))
            (asked_more views (set views id w) marks_stay q d (get_or words (request_word q d) 0) (r.asked q d hq hd)));
        each = each_set (Fits key (set words i n) (set views id w) log lists) views id w fits
            (λ j u apart g. still key words (set words i n) views (set views id w) log log lists lists up marks_stay (λ k f x. x) (λ l y b. b) u (λ k h. refl)
            (r.each j u g));
      }

-- a mark of an entry that the seat drew keeps the rule, if its processor and class are in range
mark_keeps : (key : Sizes) (words : List ℕ) (views : List View) (log : List Entry) (lists : List (List Note)) (id : ℕ) (v : View) (p : CpuNo) (class n : ℕ) →
    get_elem? views id ≡ some v
    → Keeps key words views log lists → p.0 < key.cpus → class ≤ 15 → ((e : Entry) × Contains v.entries e × (e.number ≡ n))
    → Keeps key (set words (request_word p class) (max (get_or words (request_word p class) 0) (n + 1))) (set views id (marked v p class n)) log lists
mark_keeps key words views log lists id v p class n at r inside_cpus inside_classes drew =
    let i = request_word p class in
    let w = marked v p class n in
    let m = mark_of p class n in
    let a = get_or words i 0 in
    let b = max a (n + 1) in
    let more : a ≤ b = omega arith in
    let inside : i < length words = let k = r.wide in omega arith in
    let here : get_or (set words i b) i 0 ≡ b = get_or-set_same words i b 0 inside in
    let up = rises_at words i b inside more in
    let old = r.each id v at in
    let keeps_marks : (t : Mark) → Contains v.marks t → Contains w.marks t = λ t h. Contains-append_left v.marks (m ∷ []) t h in
    let marks_stay = marks_set views id v w at keeps_marks in
    let mine : IsMarked (set views id w) m = (id, w, there views id v w at, Contains-push v.marks m) in
    word_keeps key words views log lists id v w p class b at r inside_cpus inside_classes more refl refl refl keeps_marks
    (greater (λ (k : ℕ). IsAsked (set views id w) p class k) a (n + 1)
    (asked_more views (set views id w) marks_stay p class a (r.asked p class inside_cpus inside_classes)) (inr (n, refl, mine)))
    record {
      few = old.few;
      own = old.own;
      marks = λ t h. ⊎_elim (λ q. old.marks t q) (λ (is : m ≡ t). (drew.0, drew.1, drew.2 ∙ ap (λ (z : Mark). z.number) is))
          (Contains-push_cases v.marks m t h);
      known = old.known;
      prefixes = old.prefixes;
      kept = old.kept;
      reached = λ t h. ⊎_elim (λ q. let x = old.reached t q in let y = up t.word in omega arith)
          (λ (is : reached_at i (n + 1) ≡ t). subst (λ (z : Reached). z.value ≤ get_or (set words i b) z.word 0) is (omega arith))
          (Contains-push_cases v.reached (reached_at i (n + 1)) t h);
      looks = λ l h. asked_more views (set views id w) marks_stay l.cpu l.class l.value (old.looks l h);
    }
  where
    greater : (P : ℕ → Type 0) (x y : ℕ) → P x → P y → P (max x y)
    greater P x y px py = dite (ℕ_discrete (max x y) x) (λ e. subst P (sym e) px) (λ ne. let e : max x y ≡ y = omega arith in subst P (sym e) py)

-- a seat with an entry of a number may raise a request word to one more than it and mark it, and the rule stays
pub marking : {S : Type 0} (key : Sizes) (slots id : ℕ) (me : Me S View) (p : CpuNo) (class n i k : ℕ) → i ≡ request_word p class → k
    ≡ (n + 1) % 18446744073709551616 → p.0 < key.cpus → class ≤ 15
    → ((e : Entry) × Contains me.0.entries e × (e.number ≡ n))
    → Allows (Holds {S = S} key) slots id me i (λ a. max a k) (λ a m'. Marks p class n me m')
marking key slots id me p class n i k at_word is inside_cpus inside_classes drew s h count at small =
    let r = h.2 in
    let w = marked me.0 p class n in
    let bound = log_bound key s.words s.views h.0 h.1 r in
    let e = drew.0 in
    let below = get_below h.0 e.number e ((r.each id me.0 at).own e drew.1) in
    let number = drew.2 in
    let no_wrap : k ≡ n + 1 = let b = r.small in omega arith in
    let kept = mark_keeps key s.words s.views h.0 h.1 id me.0 p class n at r inside_cpus inside_classes drew in (
      w,
      keeps,
      tt,
      (
        h.0,
        h.1,
        subst (λ (j : ℕ). Keeps key (set s.words j (max (get_or s.words j 0) k)) (set s.views id w) h.0 h.1) (sym at_word)
            (subst (λ (m : ℕ). Keeps key (set s.words (request_word p class) (max (get_or s.words (request_word p class) 0) m)) (set s.views id w) h.0 h.1)
            (sym no_wrap) kept),
      ),
      (refl, refl),
    )

-- a look at the request word of a processor and class in range keeps the rule
look_keeps : (key : Sizes) (words : List ℕ) (views : List View) (log : List Entry) (lists : List (List Note)) (id : ℕ) (v : View) (p : CpuNo) (class : ℕ) →
    get_elem? views id ≡ some v
    → Keeps key words views log lists → p.0 < key.cpus → class ≤ 15
    → let i = request_word p class in Keeps key (set words i (get_or words i 0)) (set views id (looked v p class (get_or words i 0))) log lists
look_keeps key words views log lists id v p class at r inside_cpus inside_classes =
    let i = request_word p class in
    let a = get_or words i 0 in
    let w = looked v p class a in
    let inside : i < length words = let k = r.wide in omega arith in
    let here : get_or (set words i a) i 0 ≡ a = get_or-set_same words i a 0 inside in
    let steps_here : get_or (set words i a) 0 0 ≡ get_or words 0 0 = get_or-set_other words i 0 a 0 (omega arith) in
    let up = rises_at words i a inside (omega arith) in
    let old = r.each id v at in
    let marks_stay = marks_set views id v w at (λ t h. h) in
    let drawn = asked_below key words views log lists r p class a (r.asked p class inside_cpus inside_classes) in
    let asked = asked_more views (set views id w) marks_stay p class a (r.asked p class inside_cpus inside_classes) in
    word_keeps key words views log lists id v w p class a at r inside_cpus inside_classes (omega arith) refl refl refl (λ t h. h) asked record {
      few = old.few;
      own = old.own;
      marks = old.marks;
      known = old.known;
      prefixes = old.prefixes;
      kept = old.kept;
      reached = λ t h. ⊎_elim (λ q. let x = old.reached t q in let y = up t.word in omega arith)
          (λ q. ⊎_elim (λ (is : t ≡ reached_at i a). subst (λ (z : Reached). z.value ≤ get_or (set words i a) z.word 0) (sym is) (omega arith))
          (λ q2. subst (λ (z : Reached). z.value ≤ get_or (set words i a) z.word 0) (sym (only (reached_at step_word a) t q2)) (omega arith))
          (first_or_rest (reached_at i a) (reached_at step_word a ∷ []) t q))
          (Contains-append_cases v.reached (reached_at i a ∷ reached_at step_word a ∷ []) t h);
      looks = λ l h. ⊎_elim (λ q. asked_more views (set views id w) marks_stay l.cpu l.class l.value (old.looks l q))
          (λ (is : look_of p class a ≡ l). subst (λ (z : Look). IsAsked (set views id w) z.cpu z.class z.value) is asked)
          (Contains-push_cases v.looks (look_of p class a) l h);
    }

-- loading a request word and adding the look to the seat keeps the rule of the table
pub looking : {S : Type 0} (key : Sizes) (slots id : ℕ) (me : Me S View) (p : CpuNo) (class i : ℕ) → i ≡ request_word p class → p.0 < key.cpus → class ≤ 15
    → Allows (Holds {S = S} key) slots id me i (λ a. a) (λ a m'. Looks p class me a m')
looking key slots id me p class i at_word inside_cpus inside_classes s h count at small =
    let r = h.2 in
    let j = request_word p class in
    let a = get_or s.words i 0 in
    let is_a : get_or s.words j 0 ≡ a = ap (λ (x : ℕ). get_or s.words x 0) (sym at_word) in
    let kept = look_keeps key s.words s.views h.0 h.1 id me.0 p class at r inside_cpus inside_classes in (
      looked me.0 p class a,
      keeps,
      tt,
      (
        h.0,
        h.1,
        subst (λ (x : ℕ). Keeps key (set s.words x a) (set s.views id (looked me.0 p class a)) h.0 h.1) (sym at_word)
            (subst (λ (b : ℕ). Keeps key (set s.words j b) (set s.views id (looked me.0 p class b)) h.0 h.1) is_a kept),
      ),
      (refl, refl, (let b = reach_below s.words j me.0.reached (r.each id me.0 at).reached in omega arith)),
    )
