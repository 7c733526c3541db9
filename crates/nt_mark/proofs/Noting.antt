-- A note keeps the rule.
use Rattle.std.proofs.Common.{◌≡◌, ◌≢◌, ℕ, zero, suc, ◌+◌, ◌-◌, ◌%◌, ◌<◌, ◌≤◌, List, [], ◌∷◌, ◌++◌, length, get_or, set, refl, sym, ap, ◌∙◌, subst, ⊎_elim}
use Rattle.std.proofs.Common.{arith, length-append, length-set, get_or-set_other, get_or-set_same, append_assoc, zero-le, map, Contains, sum_by}
use Rattle.std.proofs.lemmas.List.Elements.{Contains-push_cases, Contains-append_cases}
use Rattle.std.proofs.lemmas.List.{get_or_append_left, get_or_push, length-map}
use Rattle.std.specs.List.Sorted.{IsStrictlyIncreasing}
use mathlib.Core.Logic.{dite}
use mathlib.Core.List.{map-append}
use mathlib.Core.Option.{some}
use native.Mathlib.Decide.{ℕ_discrete}
use lib.ListN.{get_elem?}
use Rattle.atomic_table.specs.Table.{Me, keeps, Allows}
use Rattle.nt_mark.specs.declared.view.Entry.{Entry}
use Rattle.nt_mark.specs.declared.view.Note.{Note}
use Rattle.nt_mark.specs.declared.view.LaneList.{LaneList}
use Rattle.nt_mark.specs.declared.view.View.{View}
use Rattle.nt_mark.specs.declared.view.Sizes.{Sizes}
use Rattle.nt_mark.specs.Views.{step_word, request_word, lane_word, known_entries, noted, noted_at, note_numbers, first_notes}
use Rattle.nt_mark.specs.Rule.{IsAsked, IsBeginning, Fits, Keeps, Holds, Notes, IsAbove}
use Rattle.nt_mark.proofs.Sums.{in_first, in_rest, only, sum_same, sum_has, sum_two, rises_at, get_below, at_one, at_one_here, one_below}
use Rattle.nt_mark.proofs.Drawing.{marks_set, asked_more, still, each_set, log_bound}

-- a lane that one view keeps is kept by no other
pub kept_apart : (key : Sizes) (words : List ℕ) (views : List View) (log : List Entry) (lists : List (List Note)) → Keeps key words views log lists
    → (i j : ℕ) (v w : View) → get_elem? views i ≡ some v → get_elem? views j ≡ some w → i ≢ j → (k m : LaneList) → Contains v.kept k → Contains w.kept m →
    k.lane ≢ m.lane
kept_apart key words views log lists r i j v w e g ne k m hk hm same =
    let x = k.lane in
    let f : View → ℕ = λ u. sum_by (λ (q : LaneList). at_one x q.lane) u.kept in
    let two = sum_two f views i j v w e g ne in
    let all = r.kept_once (at_one x) in
    let most = one_below x key.lanes in
    let one = sum_has (λ (q : LaneList). at_one x q.lane) v.kept k hk in
    let other = sum_has (λ (q : LaneList). at_one x q.lane) w.kept m hm in
    let a = at_one_here x in
    let b : at_one x m.lane ≡ at_one x x = ap (at_one x) (sym same) in
    absurd (omega arith)

-- the last number noted in a list is below each number that may be noted next
last_below : (n : ℕ) (xs : List Note) → IsAbove n xs → 0 < length xs → get_or (note_numbers xs) (length xs - 1) 0 < n
last_below n [] a h = absurd (omega arith)
last_below n (x ∷ []) a h = a
last_below n (x ∷ y ∷ ys) a h =
    let b = last_below n (y ∷ ys) a (omega arith) in
    let e : length (x ∷ y ∷ ys) - 1 ≡ suc (length (y ∷ ys) - 1) = omega arith in
    subst (λ (k : ℕ). get_or (note_numbers (x ∷ y ∷ ys)) k 0 < n) (sym e) b

-- a number above the last note of a list stays above it if it grows
pub IsAbove-le : (m n : ℕ) (xs : List Note) → IsAbove m xs → m ≤ n → IsAbove n xs
IsAbove-le m n [] a h = tt
IsAbove-le m n (x ∷ []) a h = omega arith
IsAbove-le m n (x ∷ y ∷ ys) a h = IsAbove-le m n (y ∷ ys) a h

-- a number above the last note is above a list that ends with a note of a smaller number
pub IsAbove-push : (n : ℕ) (xs : List Note) (x : Note) → x.number < n → IsAbove n (xs ++ x ∷ [])
IsAbove-push n [] x h = h
IsAbove-push n (y ∷ []) x h = h
IsAbove-push n (y ∷ z ∷ zs) x h = IsAbove-push n (z ∷ zs) x h

-- rising note numbers still rise after a note above the last one is added
rises_push : (xs : List Note) (x : Note) → IsStrictlyIncreasing (note_numbers xs) → IsAbove x.number xs → IsStrictlyIncreasing (note_numbers (xs ++ x ∷ []))
rises_push xs x r a = subst IsStrictlyIncreasing (sym (map-append (λ (n : Note). n.number) xs (x ∷ []))) pushed
  where
    pushed : IsStrictlyIncreasing (note_numbers xs ++ x.number ∷ [])
    pushed k lt =
        let ns = note_numbers xs in
        let long = length-append ns (x.number ∷ []) in
        let same = length-map xs (λ (n : Note). n.number) in
        let here = get_or_append_left ns (x.number ∷ []) 0 k (omega arith) in
        dite (ℕ_discrete (k + 1) (length ns))
        (λ e.
        let last = get_or_push ns x.number 0 (k + 1) (sym e) in
        let b = last_below x.number xs a (omega arith) in
        let at : length xs - 1 ≡ k = omega arith in
        let c : get_or ns (length xs - 1) 0 ≡ get_or ns k 0 = ap (λ (i : ℕ). get_or ns i 0) at in
        omega arith)
        (λ ne. let b = r k (omega arith) in let next = get_or_append_left ns (x.number ∷ []) 0 (k + 1) (omega arith) in omega arith)

-- a strictly increasing list of numbers has at each place a number at least as great as the place
climbs : (xs : List ℕ) → IsStrictlyIncreasing xs → (k : ℕ) → k < length xs → k ≤ get_or xs k 0
climbs xs r zero lt = zero-le
climbs xs r (suc k) lt =
    let a = climbs xs r k (omega arith) in
    let b = r k (omega arith) in
    let e : k + 1 ≡ suc k = omega arith in
    let c : get_or xs (k + 1) 0 ≡ get_or xs (suc k) 0 = ap (λ (i : ℕ). get_or xs i 0) e in
    omega arith

-- the number at each place of a list of notes is that of a note in it
note_at : (xs : List Note) (k : ℕ) → k < length xs → (y : Note) × Contains xs y × (y.number ≡ get_or (note_numbers xs) k 0)
note_at [] k lt = absurd (omega arith)
note_at (x ∷ xs) zero lt = (x, in_first x xs, refl)
note_at (x ∷ xs) (suc k) lt = let r = note_at xs k (omega arith) in (r.0, in_rest x xs r.0 r.1, r.2)

-- a list is no longer than the numbers drawn
list_bound : (xs : List Note) (n : ℕ) → IsStrictlyIncreasing (note_numbers xs) → ((y : Note) → Contains xs y → y.number < n) → length xs ≤ n
list_bound [] n r h = zero-le
list_bound (x ∷ xs) n r h =
    let same = length-map (x ∷ xs) (λ (n : Note). n.number) in
    let a = climbs (note_numbers (x ∷ xs)) r (length xs) (omega arith) in
    let y = note_at (x ∷ xs) (length xs) (omega arith) in
    let b = h y.0 y.1 in
    let c = y.2 in
    omega arith

-- a note of a known entry keeps the rule, if its number is above those on the lane's list
note_keeps : (key : Sizes) (words : List ℕ) (views : List View) (log : List Entry) (lists : List (List Note)) (id : ℕ) (v : View) (k : LaneList) (x : Note) →
    get_elem? views id ≡ some v
    → Keeps key words views log lists → v.kept ≡ k ∷ [] → IsAbove x.number k.notes →
    ((e : Entry) × Contains (known_entries v) e × (e.number ≡ x.number) × Contains e.lanes k.lane)
    → let i = lane_word key.cpus k.lane in Keeps key (set words i (get_or words i 0 + 1)) (set views id (noted v x)) log (set lists k.lane (k.notes ++ x ∷ []))
note_keeps key words views log lists id v k x at r keeps_one above drew =
    let i = lane_word key.cpus k.lane in
    let n = get_or words i 0 + 1 in
    let w = noted v x in
    let k2 : LaneList = record { lane = k.lane; word = k.word; notes = k.notes ++ x ∷ [] } in
    let lists2 = set lists k.lane (k.notes ++ x ∷ []) in
    let mine_kept : w.kept ≡ k2 ∷ [] = ap (λ (ks : List LaneList). noted_at ks x) keeps_one in
    let old = r.each id v at in
    let has_k : Contains v.kept k = subst (λ (ks : List LaneList). Contains ks k) (sym keeps_one) (in_first k []) in
    let kept_k = old.kept k has_k in
    let in_log = ⊎_elim (λ a. old.known drew.0 a) (λ a. old.own drew.0 a) (Contains-append_cases v.known v.entries drew.0 drew.1) in
    let inside : i < length words = let a = r.wide in let b = kept_k.0 in omega arith in
    let in_lists : k.lane < length lists = let a = r.all_lists in let b = kept_k.0 in omega arith in
    let up = rises_at words i n inside (omega arith) in
    let marks_stay = marks_set views id v w at (λ t h. h) in
    let here : get_or lists2 k.lane [] ≡ k.notes ++ x ∷ [] = get_or-set_same lists k.lane (k.notes ++ x ∷ []) [] in_lists in
    let grow : (l : List Note) (y : ℕ) → IsBeginning l (get_or lists y []) → IsBeginning l (get_or lists2 y []) = λ l y b. dite (ℕ_discrete y k.lane)
    (λ e. subst (λ (q : ℕ). IsBeginning l (get_or lists2 q [])) (sym e)
    (let c : get_or lists k.lane [] ≡ l ++ b.0 = subst (λ (q : ℕ). get_or lists q [] ≡ l ++ b.0) e b.1 in
    (b.0 ++ x ∷ [], here ∙ (ap (λ (q : List Note). q ++ x ∷ []) (kept_k.1 ∙ c) ∙ append_assoc l b.0 (x ∷ [])))))
    (λ ne. (b.0, get_or-set_other lists k.lane y (k.notes ++ x ∷ []) [] ne ∙ b.1)) in
    let sums : (h : ℕ → ℕ) → sum_by (λ (q : LaneList). h q.lane) w.kept ≡ sum_by (λ (q : LaneList). h q.lane) v.kept
    = λ h. ap (sum_by (λ (q : LaneList). h q.lane)) mine_kept ∙ sym (ap (sum_by (λ (q : LaneList). h q.lane)) keeps_one) in
    record {
      wide = length-set words i n ∙ r.wide;
      small = r.small;
      steps = get_or-set_other words i step_word n 0 (omega arith) ∙ r.steps;
      drawn_once = λ h. sum_same (λ (u : View). sum_by (λ (f : Entry). h f.number) u.entries) views id v w at refl ∙ r.drawn_once h;
      parts = sum_same (λ (u : View). u.parts) views id v w at refl ∙ r.parts;
      kept_once = λ h. sum_same (λ (u : View). sum_by (λ (q : LaneList). h q.lane) u.kept) views id v w at (sums h) ∙ r.kept_once h;
      lane_words = λ y l. dite (ℕ_discrete y k.lane)
          (λ e. subst (λ (q : ℕ). get_or (set words i n) (lane_word key.cpus q) 0 ≡ length (get_or lists2 q [])) (sym e)
          (get_or-set_same words i n 0 inside ∙ (let a = r.lane_words k.lane kept_k.0 in let b = length-append k.notes (x ∷ []) in
          let c : length (get_or lists k.lane []) ≡ length k.notes = ap length (sym kept_k.1) in let d : length (get_or lists2 k.lane [])
          ≡ length (k.notes ++ x ∷ []) = ap length here in omega arith)))
          (λ ne. get_or-set_other words i (lane_word key.cpus y) n 0 (λ e. ne (omega arith))
          ∙ (r.lane_words y l ∙ ap length (sym (get_or-set_other lists k.lane y (k.notes ++ x ∷ []) [] ne))));
      all_lists = length-set lists k.lane (k.notes ++ x ∷ []) ∙ r.all_lists;
      rise = λ y l. dite (ℕ_discrete y k.lane)
          (λ e. subst (λ (q : ℕ). IsStrictlyIncreasing (note_numbers (get_or lists2 q []))) (sym e)
          (subst (λ (q : List Note). IsStrictlyIncreasing (note_numbers q)) (sym here)
          (rises_push k.notes x (subst (λ (q : List Note). IsStrictlyIncreasing (note_numbers q)) (sym kept_k.1) (r.rise k.lane kept_k.0)) above)))
          (λ ne. subst (λ (q : List Note). IsStrictlyIncreasing (note_numbers q)) (sym (get_or-set_other lists k.lane y (k.notes ++ x ∷ []) [] ne))
          (r.rise y l));
      of_entries = λ y m l h. dite (ℕ_discrete y k.lane)
          (λ e.
          let h2 : Contains (k.notes ++ x ∷ []) m = subst (λ (q : List Note). Contains q m) here (subst (λ (q : ℕ). Contains (get_or lists2 q []) m) e h) in
          ⊎_elim (λ a. r.of_entries y m l (subst (λ (q : ℕ). Contains (get_or lists q []) m) (sym e) (subst (λ (q : List Note). Contains q m) kept_k.1 a)))
          (λ (is : x ≡ m). (drew.0, in_log, drew.2 ∙ ap (λ (q : Note). q.number) is, subst (λ (q : ℕ). Contains drew.0.lanes q) (sym e) drew.3))
          (Contains-push_cases k.notes x m h2))
          (λ ne. r.of_entries y m l (subst (λ (q : List Note). Contains q m) (get_or-set_other lists k.lane y (k.notes ++ x ∷ []) [] ne) h));
      asked = λ p class c d. subst (λ (a : ℕ). IsAsked (set views id w) p class a) (sym (get_or-set_other words i (request_word p class) n 0 (omega arith)))
          (asked_more views (set views id w) marks_stay p class (get_or words (request_word p class) 0) (r.asked p class c d));
      each = each_set (Fits key (set words i n) (set views id w) log lists2) views id w
          record {
            few = old.few;
            own = old.own;
            marks = old.marks;
            known = old.known;
            prefixes = λ q h. ((old.prefixes q h).0, grow q.notes q.lane (old.prefixes q h).1);
            kept = λ q h. subst (λ (z : LaneList). (z.lane < key.lanes) × (z.notes ≡ get_or lists2 z.lane []) × (z.word ≡ lane_word key.cpus z.lane))
                (sym (only k2 q (subst (λ (ks : List LaneList). Contains ks q) mine_kept h))) (kept_k.0, sym here, kept_k.2);
            reached = λ t h. let a = old.reached t h in let b = up t.word in omega arith;
            looks = λ l h. asked_more views (set views id w) marks_stay l.cpu l.class l.value (old.looks l h);
          }
          (λ j u apart g. still key words (set words i n) views (set views id w) log log lists lists2 up marks_stay (λ q f z. z) grow u
          (λ q h. get_or-set_other lists k.lane q.lane (k.notes ++ x ∷ []) [] (kept_apart key words views log lists r j id u v g at apart q k h has_k))
          (r.each j u g));
    }

-- the one list that is kept, by its lane and its word
pub kept_of : (ks : List LaneList) (x y : ℕ) → map (λ (k : LaneList). k.lane) ks ≡ x ∷ [] → map (λ (k : LaneList). k.word) ks ≡ y ∷ [] → (k : LaneList) ×
    (ks ≡ k ∷ []) × (k.lane ≡ x) × (k.word ≡ y)
kept_of [] x y e f = absurd (cc)
kept_of (k ∷ []) x y e f = (k, refl, cc, cc)
kept_of (k ∷ m ∷ ks) x y e f = absurd (cc)

-- a keeper of one lane may note an entry that it knows, if it is of that lane and above the last note
pub noting : {S : Type 0} (key : Sizes) (slots id : ℕ) (me : Me S View) (k : LaneList) (x : Note) (i : ℕ) → i ≡ k.word → me.0.kept ≡ k ∷ [] →
    IsAbove x.number k.notes
    → ((e : Entry) × Contains (known_entries me.0) e × (e.number ≡ x.number) × Contains e.lanes k.lane)
    → Allows (Holds {S = S} key) slots id me i (λ n. (n + 1) % 18446744073709551616) (λ n m'. Notes x me n m')
noting key slots id me k x i is_word keeps_one above drew s h count at small =
    let r = h.2 in
    let w = noted me.0 x in
    let i2 = lane_word key.cpus k.lane in
    let has_k : Contains me.0.kept k = subst (λ (ks : List LaneList). Contains ks k) (sym keeps_one) (in_first k []) in
    let kept_k = (r.each id me.0 at).kept k has_k in
    let is : i ≡ i2 = is_word ∙ kept_k.2 in
    let word = r.lane_words k.lane kept_k.0 in
    let same : length (get_or h.1 k.lane []) ≡ length k.notes = ap length (sym kept_k.1) in
    let bound = log_bound key s.words s.views h.0 h.1 r in
    let long = list_bound (get_or h.1 k.lane []) (length h.0) (r.rise k.lane kept_k.0)
    (λ y m. let o = r.of_entries k.lane y kept_k.0 m in let b = get_below h.0 o.0.number o.0 o.1 in let c = o.2 in omega arith) in
    let n = get_or s.words i 0 in
    let here : n ≡ get_or s.words i2 0 = ap (λ (j : ℕ). get_or s.words j 0) is in
    let no_wrap : (n + 1) % 18446744073709551616 ≡ get_or s.words i2 0 + 1 = let b = r.small in omega arith in
    let lists2 = set h.1 k.lane (k.notes ++ x ∷ []) in
    let kept = note_keeps key s.words s.views h.0 h.1 id me.0 k x at r keeps_one above drew in
    let first : length (first_notes me.0.kept) ≡ length k.notes = ap (λ (ks : List LaneList). length (first_notes ks)) keeps_one in (
      w,
      keeps,
      tt,
      (
        h.0,
        lists2,
        subst (λ (m : ℕ). Keeps key (set s.words i m) (set s.views id w) h.0 lists2) (sym no_wrap)
            (subst (λ (j : ℕ). Keeps key (set s.words j (get_or s.words i2 0 + 1)) (set s.views id w) h.0 lists2) (sym is) kept),
      ),
      (refl, refl, omega arith),
    )
