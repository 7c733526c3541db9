-- A text that is cut before one of its lines.
use Rattle.std.proofs.Common.{◌≡◌, ℕ, suc, ◌+◌, ◌≤◌, Bool, true, false, cond, List, [], ◌∷◌, ◌++◌, length, take, drop, map, Option, Some, None, refl, sym, ◌∙◌}
use Rattle.std.proofs.Common.{ap, subst, append_assoc, arith}
use Rattle.std.specs.Prelude.{◌||◌, ◌==◌, All, IfSome, IfNone, option_map}
use Rattle.std.specs.List.{list_any, onto_first, join_with_byte, flat_map, AllByRecursion}
use Rattle.std.proofs.Math.Seq.{take-append_seam, drop-append_seam}
use Rattle.std.proofs.lemmas.Bool.{or_from}
use Rattle.std.proofs.lemmas.Grind.{flat_map-append}
use Rattle.std.proofs.lemmas.List.{append-nil, length-append, map-append}
use Rattle.std.proofs.lemmas.List.Folds.{list_any-append}
use Rattle.std.proofs.lemmas.List.Splits.{slice_split_none, slice_split_at, join_with_byte-slice_split}
use Rattle.nt_text.specs.Lines.{is_byte, parts, lines, lines_of_parts}
use Rattle.nt_text.proofs.Cuts.{more_lines}
use Rattle.nt_script.specs.declared.splitting.Split.{Split}
use Rattle.nt_script.specs.Splitting.{begins, first_begins, split_from, Splits}
use Rattle.nt_script.proofs.Printed.{all_at}

-- ---- how many bytes lines have with their ends

abbrev pub bytes_of : List (List ℕ × Bool) → ℕ
bytes_of [] = 0
bytes_of (line ∷ more) = length line.0 + 1 + bytes_of more

abbrev parts_total : List (List ℕ) → ℕ
parts_total [] = 0
parts_total (x ∷ xs) = length x + 1 + parts_total xs

-- what stands after the last line end makes lines of at most one byte more than it has
one_line : (b : Bool) (x : List ℕ) → bytes_of (cond b [] ((x, false) ∷ [])) ≤ length x + 1
one_line true x = omega arith
one_line false x = omega arith

-- the bytes of the lines of parts are no more than those of the parts
lines_within : (ps : List (List ℕ)) → bytes_of (lines_of_parts ps) ≤ parts_total ps
lines_within [] = omega arith
lines_within (x ∷ []) = let one = one_line (length x == 0) x in omega (arith, one)
lines_within (x ∷ y ∷ more) = let rest = lines_within (y ∷ more) in omega (arith, rest)

-- a byte put in front of the first part makes the total of the parts one greater
onto_total : (b : ℕ) (ps : List (List ℕ)) (n : ℕ) → parts_total ps ≡ suc n → parts_total (onto_first b ps) ≡ suc (suc n)
onto_total b [] n e = absurd (omega (arith, e))
onto_total b (p ∷ ps) n e = omega (arith, e)

-- the parts between line ends have in total one byte more than the text
total_is : (bytes : List ℕ) → parts_total (parts 10 bytes) ≡ suc (length bytes)
total_is [] = refl
total_is (b ∷ bs) = go (is_byte 10 b) (total_is bs)
  where
    go : (t : Bool) → parts_total (parts 10 bs) ≡ suc (length bs) → parts_total (cond t ([] ∷ parts 10 bs) (onto_first b (parts 10 bs))) ≡ suc (suc (length bs))
    go true e = omega (arith, e)
    go false e = onto_total b (parts 10 bs) (length bs) e

-- the lines of a text, with an end for each, have at most one byte more than the text
pub lines_total : (bytes : List ℕ) → bytes_of (lines bytes) ≤ suc (length bytes)
lines_total bytes = let a = lines_within (parts 10 bytes) in let b = total_is bytes in omega (arith, a, b)

-- ---- lines that end, and what is behind them

-- no end of a line stands in it
abbrev IsClean : List ℕ → Type 0
IsClean x = AllByRecursion (λ b. is_byte 10 b ≡ false) x

abbrev AllClean : List (List ℕ) → Type 0
AllClean xs = AllByRecursion (λ x. IsClean x) xs

-- a byte that is no line end, put in front of the first part, leaves all parts without line ends
onto_clean : (b : ℕ) (ps : List (List ℕ)) → is_byte 10 b ≡ false → AllClean ps → AllClean (onto_first b ps)
onto_clean b [] e h = ((e, tt), tt)
onto_clean b (p ∷ ps) e h = ((e, h.0), h.1)

-- the parts between line ends have no line end in them
parts_clean : (bytes : List ℕ) → AllClean (parts 10 bytes)
parts_clean [] = (tt, tt)
parts_clean (b ∷ bs) = go (is_byte 10 b) refl (parts_clean bs)
  where
    go : (t : Bool) → is_byte 10 b ≡ t → AllClean (parts 10 bs) → AllClean (cond t ([] ∷ parts 10 bs) (onto_first b (parts 10 bs)))
    go true e h = (tt, h)
    go false e h = onto_clean b (parts 10 bs) e h

abbrev ended : List (List ℕ) → List ℕ
ended xs = flat_map (λ x. x ++ 10 ∷ []) xs

abbrev marked : List (List ℕ) → List (List ℕ × Bool)
marked xs = map (λ x. (x, true)) xs

-- a part without a line end has none at any of its bytes
clean_at : (x : List ℕ) → IsClean x → All (λ b. is_byte 10 b ≡ false) x
clean_at x h = all_at (λ b. is_byte 10 b ≡ false) x h

-- the lines of ended texts with more after them are these texts and the lines of the rest
lines_behind : (xs : List (List ℕ)) (more : List ℕ) → AllClean xs → lines (ended xs ++ more) ≡ marked xs ++ lines more
lines_behind [] more h = refl
lines_behind (x ∷ xs) more h =
    let regrouped : ended (x ∷ xs) ++ more ≡ x ++ 10 ∷ (ended xs ++ more) = append_assoc (x ++ 10 ∷ []) (ended xs) more
    ∙ append_assoc x (10 ∷ []) (ended xs ++ more) in
    rw (regrouped, slice_split_at (is_byte 10) x 10 (ended xs ++ more) (clean_at x h.0) refl, more_lines x (ended xs ++ more))
    (ap (λ (ls : List (List ℕ × Bool)). (x, true) ∷ ls) (lines_behind xs more h.1))

-- the lines of ended texts are these texts
lines_ended : (xs : List (List ℕ)) → AllClean xs → lines (ended xs) ≡ marked xs
lines_ended xs h = ap lines (sym (append-nil (ended xs))) ∙ lines_behind xs [] h ∙ append-nil (marked xs)

-- parts without line ends, joined by line ends, are the parts of what they make
parts_again : (x : List ℕ) (xs : List (List ℕ)) → AllClean (x ∷ xs) → parts 10 (join_with_byte 10 (x ∷ xs)) ≡ x ∷ xs
parts_again x [] h = slice_split_none (is_byte 10) x (clean_at x h.0)
parts_again x (y ∷ ys) h = slice_split_at (is_byte 10) x 10 (join_with_byte 10 (y ∷ ys)) (clean_at x h.0) refl
    ∙ ap (λ (r : List (List ℕ)). x ∷ r) (parts_again y ys h.1)

-- ---- the first line with a keyword

-- marking texts as ended lines keeps how many there are
length_marked : (xs : List (List ℕ)) → length (marked xs) ≡ length xs
length_marked [] = refl
length_marked (x ∷ xs) = ap suc (length_marked xs)

-- a text is cut before the first line with the keyword, if no line before it has the keyword
here : (keyword : List ℕ) (xs : List (List ℕ)) (more : List ℕ) → AllClean xs → list_any (begins keyword) (marked xs) ≡ false →
    first_begins keyword (lines more) ≡ true → Splits keyword (ended xs ++ more) (length (ended xs)) (length xs + 1)
here keyword xs more clean none first =
    let before : lines (take (length (ended xs)) (ended xs ++ more)) ≡ marked xs = ap lines (take-append_seam (ended xs) more) ∙ lines_ended xs clean in
    let behind : lines (drop (length (ended xs)) (ended xs ++ more)) ≡ lines more = ap lines (drop-append_seam (ended xs) more) in
    record {
      whole = rw (before, behind) (sym (lines_behind xs more clean));
      number = rw before (ap (λ (n : ℕ). n + 1) (length_marked xs));
      here = rw behind first;
      none_before = rw before none;
    }

abbrev cut_at : ℕ → ℕ → Option (ℕ × ℕ)
cut_at at n = Some (at, n)

-- the byte of a cut, and 0 if there is none
first_of : Option (ℕ × ℕ) → ℕ
first_of None = 0
first_of (Some p) = p.0

-- the line number of a cut, and 0 if there is none
second_of : Option (ℕ × ℕ) → ℕ
second_of None = 0
second_of (Some p) = p.1

-- equal cuts are at the same byte
pair_0 : (a b c d : ℕ) → cut_at a b ≡ cut_at c d → a ≡ c
unfolding first_of
pair_0 a b c d e = ap first_of e

-- equal cuts have the same line number
pair_1 : (a b c d : ℕ) → cut_at a b ≡ cut_at c d → b ≡ d
unfolding second_of
pair_1 a b c d e = ap second_of e

-- the text from here on is that of these parts
at_last : (keyword : List ℕ) (xs : List (List ℕ)) (more bytes : List ℕ) (at n a m : ℕ) → bytes ≡ ended xs ++ more → at ≡ length (ended xs) → n
    ≡ length xs + 1 → AllClean xs → list_any (begins keyword) (marked xs) ≡ false → first_begins keyword (lines more) ≡ true → cut_at at n ≡ cut_at a m →
    Splits keyword bytes a m
at_last keyword xs more bytes at n a m eb ea en clean none first e =
    let s = here keyword xs more clean none first in
    let one : Splits keyword bytes (length (ended xs)) (length xs + 1) = subst (λ (b : List ℕ). Splits keyword b (length (ended xs)) (length xs + 1))
    (sym eb) s in
    let two : Splits keyword bytes a (length xs + 1) = subst (λ (k : ℕ). Splits keyword bytes k (length xs + 1)) (sym ea ∙ pair_0 at n a m e) one in
    subst (λ (k : ℕ). Splits keyword bytes a k) (sym en ∙ pair_1 at n a m e) two

-- one more text without a line end keeps that none of them has one
clean_more : (xs : List (List ℕ)) (x : List ℕ) → AllClean xs → IsClean x → AllClean (xs ++ x ∷ [])
clean_more [] x h k = (k, tt)
clean_more (z ∷ zs) x h k = (h.0, clean_more zs x h.1 k)

-- a cut that the search finds among the parts, after lines without the keyword, splits the text by the keyword
found : (keyword : List ℕ) (ps xs : List (List ℕ)) (bytes : List ℕ) (at n a m : ℕ) → bytes ≡ ended xs ++ join_with_byte 10 ps → at ≡ length (ended xs) → n
    ≡ length xs + 1 → AllClean xs → AllClean ps → list_any (begins keyword) (marked xs) ≡ false → split_from keyword at n (lines_of_parts ps) ≡ cut_at a m →
    Splits keyword bytes a m
found keyword [] xs bytes at n a m eb ea en cx cp none e = absurd cc
found keyword (x ∷ []) xs bytes at n a m eb ea en cx cp none e = go (length x == 0) refl e
  where
    last : (t : Bool) → begins keyword (x, false) ≡ t → (length x == 0) ≡ false → cond t (cut_at at n) None ≡ cut_at a m → Splits keyword bytes a m
    last false is z e = absurd cc
    last true is z e =
        let there : lines x ≡ (x, false) ∷ [] = ap lines_of_parts (parts_again x [] cp) ∙ rw z refl in
        at_last keyword xs x bytes at n a m eb ea en cx none (rw there is) e

    go : (z : Bool) → (length x == 0) ≡ z → split_from keyword at n (cond z [] ((x, false) ∷ [])) ≡ cut_at a m → Splits keyword bytes a m
    go true z e = absurd cc
    go false z e = last (begins keyword (x, false)) refl z e
found keyword (x ∷ y ∷ more) xs bytes at n a m eb ea en cx cp none e = go (begins keyword (x, true)) refl e
    (found keyword (y ∷ more) (xs ++ x ∷ []) bytes (at + (length x + 1)) (n + 1) a m)
  where
    go : (t : Bool) → begins keyword (x, true) ≡ t → cond t (cut_at at n) (split_from keyword (at + (length x + 1)) (n + 1) (lines_of_parts (y ∷ more)))
        ≡ cut_at a m
        → (bytes ≡ ended (xs ++ x ∷ []) ++ join_with_byte 10 (y ∷ more) → at + (length x + 1) ≡ length (ended (xs ++ x ∷ [])) → n + 1
        ≡ length (xs ++ x ∷ []) + 1 → AllClean (xs ++ x ∷ []) → AllClean (y ∷ more) → list_any (begins keyword) (marked (xs ++ x ∷ [])) ≡ false →
        split_from keyword (at + (length x + 1)) (n + 1) (lines_of_parts (y ∷ more)) ≡ cut_at a m → Splits keyword bytes a m)
        → Splits keyword bytes a m
    go true is e on =
        let there : lines (join_with_byte 10 (x ∷ y ∷ more)) ≡ (x, true) ∷ lines_of_parts (y ∷ more) = ap lines_of_parts (parts_again x (y ∷ more) cp) in
        at_last keyword xs (join_with_byte 10 (x ∷ y ∷ more)) bytes at n a m eb ea en cx none (rw there is) e
    go false is e on =
        let grown : ended (xs ++ x ∷ []) ≡ ended xs ++ (x ++ 10 ∷ []) = flat_map-append (λ (x : List ℕ). x ++ 10 ∷ []) xs (x ∷ [])
        ∙ ap (λ (r : List ℕ). ended xs ++ r) (append-nil (x ++ 10 ∷ [])) in
        let whole : bytes ≡ ended (xs ++ x ∷ []) ++ join_with_byte 10 (y ∷ more) = eb
        ∙ sym (ap (λ (r : List ℕ). r ++ join_with_byte 10 (y ∷ more)) grown ∙ append_assoc (ended xs) (x ++ 10 ∷ []) (join_with_byte 10 (y ∷ more))
        ∙ ap (λ (r : List ℕ). ended xs ++ r) (append_assoc x (10 ∷ []) (join_with_byte 10 (y ∷ more)))) in
        let size : length (ended (xs ++ x ∷ [])) ≡ length (ended xs) + (length x + 1) = ap length grown ∙ length-append (ended xs) (x ++ 10 ∷ [])
        ∙ ap (λ (k : ℕ). length (ended xs) + k) (length-append x (10 ∷ [])) in
        let marks : list_any (begins keyword) (marked (xs ++ x ∷ []))
        ≡ false = ap (list_any (begins keyword)) (map-append (λ (x : List ℕ). (x, true)) xs (x ∷ []))
        ∙ list_any-append (begins keyword) (marked xs) (marked (x ∷ []))
        ∙ or_from (list_any (begins keyword) (marked xs)) (list_any (begins keyword) (marked (x ∷ []))) none
        (or_from (begins keyword (x, true)) false is refl) in
        on whole (omega (arith, ea, size)) (omega (arith, en, length-append xs (x ∷ []))) (clean_more xs x cx cp.0) cp.1 marks e

-- if the search for a keyword finds no cut, no line begins with the keyword
missed : (keyword : List ℕ) (at n : ℕ) (ls : List (List ℕ × Bool)) → split_from keyword at n ls ≡ None → list_any (begins keyword) ls ≡ false
missed keyword at n [] e = refl
missed keyword at n (l ∷ ls) e = go (begins keyword l) e (missed keyword (at + (length l.0 + 1)) (n + 1) ls)
  where
    go : (t : Bool) → cond t (cut_at at n) (split_from keyword (at + (length l.0 + 1)) (n + 1) ls) ≡ None →
        (split_from keyword (at + (length l.0 + 1)) (n + 1) ls ≡ None → list_any (begins keyword) ls ≡ false) → (t || list_any (begins keyword) ls) ≡ false
    go true e on = absurd cc
    go false e on = on e

-- ---- what the contract says

-- if the search for a cut finds none, no line begins with the keyword
pub split_none : (keyword bytes : List ℕ) (r : Option Split) → option_map (λ s. (s.at, s.line)) r ≡ split_from keyword 0 1 (lines bytes) →
    IfNone r (list_any (begins keyword) (lines bytes) ≡ false)
split_none keyword bytes None e = missed keyword 0 1 (lines bytes) (sym e)
split_none keyword bytes (Some s) e = tt

-- a cut that is found is before the first line that begins with the keyword
pub split_some : (keyword bytes : List ℕ) (r : Option Split) → option_map (λ s. (s.at, s.line)) r ≡ split_from keyword 0 1 (lines bytes) →
    IfSome r (λ s. Splits keyword bytes s.at s.line)
split_some keyword bytes None e = tt
split_some keyword bytes (Some s) e = found keyword (parts 10 bytes) [] bytes 0 1 s.at s.line (sym (join_with_byte-slice_split 10 bytes)) refl refl tt
    (parts_clean bytes) refl (sym e)
