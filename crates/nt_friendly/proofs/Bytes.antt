-- Which bytes the parts of a text have.
use Rattle.std.proofs.Common.{◌≡◌, ℕ, zero, suc, Bool, true, false, cond, List, [], ◌∷◌, ◌++◌, length, refl, sym, ap, ◌∙◌, arith}
use Rattle.std.specs.Prelude.{All, ◌==◌, ◌≢◌, ◌&&◌, not, ◌||◌}
use Rattle.std.specs.List.{AllByRecursion, list_all, onto_first, slice_split, filter, join_with_byte}
use Rattle.std.proofs.lemmas.Bool.{and_from, and_parts, false≢true, ne_eqb}
use Rattle.std.proofs.lemmas.List.Folds.{list_all-append}
use Rattle.std.proofs.lemmas.List.Splits.{slice_split-cons_no, slice_split_at, slice_split_none}
use Rattle.nt_text.specs.Lines.{Row, first, is_byte, lines, lines_of_parts, parts}
use Rattle.nt_friendly.specs.Fields.{begun, blank_parts, content, friendly_fields, has_mark, is_blank, is_filled, uncommented}
use Rattle.nt_friendly.specs.Strict.{IsStrictField, is_strict_byte}

-- ---- tests of bytes

-- no end of a line
abbrev pub is_no_end : ℕ → Bool
is_no_end b = not (is_byte 10 b)

-- no end of a line and no #
abbrev pub is_uncut : ℕ → Bool
is_uncut b = not (is_byte 10 b || is_byte 35 b)

-- what passes a test passes a weaker one
pub weaker : (p q : ℕ → Bool) → ((b : ℕ) → p b ≡ true → q b ≡ true) → (xs : List ℕ) → list_all p xs ≡ true → list_all q xs ≡ true
weaker p q h [] e = refl
weaker p q h (x ∷ xs) e = let both = and_parts (p x) (list_all p xs) e in and_from (q x) (list_all q xs) (h x both.0) (weaker p q h xs both.1)

-- where all bytes pass a test, none passes one that excludes it
pub none_passes : (keep p : ℕ → Bool) → ((b : ℕ) → keep b ≡ true → p b ≡ false) → (xs : List ℕ) → list_all keep xs ≡ true → All (λ b. p b ≡ false) xs
none_passes keep p h [] e k d lt = absurd (omega arith)
none_passes keep p h (x ∷ xs) e zero d lt = h x (and_parts (keep x) (list_all keep xs) e).0
none_passes keep p h (x ∷ xs) e (suc k) d lt = none_passes keep p h xs (and_parts (keep x) (list_all keep xs) e).1 k d (omega arith)

-- every byte passes the test that is always passed
pub all_pass : (xs : List ℕ) → list_all (λ b. true) xs ≡ true
all_pass [] = refl
all_pass (x ∷ xs) = all_pass xs

-- neither of two is true, and so not one of them
neither : (x y : Bool) → not x ≡ true → y ≡ false → not (x || y) ≡ true
neither true y a b = absurd cc
neither false true a b = absurd cc
neither false false a b = refl

-- a byte without end and # that is no blank space may stand in a field
strict_byte : (b : ℕ) → is_uncut b ≡ true → is_blank b ≡ false → is_strict_byte b ≡ true
strict_byte b e f = go (is_byte 10 b) (is_byte 35 b) (is_blank b) e f
  where
    go : (x z y : Bool) → not (x || z) ≡ true → y ≡ false → not (x || y || z) ≡ true
    go true z y a c = absurd cc
    go false true y a c = absurd cc
    go false false true a c = absurd cc
    go false false false a c = refl

-- a byte of a field is no end of a line
pub strict_no_end : (b : ℕ) → is_strict_byte b ≡ true → is_byte 10 b ≡ false
strict_no_end b e = go (is_byte 10 b) (is_blank b) (is_byte 35 b) e
  where
    go : (x y z : Bool) → not (x || y || z) ≡ true → x ≡ false
    go true y z a = absurd cc
    go false y z a = refl

-- a byte of a field is no blank space
pub strict_no_blank : (b : ℕ) → is_strict_byte b ≡ true → is_blank b ≡ false
strict_no_blank b e = go (is_byte 10 b) (is_blank b) (is_byte 35 b) e
  where
    go : (x y z : Bool) → not (x || y || z) ≡ true → y ≡ false
    go true y z a = absurd cc
    go false true z a = absurd cc
    go false false z a = refl

-- a byte of a field is no #
pub strict_no_comment : (b : ℕ) → is_strict_byte b ≡ true → is_byte 35 b ≡ false
strict_no_comment b e = go (is_byte 10 b) (is_blank b) (is_byte 35 b) e
  where
    go : (x y z : Bool) → not (x || y || z) ≡ true → z ≡ false
    go true y z a = absurd cc
    go false true z a = absurd cc
    go false false true a = absurd cc
    go false false false a = refl

-- ---- parts

-- all bytes of a part pass a test
abbrev pub Passes : (ℕ → Bool) → List ℕ → Type 0
Passes q part = list_all q part ≡ true

-- what passes a test and no cut is made at passes a third test: so do all parts
pub parts_pass : (p keep q : ℕ → Bool) → ((b : ℕ) → keep b ≡ true → p b ≡ false → q b ≡ true) → (xs : List ℕ) → list_all keep xs ≡ true →
    AllByRecursion (Passes q) (slice_split p xs)
parts_pass p keep q h [] e = (refl, tt)
parts_pass p keep q h (x ∷ xs) e =
    let both = and_parts (keep x) (list_all keep xs) e in
    go (p x) refl both.0 (slice_split p xs) (parts_pass p keep q h xs both.1)
  where
    go : (t : Bool) → p x ≡ t → keep x ≡ true → (ps : List (List ℕ)) → AllByRecursion (Passes q) ps →
        AllByRecursion (Passes q) (cond t ([] ∷ ps) (onto_first x ps))
    go true is k ps all = (refl, all)
    go false is k [] all = (and_from (q x) true (h x k is) refl, tt)
    go false is k (part ∷ ps) all = (and_from (q x) (list_all q part) (h x k is) all.0, all.1)

-- the first of parts that pass a test passes it
first_passes : (q : ℕ → Bool) (ps : List (List ℕ)) → AllByRecursion (Passes q) ps → list_all q (first ps) ≡ true
first_passes q [] all = refl
first_passes q (part ∷ ps) all = all.0

-- what is left behind blank space passes what the whole passes
begun_passes : (q : ℕ → Bool) (n : ℕ) (xs : List ℕ) → list_all q xs ≡ true → list_all q (begun n xs) ≡ true
begun_passes q n [] e = refl
begun_passes q (suc n) (b ∷ more) e = begun_passes q n more (and_parts (q b) (list_all q more) e).1
begun_passes q zero (b ∷ more) e =
    let rest = (and_parts (q b) (list_all q more) e).1 in
    go (is_blank b) (has_mark (b ∷ more)) (begun_passes q zero more rest) (begun_passes q 2 more rest)
  where
    go : (s t : Bool) → list_all q (begun zero more) ≡ true → list_all q (begun 2 more) ≡ true →
        list_all q (cond s (begun zero more) (cond t (begun 2 more) (b ∷ more))) ≡ true
    go true t h k = h
    go false true h k = k
    go false false h k = e

-- the parts that are not empty, of parts of bytes that may stand in fields, are fields
filled_strict : (ps : List (List ℕ)) → AllByRecursion (Passes is_strict_byte) ps → AllByRecursion IsStrictField (filter is_filled ps)
filled_strict [] all = tt
filled_strict (part ∷ ps) all = go (is_filled part) refl (filled_strict ps all.1)
  where
    go : (t : Bool) → is_filled part ≡ t → AllByRecursion IsStrictField (filter is_filled ps) →
        AllByRecursion IsStrictField (cond t (part ∷ filter is_filled ps) (filter is_filled ps))
    go true e rest = ((e, all.0), rest)
    go false e rest = rest

-- the fields of a line without an end within are made of bytes of fields
pub fields_strict : (line : List ℕ) → list_all is_no_end line ≡ true → AllByRecursion IsStrictField (friendly_fields line)
fields_strict line e =
    let cut = parts_pass (is_byte 35) is_no_end is_uncut (λ b. neither (is_byte 10 b) (is_byte 35 b)) line e in
    let read = begun_passes is_uncut 0 (uncommented line) (first_passes is_uncut (parts 35 line) cut) in
    filled_strict (blank_parts (content line)) (parts_pass is_blank is_uncut is_strict_byte strict_byte (content line) read)

-- ---- lines

-- a line has no end within
abbrev pub IsLine : List ℕ × Bool → Type 0
IsLine line = list_all is_no_end line.0 ≡ true

-- parts without ends of lines are lines
lines_ended : (ps : List (List ℕ)) → AllByRecursion (Passes is_no_end) ps → AllByRecursion IsLine (lines_of_parts ps)
lines_ended [] all = tt
lines_ended (x ∷ []) all = go (length x == 0)
  where
    go : (t : Bool) → AllByRecursion IsLine (cond t [] ((x, false) ∷ []))
    go true = tt
    go false = (all.0, tt)
lines_ended (x ∷ y ∷ more) all = (all.0, lines_ended (y ∷ more) all.1)

-- the lines of a text have no end within
pub text_lines : (bytes : List ℕ) → AllByRecursion IsLine (lines bytes)
text_lines bytes = lines_ended (parts 10 bytes) (parts_pass (is_byte 10) (λ b. true) is_no_end (λ b _ e. rw e refl) bytes (all_pass bytes))

-- ---- byte order marks

-- bytes that begin with neither blank space nor a byte order mark, or none
abbrev pub BeginsWell : List ℕ → Type 0
BeginsWell [] = Unit {0}
BeginsWell (b ∷ more) = (is_blank b ≡ false) × (has_mark (b ∷ more) ≡ false)

-- so begins what is left behind blank space
pub begun_well : (n : ℕ) (xs : List ℕ) → BeginsWell (begun n xs)
begun_well n [] = tt
begun_well (suc n) (b ∷ more) = begun_well n more
begun_well zero (b ∷ more) = go (is_blank b) refl (has_mark (b ∷ more)) refl (begun_well zero more) (begun_well 2 more)
  where
    go : (s : Bool) → is_blank b ≡ s → (t : Bool) → has_mark (b ∷ more) ≡ t → BeginsWell (begun zero more) → BeginsWell (begun 2 more) →
        BeginsWell (cond s (begun zero more) (cond t (begun 2 more) (b ∷ more)))
    go true is t has h k = h
    go false is true has h k = k
    go false is false has h k = (is, has)

-- what begins with bytes that begin with a mark begins with it
mark_stays : (f more : List ℕ) → has_mark f ≡ true → has_mark (f ++ more) ≡ true
mark_stays [] more e = absurd cc
mark_stays (a ∷ []) more e = absurd (go (a == 239) e)
  where
    go : (t : Bool) → (t && false) ≡ true → ⊥
    go true h = absurd cc
    go false h = absurd cc
mark_stays (a ∷ b ∷ []) more e = absurd (go (a == 239) (b == 187) e)
  where
    go : (s t : Bool) → (s && (t && false)) ≡ true → ⊥
    go true true h = absurd cc
    go true false h = absurd cc
    go false t h = absurd cc
mark_stays (a ∷ b ∷ c ∷ f) more e = e

-- bytes begin with their first part
pub part_before : (p : ℕ → Bool) (xs : List ℕ) → (more : List ℕ) × (xs ≡ first (slice_split p xs) ++ more)
part_before p [] = ([], refl)
part_before p (x ∷ xs) = go (p x) (slice_split p xs) (part_before p xs)
  where
    go : (t : Bool) (ps : List (List ℕ)) → (more : List ℕ) × (xs ≡ first ps ++ more) →
        (more : List ℕ) × (x ∷ xs ≡ first (cond t ([] ∷ ps) (onto_first x ps)) ++ more)
    go true ps h = (x ∷ xs, refl)
    go false [] h = (h.0, ap (λ (l : List ℕ). x ∷ l) h.1)
    go false (part ∷ ps) h = (h.0, ap (λ (l : List ℕ). x ∷ l) h.1)

-- no mark stands first in what begins well
well_marked : (xs : List ℕ) → BeginsWell xs → has_mark xs ≡ false
well_marked [] h = refl
well_marked (b ∷ more) h = h.1

-- the first part of bytes without a mark has none
part_marked : (xs : List ℕ) → has_mark xs ≡ false → has_mark (first (blank_parts xs)) ≡ false
part_marked xs e =
    let split = part_before is_blank xs in
    go (has_mark (first (blank_parts xs))) refl split.0 split.1
  where
    go : (t : Bool) → has_mark (first (blank_parts xs)) ≡ t → (more : List ℕ) → xs ≡ first (blank_parts xs) ++ more → t ≡ false
    go true has more is = absurd (false≢true (sym e ∙ ap has_mark is ∙ mark_stays (first (blank_parts xs)) more has))
    go false has more is = refl

-- bytes with a first one are not none
pub filled_cons : (b : ℕ) (bs : List ℕ) → is_filled (b ∷ bs) ≡ true
filled_cons b bs = rw (ne_eqb (length (b ∷ bs)) 0 (λ e. omega (arith, e))) refl

-- the first field is the first part, where that is not empty
first_filled : (b : ℕ) (ps : List (List ℕ)) → first (filter is_filled (onto_first b ps)) ≡ first (onto_first b ps)
first_filled b [] = refl
first_filled b (part ∷ ps) = rw (filled_cons b part) refl

-- the first field of what begins well has no mark
first_marked : (xs : List ℕ) → BeginsWell xs → has_mark (first (filter is_filled (blank_parts xs))) ≡ false
first_marked [] h = refl
first_marked (b ∷ more) h =
    let cut : blank_parts (b ∷ more) ≡ onto_first b (blank_parts more) = slice_split-cons_no is_blank b more h.0 in
    rw (cut, first_filled b (blank_parts more), ← cut) (part_marked (b ∷ more) h.1)

-- the first field of a line has no byte order mark at its beginning
pub fields_marked : (line : List ℕ) → has_mark (first (friendly_fields line)) ≡ false
fields_marked line = first_marked (content line) (begun_well 0 (uncommented line))

-- ---- joined fields

-- what passes with the blank between passes joined
pub joined_passes : (q : ℕ → Bool) → q 32 ≡ true → (row : Row) → AllByRecursion (Passes q) row → list_all q (join_with_byte 32 row) ≡ true
joined_passes q e [] all = refl
joined_passes q e (f ∷ []) all = all.0
joined_passes q e (f ∷ g ∷ fs) all =
    list_all-append q f (32 ∷ join_with_byte 32 (g ∷ fs)) ∙ and_from (list_all q f) (q 32 && list_all q (join_with_byte 32 (g ∷ fs))) all.0
    (and_from (q 32) (list_all q (join_with_byte 32 (g ∷ fs))) e (joined_passes q e (g ∷ fs) all.1))

-- strict fields pass a test that strict bytes pass
pub strict_pass : (q : ℕ → Bool) → ((b : ℕ) → is_strict_byte b ≡ true → q b ≡ true) → (row : Row) → AllByRecursion IsStrictField row →
    AllByRecursion (Passes q) row
strict_pass q h [] all = tt
strict_pass q h (f ∷ fs) all = (weaker is_strict_byte q h f all.0.1, strict_pass q h fs all.1)

-- the parts of the joined fields are the fields
pub parts_again : (row : Row) → row ≢ [] → AllByRecursion IsStrictField row → blank_parts (join_with_byte 32 row) ≡ row
parts_again [] some all = absurd (some refl)
parts_again (f ∷ []) some all = slice_split_none is_blank f (none_passes is_strict_byte is_blank strict_no_blank f all.0.1)
parts_again (f ∷ g ∷ fs) some all =
    slice_split_at is_blank f 32 (join_with_byte 32 (g ∷ fs)) (none_passes is_strict_byte is_blank strict_no_blank f all.0.1) refl
    ∙ ap (λ (r : Row). f ∷ r) (parts_again (g ∷ fs) (λ e. absurd cc) all.1)

-- no strict field is left out as empty
pub all_filled : (row : Row) → AllByRecursion IsStrictField row → filter is_filled row ≡ row
all_filled [] all = refl
all_filled (f ∷ fs) all = rw all.0.0 (ap (λ (r : Row). f ∷ r) (all_filled fs all.1))

-- joined strict fields have no comment
pub joined_uncommented : (row : Row) → AllByRecursion IsStrictField row → uncommented (join_with_byte 32 row) ≡ join_with_byte 32 row
joined_uncommented row all =
    let keep : ℕ → Bool = λ b. not (is_byte 35 b) in
    let pass = joined_passes keep refl row (strict_pass keep (λ b e. rw (strict_no_comment b e) refl) row all) in
    rw (slice_split_none (is_byte 35) (join_with_byte 32 row) (none_passes keep (is_byte 35) (λ b e. not_true (is_byte 35 b) e) (join_with_byte 32 row) pass))
    refl
  where
    not_true : (t : Bool) → not t ≡ true → t ≡ false
    not_true true e = absurd cc
    not_true false e = refl

-- bytes with a blank behind begin with a mark only if they do without it
mark_before : (f more : List ℕ) → has_mark f ≡ false → has_mark (f ++ 32 ∷ more) ≡ false
mark_before [] more e = refl
mark_before (a ∷ []) more e = go (a == 239)
  where
    go : (t : Bool) → (t && false) ≡ false
    go true = refl
    go false = refl
mark_before (a ∷ b ∷ []) more e = go (a == 239) (b == 187)
  where
    go : (s t : Bool) → (s && (t && false)) ≡ false
    go true true = refl
    go true false = refl
    go false t = refl
mark_before (a ∷ b ∷ c ∷ f) more e = e

-- joined strict fields, of which the first has no mark, begin with no mark
joined_marked : (f : List ℕ) (fs : Row) → has_mark f ≡ false → has_mark (join_with_byte 32 (f ∷ fs)) ≡ false
joined_marked f [] e = e
joined_marked f (g ∷ fs) e = mark_before f (join_with_byte 32 (g ∷ fs)) e

-- bytes that begin well are read from their beginning
begun_stays : (xs : List ℕ) → BeginsWell xs → begun 0 xs ≡ xs
begun_stays [] h = refl
begun_stays (b ∷ more) h = rw (h.0, h.1) refl

-- joined fields of which the first is a strict one begin well
joined_well : (f : List ℕ) (fs : Row) → IsStrictField f → has_mark f ≡ false → BeginsWell (join_with_byte 32 (f ∷ fs))
joined_well f fs strict e = go (join_with_byte 32 (f ∷ fs)) (joined_marked f fs e) (no_blank f fs strict)
  where
    NoBlank : List ℕ → Type 0
    NoBlank [] = Unit {0}
    NoBlank (b ∷ more) = is_blank b ≡ false

    go : (xs : List ℕ) → has_mark xs ≡ false → NoBlank xs → BeginsWell xs
    go [] e h = tt
    go (b ∷ more) e h = (h, e)

    no_blank : (f : List ℕ) (fs : Row) → IsStrictField f → NoBlank (join_with_byte 32 (f ∷ fs))
    no_blank [] fs s = absurd cc
    no_blank (b ∷ bs) [] s = strict_no_blank b (and_parts (is_strict_byte b) (list_all is_strict_byte bs) s.1).0
    no_blank (b ∷ bs) (g ∷ gs) s = strict_no_blank b (and_parts (is_strict_byte b) (list_all is_strict_byte bs) s.1).0

-- the fields of joined strict fields are these
pub fields_again : (row : Row) → row ≢ [] → AllByRecursion IsStrictField row → has_mark (first row) ≡ false → friendly_fields (join_with_byte 32 row) ≡ row
fields_again [] some all e = absurd (some refl)
fields_again (f ∷ fs) some all e =
    rw (joined_uncommented (f ∷ fs) all, begun_stays (join_with_byte 32 (f ∷ fs)) (joined_well f fs all.0 e), parts_again (f ∷ fs) some all)
    (all_filled (f ∷ fs) all)
