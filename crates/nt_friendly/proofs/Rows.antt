-- The rows of a strict text.
use Rattle.std.proofs.Common.{◌≡◌, ℕ, Bool, true, false, List, [], ◌∷◌, ◌++◌, map, refl, ap, append_assoc}
use Rattle.std.specs.Prelude.{not}
use Rattle.std.specs.List.{AllByRecursion, flat_map, join_with_byte}
use Rattle.std.proofs.lemmas.List.Splits.{slice_split_at}
use Rattle.nt_text.specs.Lines.{Row, first, is_byte, line_of, lines, row_text, rows_text}
use Rattle.nt_text.proofs.Cuts.{more_lines}
use Rattle.nt_friendly.specs.Fields.{friendly_fields, has_mark}
use Rattle.nt_friendly.specs.Levels.{strict_row}
use Rattle.nt_friendly.specs.Strict.{IsStrictField, IsStrictRow}
use Rattle.nt_friendly.specs.Text.{line_text, strict_line, strict_text}
use Rattle.nt_friendly.proofs.Again.{row_again, row_strict}
use Rattle.nt_friendly.proofs.Bytes.{IsLine, fields_again, fields_marked, fields_strict, is_no_end, joined_passes, none_passes, strict_no_end, strict_pass}
use Rattle.nt_friendly.proofs.Bytes.{text_lines}

-- ---- the rows of lines

-- a row before others, unless it has no field
abbrev pub before_rows : Row → List Row → List Row
before_rows [] rows = rows
before_rows (f ∷ fs) rows = (f ∷ fs) ∷ rows

-- the rows that lines mean
abbrev pub rows_from : List (List ℕ × Bool) → List Row
rows_from [] = []
rows_from (line ∷ more) = before_rows (strict_row (friendly_fields line.0)) (rows_from more)

-- the text that lines mean is that of their rows
pub rows_are : (ls : List (List ℕ × Bool)) → flat_map strict_line ls ≡ rows_text (rows_from ls)
rows_are [] = refl
rows_are (line ∷ more) = go (strict_row (friendly_fields line.0)) (rows_are more)
  where
    go : (row : Row) → flat_map strict_line more ≡ rows_text (rows_from more) →
        line_text row ++ flat_map strict_line more ≡ rows_text (before_rows row (rows_from more))
    go [] e = e
    go (f ∷ fs) e = ap (λ (xs : List ℕ). row_text (f ∷ fs) ++ xs) e

-- a strict row of fields of a line is strict
one_strict : (row : Row) → AllByRecursion IsStrictField row → has_mark (first row) ≡ false → (f : List ℕ) (fs : Row) → strict_row row ≡ f ∷ fs →
    IsStrictRow (f ∷ fs)
one_strict [] all mark f fs e = absurd cc
one_strict (g ∷ gs) all mark f fs e = rw (← e) (record {
  some = λ h. absurd cc;
  fields = row_strict (g ∷ gs) all;
  mark = mark;
  levels = row_again (g ∷ gs);
})

-- the rows that lines mean are strict
pub rows_strict : (ls : List (List ℕ × Bool)) → AllByRecursion IsLine ls → AllByRecursion IsStrictRow (rows_from ls)
rows_strict [] all = tt
rows_strict (line ∷ more) all =
    go (strict_row (friendly_fields line.0)) (one_strict (friendly_fields line.0) (fields_strict line.0 all.0) (fields_marked line.0)) (rows_strict more all.1)
  where
    go : (row : Row) → ((f : List ℕ) (fs : Row) → row ≡ f ∷ fs → IsStrictRow (f ∷ fs)) → AllByRecursion IsStrictRow (rows_from more) →
        AllByRecursion IsStrictRow (before_rows row (rows_from more))
    go [] one rest = rest
    go (f ∷ fs) one rest = (one f fs refl, rest)

-- ---- the text of strict rows

-- the lines of a text of strict rows are those of the rows
pub lines_again : (rows : List Row) → AllByRecursion IsStrictRow rows → lines (rows_text rows) ≡ map line_of rows
lines_again [] all = refl
lines_again (row ∷ rows) all =
    let line = join_with_byte 32 row in
    let pass = joined_passes is_no_end refl row (strict_pass is_no_end (λ b e. rw (strict_no_end b e) refl) row all.0.fields) in
    let clean = none_passes is_no_end (is_byte 10) (λ b e. not_true (is_byte 10 b) e) line pass in
    let regrouped : rows_text (row ∷ rows) ≡ line ++ 10 ∷ rows_text rows = append_assoc line (10 ∷ []) (rows_text rows) in
    rw (regrouped, slice_split_at (is_byte 10) line 10 (rows_text rows) clean refl, more_lines line (rows_text rows))
    (ap (λ (ls : List (List ℕ × Bool)). line_of row ∷ ls) (lines_again rows all.1))
  where
    not_true : (t : Bool) → (not t) ≡ true → t ≡ false
    not_true true e = absurd cc
    not_true false e = refl

-- the line of a strict row means itself
line_stays : (row : Row) → IsStrictRow row → strict_line (line_of row) ≡ row_text row
line_stays [] strict = absurd (strict.some refl)
line_stays (f ∷ fs) strict = rw (fields_again (f ∷ fs) strict.some strict.fields strict.mark, strict.levels) refl

-- the lines of strict rows mean themselves
lines_stay : (rows : List Row) → AllByRecursion IsStrictRow rows → flat_map strict_line (map line_of rows) ≡ rows_text rows
lines_stay [] all = refl
lines_stay (row ∷ rows) all = rw (line_stays row all.0) (ap (λ (xs : List ℕ). row_text row ++ xs) (lines_stay rows all.1))

-- a text of strict rows means itself
pub rows_stay : (rows : List Row) → AllByRecursion IsStrictRow rows → strict_text (rows_text rows) ≡ rows_text rows
rows_stay rows all = rw (lines_again rows all) (lines_stay rows all)

-- a strict text means itself
pub text_stays : (bytes : List ℕ) → strict_text (strict_text bytes) ≡ strict_text bytes
text_stays bytes = rw (rows_are (lines bytes)) (rows_stay (rows_from (lines bytes)) (rows_strict (lines bytes) (text_lines bytes)))
