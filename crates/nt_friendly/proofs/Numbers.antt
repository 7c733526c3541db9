-- From which line each line of a strict text comes.
use Rattle.std.proofs.Common.{◌≡◌, ℕ, ◌+◌, ◌-◌, Bool, false, cond, List, [], ◌∷◌, ◌++◌, length, get_or, map, refl, sym, ap, ◌∙◌, append_assoc, length-append}
use Rattle.std.proofs.Common.{arith}
use Rattle.std.specs.Prelude.{◌==◌}
use Rattle.std.proofs.lemmas.Bool.{ne_eqb}
use Rattle.std.proofs.lemmas.List.{length-map}
use Rattle.nt_text.specs.Lines.{Row, line_of, lines}
use Rattle.nt_friendly.specs.Fields.{friendly_fields}
use Rattle.nt_friendly.specs.Levels.{strict_row}
use Rattle.nt_friendly.specs.Text.{line_numbered, line_numbers, numbers_from, strict_text}
use Rattle.nt_friendly.proofs.Bytes.{text_lines}
use Rattle.nt_friendly.proofs.Rows.{before_rows, lines_again, rows_are, rows_from, rows_strict}

-- what the line of a number means
abbrev pub row_at : List (List ℕ × Bool) → ℕ → Row
row_at all n = strict_row (friendly_fields (get_or all (n - 1) ([], false)).0)

-- a line behind others has their count as its place
at_place : (before more : List (List ℕ × Bool)) (line : List ℕ × Bool) → get_or (before ++ line ∷ more) (length before) ([], false) ≡ line
at_place [] more line = refl
at_place (x ∷ before) more line = at_place before more line

-- the rows of lines behind others are what the lines of their numbers mean
rows_numbered : (before ls : List (List ℕ × Bool)) → rows_from ls ≡ map (row_at (before ++ ls)) (numbers_from (length before + 1) ls)
rows_numbered before [] = refl
rows_numbered before (line ∷ more) =
    let n = length before + 1 in
    let all = before ++ line ∷ more in
    let place : n - 1 ≡ length before = omega arith in
    let here : row_at all n ≡ strict_row (friendly_fields line.0) = rw (place, at_place before more line) refl in
    let long : length (before ++ line ∷ []) ≡ n = length-append before (line ∷ []) in
    let rest : rows_from more ≡ map (row_at all) (numbers_from (n + 1) more) =
    rw (← append_assoc before (line ∷ []) more, ← long) (rows_numbered (before ++ line ∷ []) more) in
    go (friendly_fields line.0) here rest
  where
    go : (row : Row) → row_at (before ++ line ∷ more) (length before + 1) ≡ strict_row row →
        rows_from more ≡ map (row_at (before ++ line ∷ more)) (numbers_from (length before + 1 + 1) more) →
        before_rows (strict_row row) (rows_from more) ≡ map (row_at (before ++ line ∷ more))
        (cond (length row == 0) (numbers_from (length before + 1 + 1) more) ((length before + 1) ∷ numbers_from (length before + 1 + 1) more))
    go [] here rest = rest
    go (f ∷ fs) here rest = rw (ne_eqb (length (f ∷ fs)) 0 (λ e. omega (arith, e)))
        (ap (λ (r : Row). r ∷ rows_from more) (sym here) ∙ ap (λ (rs : List Row). row_at (before ++ line ∷ more) (length before + 1) ∷ rs) rest)

-- the lines of a strict text are what the lines of their numbers mean
pub lines_numbered : (bytes : List ℕ) →
    lines (strict_text bytes) ≡ map (λ n. line_of (strict_row (friendly_fields (line_numbered bytes n)))) (line_numbers bytes)
lines_numbered bytes =
    rw (rows_are (lines bytes), lines_again (rows_from (lines bytes)) (rows_strict (lines bytes) (text_lines bytes)), rows_numbered [] (lines bytes))
    (map_both (line_numbers bytes))
  where
    map_both : (ns : List ℕ) → map line_of (map (row_at (lines bytes)) ns) ≡ map (λ n. line_of (strict_row (friendly_fields (line_numbered bytes n)))) ns
    map_both [] = refl
    map_both (n ∷ ns) = ap (λ (r : List (List ℕ × Bool)). line_of (row_at (lines bytes) n) ∷ r) (map_both ns)

-- a strict text has as many lines as numbers
pub as_many : (bytes : List ℕ) → length (lines (strict_text bytes)) ≡ length (line_numbers bytes)
as_many bytes = ap (λ (ls : List (List ℕ × Bool)). length ls) (lines_numbered bytes)
    ∙ length-map (line_numbers bytes) (λ n. line_of (strict_row (friendly_fields (line_numbered bytes n))))
