-- How long a strict text is.
use Rattle.std.proofs.Common.{◌≡◌, ℕ, ◌+◌, ◌≤◌, Bool, true, false, cond, List, [], ◌∷◌, length, length-append, arith}
use Rattle.std.specs.List.{filter, flat_map, join_with_byte}
use Rattle.nt_text.specs.Lines.{Row, first, lines}
use Rattle.nt_script.proofs.Cutting.{bytes_of as line_bytes, lines_total}
use Rattle.nt_friendly.specs.declared.levels.Next.{Next}
use Rattle.nt_friendly.specs.declared.levels.Next.TheVariants as next
use Rattle.nt_friendly.specs.Fields.{blank_parts, content, friendly_fields, is_filled, uncommented}
use Rattle.nt_friendly.specs.Levels.{after, behind_first, is_left_out, level_text, replaced, strict_row, written}
use Rattle.nt_friendly.specs.Text.{line_text, strict_line, strict_text}
use Rattle.nt_friendly.proofs.Again.{level_cases}
use Rattle.nt_friendly.proofs.Cuts.{begun_short, bytes_of, bytes_total, uncommented_short}

-- parts that are left out have bytes too
filled_short : (ps : List (List ℕ)) → bytes_of (filter is_filled ps) ≤ bytes_of ps
filled_short [] = omega arith
filled_short (p ∷ ps) = go (is_filled p) (filled_short ps)
  where
    go : (t : Bool) → bytes_of (filter is_filled ps) ≤ bytes_of ps → bytes_of (cond t (p ∷ filter is_filled ps) (filter is_filled ps)) ≤ bytes_of (p ∷ ps)
    go true h = omega (arith, h)
    go false h = omega (arith, h)

-- a number is no longer than the name of its level
text_short : (f : List ℕ) → length (level_text f) ≤ length f
text_short f = level_cases (λ x y. length y ≤ length x) (omega arith) (omega arith) (omega arith) (omega arith) (omega arith) (omega arith) (omega arith)
    (λ g e. omega arith) f

-- what is written for a field is no longer
written_short : (n : Next) (f : List ℕ) → length (written n f) ≤ length f
written_short next.Word f = omega arith
written_short next.Name f = omega arith
written_short next.Bound f = text_short f
written_short next.Verb f = omega arith
written_short next.Cpu f = omega arith
written_short next.Level f = text_short f
written_short next.Rest f = omega arith

-- fields with names replaced are no longer
replaced_short : (n : Next) (row : Row) → bytes_of (replaced n row) ≤ bytes_of row
replaced_short n [] = omega arith
replaced_short n (f ∷ fs) = go (is_left_out n f (first fs)) (replaced_short n fs) (replaced_short (after n f) fs)
  where
    go : (t : Bool) → bytes_of (replaced n fs) ≤ bytes_of fs → bytes_of (replaced (after n f) fs) ≤ bytes_of fs →
        bytes_of (cond t (replaced n fs) (written n f ∷ replaced (after n f) fs)) ≤ bytes_of (f ∷ fs)
    go true h k = omega (arith, h)
    go false h k = let one = written_short n f in omega (arith, k, one)

-- a strict row is no longer
row_short : (row : Row) → bytes_of (strict_row row) ≤ bytes_of row
row_short [] = omega arith
row_short (f ∷ fs) = let h = replaced_short (behind_first f) fs in omega (arith, h)

-- a line has the bytes of its fields and one more for each
joined_long : (f : List ℕ) (fs : Row) → length (join_with_byte 32 (f ∷ fs)) + 1 ≡ bytes_of (f ∷ fs)
joined_long f [] = omega arith
joined_long f (g ∷ fs) =
    let rest = joined_long g fs in
    let all = length-append f (32 ∷ join_with_byte 32 (g ∷ fs)) in
    omega (arith, rest, all)

-- a line is as long as its row
line_long : (row : Row) → length (line_text row) ≤ bytes_of row
line_long [] = omega arith
line_long (f ∷ fs) =
    let joined = joined_long f fs in
    let end = length-append (join_with_byte 32 (f ∷ fs)) (10 ∷ []) in
    omega (arith, joined, end)

-- what a line means is no longer than the line with its end
line_short : (line : List ℕ × Bool) → length (strict_line line) ≤ length line.0 + 1
line_short line =
    let whole = uncommented_short line.0 in
    let read = begun_short 0 (uncommented line.0) in
    let parts = bytes_total (content line.0) in
    let filled = filled_short (blank_parts (content line.0)) in
    let row = row_short (friendly_fields line.0) in
    let text = line_long (strict_row (friendly_fields line.0)) in
    omega (arith, whole, read, parts, filled, row, text)

-- what lines mean is no longer than the lines with their ends
lines_short : (ls : List (List ℕ × Bool)) → length (flat_map strict_line ls) ≤ line_bytes ls
lines_short [] = omega arith
lines_short (line ∷ more) =
    let one = line_short line in
    let rest = lines_short more in
    let both = length-append (strict_line line) (flat_map strict_line more) in
    omega (arith, one, rest, both)

-- a strict text has at most one byte more than the friendly one
pub text_short_by_one : (bytes : List ℕ) → length (strict_text bytes) ≤ length bytes + 1
text_short_by_one bytes =
    let short = lines_short (lines bytes) in
    let total = lines_total bytes in
    omega (arith, short, total)
