-- A text in two parts, of which the second begins with a line that has this first field.
use Rattle.std.specs.Prelude.{◌≡◌, ℕ, ◌+◌, Bool, true, false, List, [], ◌∷◌, ◌++◌, length, take, drop, Option, Some}
use Rattle.std.specs.Prelude.{None, if◌then◌else◌}
use Rattle.std.specs.List.{list_any}
use Rattle.std.specs.Str.{bytes_eq}
use Rattle.nt_text.specs.Lines.{lines, fields, first}

-- the line's first field is the keyword
abbrev pub begins : List ℕ → List ℕ × Bool → Bool
begins keyword line = bytes_eq (first (fields line.0)) keyword

-- a first line is there, and its first field is the keyword
abbrev pub first_begins : List ℕ → List (List ℕ × Bool) → Bool
first_begins keyword [] = false
first_begins keyword (line ∷ more) = begins keyword line

-- the bytes from `at` on begin with the line of this number: the lines of both parts are the lines of the whole, the
-- line before which the text is cut has the keyword as its first field, and no line before does
pub record Splits (keyword bytes : List ℕ) (at line : ℕ) : Type 0 where
  pub whole : lines (take at bytes) ++ lines (drop at bytes) ≡ lines bytes
  pub number : length (lines (take at bytes)) + 1 ≡ line
  pub here : first_begins keyword (lines (drop at bytes)) ≡ true
  pub none_before : list_any (begins keyword) (lines (take at bytes)) ≡ false

-- the first line with this keyword among lines of which the first has this number and begins at this byte
abbrev pub split_from : List ℕ → ℕ → ℕ → List (List ℕ × Bool) → Option (ℕ × ℕ)
split_from keyword at n [] = None
split_from keyword at n (line ∷ more) = if begins keyword line then Some (at, n)
    else split_from keyword (at + (length line.0 + 1)) (n + 1) more
