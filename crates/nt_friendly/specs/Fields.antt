-- The fields of a line that is written by hand, and where they stand in it.
use Rattle.std.specs.Prelude.{ℕ, zero, suc, ◌+◌, ◌-◌, Bool, ◌||◌, not, List, [], ◌∷◌, length, take, drop, ◌==◌}
use Rattle.std.specs.Prelude.{Option, slice_get, if◌then◌else◌}
use Rattle.std.specs.List.{filter, slice_split}
use Rattle.std.specs.Str.{bytes_eq}
use Rattle.nt_text.specs.Lines.{Row, first, parts}

-- blank space within a line: a blank, a tab, and a CR, which some editors write before the end of each line
abbrev pub is_blank : ℕ → Bool
is_blank b = b == 32 || b == 9 || b == 13

-- a line up to the first #
abbrev pub uncommented : List ℕ → List ℕ
uncommented line = first (parts 35 line)

-- a byte order mark stands first
abbrev pub has_mark : List ℕ → Bool
has_mark bytes = bytes_eq (take 3 bytes) (239 ∷ 187 ∷ 191 ∷ [])

-- bytes without the blank space and byte order marks at their beginning, behind n bytes of a mark
abbrev pub begun : ℕ → List ℕ → List ℕ
begun n [] = []
begun (suc n) (b ∷ more) = begun n more
begun zero (b ∷ more) = if is_blank b then begun zero more
    else (if has_mark (b ∷ more) then begun 2 more else b ∷ more)

-- what is read of a line
abbrev pub content : List ℕ → List ℕ
content line = begun 0 (uncommented line)

-- what stands between blank spaces; two side by side have an empty part between them
abbrev pub blank_parts : List ℕ → List (List ℕ)
blank_parts bytes = slice_split is_blank bytes

abbrev pub is_filled : List ℕ → Bool
is_filled part = not (length part == 0)

-- the fields of a line
abbrev pub friendly_fields : List ℕ → Row
friendly_fields line = filter is_filled (blank_parts (content line))

-- ---- where they stand

-- the columns at which the parts that are not empty begin, and their lengths, where the first part begins at a column
abbrev pub places_from : ℕ → List (List ℕ) → List (ℕ × ℕ)
places_from column [] = []
places_from column (part ∷ more) = if is_filled part
    then (column, length part) ∷ places_from (column + (length part + 1)) more else places_from (column + 1) more

-- the column of the first byte that is read of a line
abbrev pub first_column : List ℕ → ℕ
first_column line = length (uncommented line) - length (content line) + 1

-- the places of the fields of a line
abbrev pub field_places : List ℕ → List (ℕ × ℕ)
field_places line = places_from (first_column line) (blank_parts (content line))

-- the column at which a field begins, from 1, and its length
abbrev pub field_place : List ℕ → ℕ → Option (ℕ × ℕ)
field_place line index = slice_get (field_places line) index

-- the bytes of a line at a place
abbrev pub bytes_at : List ℕ → ℕ × ℕ → List ℕ
bytes_at line place = take place.1 (drop (place.0 - 1) line)
