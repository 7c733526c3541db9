-- The strict text that a friendly text means, and from which lines its lines come.
use Rattle.std.specs.Prelude.{ℕ, ◌+◌, ◌-◌, Bool, false, List, [], ◌∷◌, length, get_or, ◌==◌}
use Rattle.std.specs.Prelude.{if◌then◌else◌}
use Rattle.std.specs.List.{flat_map}
use Rattle.nt_text.specs.Lines.{Row, lines, row_text}
use Rattle.nt_friendly.specs.Fields.{friendly_fields}
use Rattle.nt_friendly.specs.Levels.{strict_row}

-- a line with one blank between two fields, and its end; no fields make no line
abbrev pub line_text : Row → List ℕ
line_text [] = []
line_text (field ∷ more) = row_text (field ∷ more)

-- what a line means
abbrev pub strict_line : List ℕ × Bool → List ℕ
strict_line line = line_text (strict_row (friendly_fields line.0))

-- what a text means: line by line, comment cut, fields found, level names replaced, lines without a field left out
abbrev pub strict_text : List ℕ → List ℕ
strict_text bytes = flat_map strict_line (lines bytes)

-- the numbers of the lines that have a field, where the first line has the number n
abbrev pub numbers_from : ℕ → List (List ℕ × Bool) → List ℕ
numbers_from n [] = []
numbers_from n (line ∷ more) = if length (friendly_fields line.0) == 0 then numbers_from (n + 1) more
    else n ∷ numbers_from (n + 1) more

-- for each line of the strict text the number of the line from which it comes
abbrev pub line_numbers : List ℕ → List ℕ
line_numbers bytes = numbers_from 1 (lines bytes)

-- the bytes of the line with this number, counted from 1
abbrev pub line_numbered : List ℕ → ℕ → List ℕ
line_numbered bytes n = (get_or (lines bytes) (n - 1) ([], false)).0
