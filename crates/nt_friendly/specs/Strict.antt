-- Which texts are strict already.
use Rattle.std.specs.Prelude.{◌≡◌, ◌≢◌, ℕ, Bool, true, false, ◌||◌, not, List, [], ◌==◌}
use Rattle.std.specs.List.{AllByRecursion, list_all}
use Rattle.nt_text.specs.Lines.{Row, first}
use Rattle.nt_friendly.specs.Fields.{has_mark, is_blank, is_filled}
use Rattle.nt_friendly.specs.Levels.{strict_row}

-- a byte that may stand in a field: no end of a line, no blank space and no #
abbrev pub is_strict_byte : ℕ → Bool
is_strict_byte b = not (b == 10 || is_blank b || b == 35)

abbrev pub IsStrictField : List ℕ → Type 0
IsStrictField field = (is_filled field ≡ true) × (list_all is_strict_byte field ≡ true)

-- a row of fields with no byte order mark at its beginning and no name of a level at a level's place
pub record IsStrictRow (row : Row) : Type 0 where
  pub some : row ≢ []
  pub fields : AllByRecursion IsStrictField row
  pub mark : has_mark (first row) ≡ false
  pub levels : strict_row row ≡ row
