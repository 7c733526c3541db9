-- The letters that keywords begin with.
use Rattle.std.specs.Prelude.{ℕ, Bool, get_or, is_some, ◌==◌, ◌&&◌}
use Rattle.nt_line.specs.declared.keywords.Keyword.{Keyword}
use Rattle.nt_line.specs.Keywords.{text_of, declaring}

abbrev pub begins_with : ℕ → Keyword → Bool
begins_with letter keyword = letter == get_or (text_of keyword) 0 0

-- a keyword of a line that declares, with this first letter and this third one
abbrev pub declares_with : ℕ → ℕ → Keyword → Bool
declares_with letter third keyword = is_some (declaring keyword)
    && (letter == get_or (text_of keyword) 0 0 && third == get_or (text_of keyword) 2 0)
