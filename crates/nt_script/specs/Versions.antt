-- The version of a text, and the limit that depends on it. Which words a version has says `since` of nt_line.
use Rattle.std.specs.Prelude.{ℕ, Bool, List, [], ◌∷◌, nat_le, if◌then◌else◌}
use Rattle.std.specs.Str.{bytes_eq}
use Rattle.nt_text.specs.Lines.{first, fields}
use Rattle.nt_line.specs.Keywords.{text_of}
use Rattle.nt_line.specs.declared.keywords.Keyword.TheVariants as keyword
use Rattle.nt_script.specs.declared.walk.Input.{Input}

-- the version of a text with these lines: 2 where the first field of the first line is `version`, else 1
abbrev pub version_of : List (List ℕ × Bool) → ℕ
version_of [] = 1
version_of (line ∷ more) = if bytes_eq (first (fields line.0)) (text_of keyword.Version) then 2 else 1

-- the processors of a script of this version at most
abbrev pub most_cpus : ℕ → ℕ
most_cpus version = if nat_le 2 version then 64 else 8

-- the same script and names in version 2
abbrev pub migrated : Input → Input
migrated input = record input { version = 2 }
