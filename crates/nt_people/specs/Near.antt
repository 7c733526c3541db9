-- Names that a text declares.
use Rattle.std.specs.Prelude.{◌≡◌, ℕ, Bool, List, [], Option, Some, Contains, get_or}
use Rattle.std.specs.Option.{option_and_then}
use Rattle.nt_text.specs.Lines.{Row, first, lines, fields}
use Rattle.nt_line.specs.declared.names.Kind.{Kind}
use Rattle.nt_line.specs.Keywords.{keyword_of, declaring}

-- the kind of the things that lines with this first field declare
abbrev pub declared_kind : List ℕ → Option Kind
declared_kind word = option_and_then declaring (keyword_of 2 word)

-- a row declares a name of a thing of this kind
pub record Declares (kind : Kind) (name : List ℕ) (row : Row) : Type 0 where
  pub word : declared_kind (first row) ≡ Some kind
  pub name_field : get_or row 1 [] ≡ name

-- a line of a text declares a name of a thing of this kind
abbrev pub StandsAs : Kind → List ℕ → List ℕ → Type 0
StandsAs kind name text = (line : List ℕ × Bool) × Contains (lines text) line × Declares kind name (fields line.0)

-- some line of a text declares a name
abbrev pub IsDeclared : List ℕ → List ℕ → Type 0
IsDeclared name text = (kind : Kind) × StandsAs kind name text
