-- The parser's rows of pieces.
use Rattle.std.proofs.Common.{◌≡◌, ◌∙◌, ◌||◌, ℕ, Bool, true, false, refl, ap, List, [], ◌∷◌, ◌++◌, Some, None, append-nil, codes}
use Rattle.std.specs.Prelude.{slice_get}
use Rattle.std.specs.Str.{bytes_eq}
use Rattle.clap.specs.Walk.{Row, at_row, first_of, has_row, more_values, with_values, without}
use Rattle.clap.specs.Takes.{is_given}
use Rattle.clap.specs.declared.builder.value_parser.Reading.TheVariants as reading
use Rattle.clap.specs.declared.parser.matches.ValueSource.TheVariants.{CommandLine}
use Rattle.nt_words.specs.declared.option_name.OptionName.{OptionName}
use Rattle.nt_words.specs.declared.option_name.OptionName.TheVariants.{Goal, Seed, Turns, Workers}
use Rattle.nt_words.specs.Pieces.{Piece, word, apart, joined, command_words, option_text, value_for, values_of}

-- one use of an id, with one value
abbrev pub row : List ℕ → List ℕ → Row
row id value = record { id = id; values = value ∷ []; count = None; source = Some CommandLine; reading = reading.AsWritten }

abbrev pub row_for : Piece → Row
row_for (word w) = row (codes "command") w
row_for (apart name value) = row (option_text name) value
row_for (joined name value) = row (option_text name) value

abbrev pub rows_for : List Piece → List Row
rows_for [] = []
rows_for (piece ∷ pieces) = row_for piece ∷ rows_for pieces

-- the rows of pieces put together are the rows of the first pieces and then of the others
pub rows-append : (ps qs : List Piece) → rows_for (ps ++ qs) ≡ rows_for ps ++ rows_for qs
rows-append [] qs = refl
rows-append (p ∷ ps) qs = ap (λ (rs : List Row). row_for p ∷ rs) (rows-append ps qs)

-- an id that no row has is put at the end
pub at_missing : (id : List ℕ) (change : Row → List Row) (missing rows : List Row) → has_row id rows ≡ false → at_row id change missing rows ≡ rows ++ missing
at_missing id change missing [] none = refl
at_missing id change missing (r ∷ rs) none = go (bytes_eq r.id id) refl (at_missing id change missing rs)
  where
    go : (b : Bool) → bytes_eq r.id id ≡ b → (has_row id rs ≡ false → at_row id change missing rs ≡ rs ++ missing)
        → at_row id change missing (r ∷ rs) ≡ r ∷ (rs ++ missing)
    go true is more =
        let bad : true ≡ false = rw is at none in
        cc
    go false is more =
        let rest : has_row id rs ≡ false = rw is at none in
        rw is (ap (λ (xs : List Row). r ∷ xs) (more rest))

-- ---- what the rows of pieces have

-- a value of an id that no row has is put at the end
pub put_new : (id value : List ℕ) (rows : List Row) → has_row id rows ≡ false
    → with_values id reading.AsWritten CommandLine (value ∷ []) (without id rows) ≡ rows ++ row id value ∷ []
put_new id value rows none =
    ap (with_values id reading.AsWritten CommandLine (value ∷ [])) (at_missing id (λ r. []) [] rows none ∙ append-nil rows)
    ∙ at_missing id (more_values CommandLine (value ∷ [])) (row id value ∷ []) rows none

-- no option has the id of the command
command_apart : (name : OptionName) → bytes_eq (option_text name) (codes "command") ≡ false
command_apart Turns = refl
command_apart Seed = refl
command_apart Goal = refl
command_apart Workers = refl

-- and the command has that of no option
option_apart : (name : OptionName) → bytes_eq (codes "command") (option_text name) ≡ false
option_apart Turns = refl
option_apart Seed = refl
option_apart Goal = refl
option_apart Workers = refl

-- pieces with no command word have no row of the command
pub no_command_row : (ps : List Piece) → command_words ps ≡ [] → has_row (codes "command") (rows_for ps) ≡ false
no_command_row [] none = refl
no_command_row (word w ∷ ps) none = cc
no_command_row (apart name value ∷ ps) none = rw (command_apart name) (no_command_row ps none)
no_command_row (joined name value ∷ ps) none = rw (command_apart name) (no_command_row ps none)

-- one more option, of another name
no_more : (name given : OptionName) (value : List ℕ) (ps : List Piece) → value_for name given value (values_of name ps) ≡ []
    → (values_of name ps ≡ [] → has_row (option_text name) (rows_for ps) ≡ false)
    → (bytes_eq (option_text given) (option_text name) || has_row (option_text name) (rows_for ps)) ≡ false
no_more name given value ps none more = go (bytes_eq (option_text given) (option_text name)) refl
  where
    go : (b : Bool) → bytes_eq (option_text given) (option_text name) ≡ b
        → (bytes_eq (option_text given) (option_text name) || has_row (option_text name) (rows_for ps)) ≡ false
    go true is =
        let bad : value ∷ values_of name ps ≡ [] = rw is at none in
        cc
    go false is = rw is (more (rw is at none))

-- pieces that give an option no value have no row of that option
pub no_option_row : (name : OptionName) (ps : List Piece) → values_of name ps ≡ [] → has_row (option_text name) (rows_for ps) ≡ false
no_option_row name [] none = refl
no_option_row name (word w ∷ ps) none = rw (option_apart name) (no_option_row name ps none)
no_option_row name (apart given value ∷ ps) none = no_more name given value ps none (no_option_row name ps)
no_option_row name (joined given value ∷ ps) none = no_more name given value ps none (no_option_row name ps)

-- the first values, as they are looked up
pub first_command : (ps : List Piece) → first_of (codes "command") (rows_for ps) ≡ slice_get (command_words ps) 0
first_command [] = refl
first_command (word w ∷ ps) = refl
first_command (apart name value ∷ ps) = rw (command_apart name) (first_command ps)
first_command (joined name value ∷ ps) = rw (command_apart name) (first_command ps)

-- the first value behind one more option
first_more : (name given : OptionName) (value : List ℕ) (ps : List Piece) → first_of (option_text name) (rows_for ps) ≡ slice_get (values_of name ps) 0
    → first_of (option_text name) (row (option_text given) value ∷ rows_for ps) ≡ slice_get (value_for name given value (values_of name ps)) 0
first_more name given value ps more = go (bytes_eq (option_text given) (option_text name)) refl
  where
    go : (b : Bool) → bytes_eq (option_text given) (option_text name) ≡ b
        → first_of (option_text name) (row (option_text given) value ∷ rows_for ps) ≡ slice_get (value_for name given value (values_of name ps)) 0
    go true is = rw is refl
    go false is = rw is more

-- the first value in the rows of an option is the first value that the pieces give it
pub first_value_of : (name : OptionName) (ps : List Piece) → first_of (option_text name) (rows_for ps) ≡ slice_get (values_of name ps) 0
first_value_of name [] = refl
first_value_of name (word w ∷ ps) = rw (option_apart name) (first_value_of name ps)
first_value_of name (apart given value ∷ ps) = first_more name given value ps (first_value_of name ps)
first_value_of name (joined given value ∷ ps) = first_more name given value ps (first_value_of name ps)

-- the list has an element
abbrev pub has_some : List (List ℕ) → Bool
has_some [] = false
has_some (x ∷ xs) = true

-- a command word is given where there is one
pub command_given : (ps : List Piece) → is_given (codes "command") (rows_for ps) ≡ has_some (command_words ps)
command_given [] = refl
command_given (word w ∷ ps) = refl
command_given (apart name value ∷ ps) = rw (command_apart name) (command_given ps)
command_given (joined name value ∷ ps) = rw (command_apart name) (command_given ps)
