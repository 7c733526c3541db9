-- What the words of a command line are made of.
use Rattle.std.specs.Prelude.{ℕ, Bool, List, [], ◌∷◌, ◌++◌, codes, if◌then◌else◌}
use Rattle.std.specs.Str.{bytes_eq}
use Rattle.nt_words.specs.declared.option_name.OptionName.{OptionName}
use Rattle.nt_words.specs.declared.option_name.OptionName.TheVariants.{Goal, Seed, Turns, Workers}

abbrev pub option_text : OptionName → List ℕ
option_text Turns = codes "turns"
option_text Seed = codes "seed"
option_text Goal = codes "goal"
option_text Workers = codes "workers"

-- the option as a word of its own
abbrev pub dashed : OptionName → List ℕ
dashed Turns = codes "--turns"
dashed Seed = codes "--seed"
dashed Goal = codes "--goal"
dashed Workers = codes "--workers"

-- what a word begins with that has the option and its value
abbrev pub dashed_equals : OptionName → List ℕ
dashed_equals Turns = codes "--turns="
dashed_equals Seed = codes "--seed="
dashed_equals Goal = codes "--goal="
dashed_equals Workers = codes "--workers="

-- a word by itself, or an option with its value, in two words or in one
pub data Piece : Type 0 where
  word : List ℕ → Piece
  apart : OptionName → List ℕ → Piece
  joined : OptionName → List ℕ → Piece

-- the words that a piece is spelled with
abbrev pub spelling : Piece → List (List ℕ)
spelling (word w) = w ∷ []
spelling (apart name value) = dashed name ∷ value ∷ []
spelling (joined name value) = (dashed_equals name ++ value) ∷ []

abbrev pub words_of : List Piece → List (List ℕ)
words_of [] = []
words_of (piece ∷ pieces) = spelling piece ++ words_of pieces

-- the words that stand by themselves
abbrev pub command_words : List Piece → List (List ℕ)
command_words [] = []
command_words (word w ∷ pieces) = w ∷ command_words pieces
command_words (apart name value ∷ pieces) = command_words pieces
command_words (joined name value ∷ pieces) = command_words pieces

abbrev pub same_option : OptionName → OptionName → Bool
same_option name other = bytes_eq (option_text other) (option_text name)

-- a value among the values of an option, where it is given for that option
abbrev pub value_for : OptionName → OptionName → List ℕ → List (List ℕ) → List (List ℕ)
value_for name given value values = if same_option name given then value ∷ values else values

-- the values that an option is given
abbrev pub values_of : OptionName → List Piece → List (List ℕ)
values_of name [] = []
values_of name (word w ∷ pieces) = values_of name pieces
values_of name (apart given value ∷ pieces) = value_for name given value (values_of name pieces)
values_of name (joined given value ∷ pieces) = value_for name given value (values_of name pieces)
