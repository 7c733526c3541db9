-- The forms of the program: which lists of words are one.
use Rattle.std.specs.Prelude.{◌≡◌, ◌≤◌, ◌⊎◌, ◌||◌, ℕ, Bool, true, List, [], ◌∷◌, decimal}
use Rattle.std.specs.List.{list_any}
use Rattle.std.specs.Str.{bytes_eq}
use Rattle.nt_event.specs.declared.limits.TheConstants.{TURNS, USUAL_TURNS}
use Rattle.nt_text.specs.Fields.{is_name}
use Rattle.nt_words.specs.declared.form.TheConstants.{GREATEST_SEED, MOST_WORKERS, USUAL_WORKERS}
use Rattle.nt_words.specs.declared.form.Command.{Command}
use Rattle.nt_words.specs.declared.form.Command.TheVariants as command
use Rattle.nt_words.specs.declared.form.Form.{Form}
use Rattle.nt_words.specs.declared.form.Form.TheVariants as form
use Rattle.nt_words.specs.declared.option_name.OptionName.{OptionName}
use Rattle.nt_words.specs.declared.option_name.OptionName.TheVariants.{Goal, Seed, Turns, Workers}
use Rattle.nt_words.specs.Pieces.{Piece, words_of, command_words, values_of}
use Rattle.nt_words.specs.Commands.{command_word, is_built}

abbrev pub command_of : Form → Command
command_of (form.Run turns) = command.Run
command_of (form.Live turns) = command.Live
command_of form.Replay = command.Replay
command_of form.Check = command.Check
command_of (form.Load seed turns) = command.Load
command_of form.Migrate = command.Migrate
command_of form.Verify = command.Verify
command_of (form.Shrink goal) = command.Shrink
command_of (form.Audit turns workers) = command.Audit

-- the option is given once, with this number in decimal, which lies within the bounds
abbrev pub Gives : OptionName → ℕ → ℕ → ℕ → List Piece → Type 0
Gives name least most n pieces = (values_of name pieces ≡ decimal n ∷ []) × (least ≤ n) × (n ≤ most)

abbrev pub IsMissing : OptionName → List Piece → Type 0
IsMissing name pieces = values_of name pieces ≡ []

-- the turn limit is given, or it is missing and this is the usual one
abbrev pub HasTurns : ℕ → List Piece → Type 0
HasTurns turns pieces = Gives Turns 1 TURNS turns pieces ⊎ (IsMissing Turns pieces × (turns ≡ USUAL_TURNS))

-- the seed is given
abbrev pub HasSeed : ℕ → List Piece → Type 0
HasSeed seed pieces = Gives Seed 0 GREATEST_SEED seed pieces

-- the goal is given, and is a name
abbrev pub HasGoal : List ℕ → List Piece → Type 0
HasGoal goal pieces = (values_of Goal pieces ≡ goal ∷ []) × (is_name goal ≡ true)

-- the number of workers is given, or it is missing and this is the usual one
abbrev pub HasWorkers : ℕ → List Piece → Type 0
HasWorkers workers pieces = Gives Workers 1 MOST_WORKERS workers pieces ⊎
    (IsMissing Workers pieces × (workers ≡ USUAL_WORKERS))

-- the turn limit is the only option
pub record HasOnlyTurns (limit : ℕ) (pieces : List Piece) : Type 0 where
  pub turns : HasTurns limit pieces
  pub seed : IsMissing Seed pieces
  pub goal : IsMissing Goal pieces
  pub workers : IsMissing Workers pieces

-- no option is given
pub record HasNoOptions (pieces : List Piece) : Type 0 where
  pub turns : IsMissing Turns pieces
  pub seed : IsMissing Seed pieces
  pub goal : IsMissing Goal pieces
  pub workers : IsMissing Workers pieces

-- the goal is the only option
pub record HasOnlyGoal (name : List ℕ) (pieces : List Piece) : Type 0 where
  pub turns : IsMissing Turns pieces
  pub seed : IsMissing Seed pieces
  pub goal : HasGoal name pieces
  pub workers : IsMissing Workers pieces

-- the turn limit and the number of workers are the only options
pub record HasAudit (limit number : ℕ) (pieces : List Piece) : Type 0 where
  pub turns : HasTurns limit pieces
  pub seed : IsMissing Seed pieces
  pub goal : IsMissing Goal pieces
  pub workers : HasWorkers number pieces

-- the options that are given are those of the form
abbrev pub HasOptions : Form → List Piece → Type 0
HasOptions (form.Run turns) pieces = HasOnlyTurns turns pieces
HasOptions (form.Live turns) pieces = HasOnlyTurns turns pieces
HasOptions form.Replay pieces = HasNoOptions pieces
HasOptions form.Check pieces = HasNoOptions pieces
HasOptions (form.Load seed turns) pieces = HasTurns turns pieces × HasSeed seed pieces × IsMissing Goal pieces ×
    IsMissing Workers pieces
HasOptions form.Migrate pieces = HasNoOptions pieces
HasOptions form.Verify pieces = HasNoOptions pieces
HasOptions (form.Shrink goal) pieces = HasOnlyGoal goal pieces
HasOptions (form.Audit turns workers) pieces = HasAudit turns workers pieces

-- the words are this form: its command word once, and its options, each once at most, in any order and spelling
pub record IsForm (words : List (List ℕ)) (f : Form) : Type 0 where
  pub pieces : List Piece
  pub spelled : words ≡ words_of pieces
  pub command : command_words pieces ≡ command_word (command_of f) ∷ []
  pub built : is_built (command_of f) ≡ true
  pub options : HasOptions f pieces

-- the numbers of a form lie within their ranges, and its goal is a name
abbrev pub IsTurns : ℕ → Type 0
IsTurns turns = (1 ≤ turns) × (turns ≤ TURNS)

abbrev pub IsWorkers : ℕ → Type 0
IsWorkers workers = (1 ≤ workers) × (workers ≤ MOST_WORKERS)

abbrev pub IsWithin : Form → Type 0
IsWithin (form.Run turns) = IsTurns turns
IsWithin (form.Live turns) = IsTurns turns
IsWithin form.Replay = Unit {0}
IsWithin form.Check = Unit {0}
IsWithin (form.Load seed turns) = (seed ≤ GREATEST_SEED) × IsTurns turns
IsWithin form.Migrate = Unit {0}
IsWithin form.Verify = Unit {0}
IsWithin (form.Shrink goal) = is_name goal ≡ true
IsWithin (form.Audit turns workers) = IsTurns turns × IsWorkers workers

-- the word is `live` or `audit`
abbrev pub is_live_word : List ℕ → Bool
is_live_word w = bytes_eq w (command_word command.Live) || bytes_eq w (command_word command.Audit)

-- one of the words is `live` or `audit`
abbrev pub names_live : List (List ℕ) → Bool
names_live words = list_any is_live_word words

abbrev pub WordsHaveOneForm : Type 0
WordsHaveOneForm = (words : List (List ℕ)) (f g : Form) → IsForm words f → IsForm words g → f ≡ g
