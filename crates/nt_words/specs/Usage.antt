-- The line that is written where the words are no form.
use Rattle.std.specs.Prelude.{◌≡◌, ℕ, List, [], ◌∷◌, ◌++◌, codes, if◌then◌else◌, map, filter}
use Rattle.std.specs.List.{join_with_byte}
use Rattle.nt_words.specs.declared.form.Command.TheVariants as command
use Rattle.nt_words.specs.declared.form.TheConstants.{COMMANDS, USAGE}
use Rattle.nt_words.specs.Commands.{command_word, is_built}

-- the built commands with a bar (124) between two, and the options that they have
unfoldable pub usage_line : List ℕ
usage_line = codes "usage: ntrun " ++ join_with_byte 124 (map command_word (filter is_built COMMANDS))
    ++ codes " [--turns N]" ++ (if is_built command.Load then codes " [--seed N]" else [])
    ++ (if is_built command.Shrink then codes " [--goal NAME]" else [])
    ++ (if is_built command.Audit then codes " [--workers N]" else []) ++ 10 ∷ []

abbrev pub UsageNamesWhatIsBuilt : Type 0
UsageNamesWhatIsBuilt = USAGE.now ≡ usage_line
