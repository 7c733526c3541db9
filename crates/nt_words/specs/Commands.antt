-- The commands of the program.
use Rattle.std.specs.Prelude.{ℕ, Bool, false, true, ◌&&◌, List, Option, codes, find}
use Rattle.std.specs.Str.{bytes_eq}
use Rattle.nt_words.specs.declared.form.Command.{Command}
use Rattle.nt_words.specs.declared.form.Command.TheVariants as command
use Rattle.nt_words.specs.declared.form.TheConstants.{COMMANDS}

abbrev pub command_word : Command → List ℕ
command_word command.Run = codes "run"
command_word command.Live = codes "live"
command_word command.Replay = codes "replay"
command_word command.Check = codes "check"
command_word command.Load = codes "load"
command_word command.Migrate = codes "migrate"
command_word command.Verify = codes "verify"
command_word command.Shrink = codes "shrink"
command_word command.Audit = codes "audit"

-- the program has the command
abbrev pub is_built : Command → Bool
is_built command.Run = true
is_built command.Live = true
is_built command.Replay = true
is_built command.Check = true
is_built command.Load = true
is_built command.Migrate = true
is_built command.Verify = true
is_built command.Shrink = true
is_built command.Audit = true

-- the word names the command, which is built
abbrev pub names_built : List ℕ → Command → Bool
names_built word c = is_built c && bytes_eq word (command_word c)

-- the built command that a word names
unfoldable pub command_named : List ℕ → Option Command
command_named word = find (names_built word) COMMANDS
