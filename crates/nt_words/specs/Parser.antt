-- The command as the kit's parser sees it.
use Rattle.std.specs.Prelude.{ℕ, List, true, Some, codes}
use Rattle.clap.specs.Walk.{Rule}
use Rattle.nt_words.specs.declared.option_name.OptionName.{OptionName}
use Rattle.nt_words.specs.declared.option_name.OptionName.TheVariants.{Goal, Seed, Turns, Workers}
use Rattle.nt_words.specs.Pieces.{option_text}
use Rattle.clap.specs.Simple.{App, on_top, new_app, new_rule, with_rule}

abbrev pub command_rule : Rule
command_rule = record (new_rule (codes "command")) { required = true }

abbrev pub named_rule : List ℕ → Rule
named_rule name = record (new_rule name) { long = Some name }

abbrev pub option_rule : OptionName → Rule
option_rule name = named_rule (option_text name)

-- one word that is needed, and the options
unfoldable pub ntrun_app : App
ntrun_app = with_rule (with_rule (with_rule (with_rule (with_rule
    (on_top (λ s. record s { no_binary_name = true; disable_help_flag = true }) (new_app (codes "ntrun")))
    command_rule) (option_rule Turns)) (option_rule Seed)) (option_rule Goal)) (option_rule Workers)
