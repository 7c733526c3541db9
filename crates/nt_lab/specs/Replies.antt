-- What is written for a status.
use Rattle.std.specs.Prelude.{List, codes, ℕ}
use Rattle.nt_lab.specs.declared.reply.Text.{Text}
use Rattle.nt_lab.specs.declared.reply.Text.TheVariants.{Line, Made}

-- a text to be written
abbrev pub text_of : Text → List ℕ
text_of (Line line) = line.now
text_of (Made text) = text.items

abbrev pub memory_line : List ℕ
memory_line = codes "no memory\n"

abbrev pub no_expectation_line : List ℕ
no_expectation_line = codes "no expectation\n"

abbrev pub no_witness_line : List ℕ
no_witness_line = codes "no witness\n"

abbrev pub too_many_line : List ℕ
too_many_line = codes "too many turns\n"

abbrev pub unknown_line : List ℕ
unknown_line = codes "unknown\n"
