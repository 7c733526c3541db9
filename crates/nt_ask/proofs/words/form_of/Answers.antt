use Rattle.std.proofs.Common.{◌∙◌, map}
use Rattle.std.specs.Prelude.{string_bytes}
use Rattle.nt_ask.proofs.Forms.{form_again, is_form}
use Rattle.nt_ask.proofs.words.form_of.Goals as goal

pub returns-clause-some : goal.returns-clause-some
returns-clause-some c = is_form (map string_bytes c.args.words.now) c.of_words.result c.of_words.ensures.value

pub returns-clause-only : goal.returns-clause-only
returns-clause-only c = λ form h. c.of_words.ensures.value ∙ form_again (map string_bytes c.args.words.now) form h
