use Rattle.std.proofs.Common.{◌∙◌, arith}
use Rattle.nt_line.specs.Keywords.{word_of}
use Rattle.nt_line.proofs.Letters.{among_field}
use Rattle.nt_line.proofs.keywords.word_of.Goals as goal

pub returns-in-len1-up : goal.returns-in-len1-up
unfolding word_of
returns-in-len1-up c = c.beginning_with.ensures ∙ among_field c.args.field.now _ (omega arith)
