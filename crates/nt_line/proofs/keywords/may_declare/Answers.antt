use Rattle.std.proofs.Common.{sym, ◌∙◌, arith}
use Rattle.nt_line.proofs.Declaring.{other_letters, too_short}
use Rattle.nt_line.proofs.keywords.may_declare.Goals as goal

pub returns-in_default : goal.returns-in_default
returns-in_default c e = too_short c.args.line.now (omega (arith, c.in_default.len_below))

pub returns-in-len3-up : goal.returns-in-len3-up
returns-in-len3-up c e = other_letters c.args.line.now _ _ (omega (arith, c.in-len3-up.len_at_least)) (sym c.has_declaring_letters.ensures ∙ e)
