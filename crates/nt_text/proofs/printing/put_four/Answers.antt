use Rattle.std.proofs.Common.{rules}
use Rattle.nt_text.proofs.Digits.{four}
use Rattle.nt_text.proofs.printing.put_four.Goals as goal

pub returns : goal.returns
returns c = search (rules, four c.args.n c.requires.0 c.requires.1)
