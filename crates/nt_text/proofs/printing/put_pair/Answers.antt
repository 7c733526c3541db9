use Rattle.std.proofs.Common.{rules}
use Rattle.itoa.proofs.Decimal.{decimal_two}
use Rattle.nt_text.proofs.printing.put_pair.Goals as goal

pub returns : goal.returns
returns c = search (rules, decimal_two c.args.n c.requires.0 c.requires.1)
