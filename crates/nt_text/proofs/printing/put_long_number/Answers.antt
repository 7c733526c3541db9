use Rattle.std.proofs.Common.{rules}
use Rattle.nt_text.proofs.Digits.{five, six}
use Rattle.nt_text.proofs.printing.put_long_number.Goals as goal

pub returns-then-n-lt100000 : goal.returns-then-n-lt100000
returns-then-n-lt100000 c = search (rules, five c.args.n c.requires.0 c.if-n-lt100000.true)

pub returns : goal.returns
returns c = search (rules, six c.args.n c.if-n-lt100000.false c.requires.1)
