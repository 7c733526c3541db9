use Rattle.std.proofs.Common.{rules}
use Rattle.std.proofs.lemmas.Fmt.{decimal_digit}
use Rattle.itoa.proofs.Decimal.{decimal_two}
use Rattle.nt_text.proofs.Digits.{three, four}
use Rattle.nt_text.proofs.printing.put_short.Goals as goal

pub returns-then-n-lt10 : goal.returns-then-n-lt10
returns-then-n-lt10 c = search (rules, decimal_digit c.args.n c.if-n-lt10.true)

pub returns-then-n-lt100 : goal.returns-then-n-lt100
returns-then-n-lt100 c = search (rules, decimal_two c.args.n c.if-n-lt10.false c.if-n-lt100.true)

pub returns-then-n-lt1000 : goal.returns-then-n-lt1000
returns-then-n-lt1000 c = search (rules, three c.args.n c.if-n-lt100.false c.if-n-lt1000.true)

pub returns : goal.returns
returns c = search (rules, four c.args.n c.if-n-lt1000.false c.requires)
