use Rattle.std.proofs.Common.{rules}
use Rattle.std.proofs.lemmas.Fmt.{decimal_digit}
use Rattle.itoa.proofs.Decimal.{decimal_two}
use Rattle.nt_text.proofs.printing.put_processor.Goals as goal

pub returns-then-room-ge3 : goal.returns-then-room-ge3
returns-then-room-ge3 c = search (rules, decimal_digit c.args.n c.if-n-lt10.true)

pub returns-then-room-ge4 : goal.returns-then-room-ge4
returns-then-room-ge4 c = search (rules, decimal_two c.args.n c.if-n-ge10.true c.if-n-lt100.true)
