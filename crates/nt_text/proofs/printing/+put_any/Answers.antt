use Rattle.std.proofs.Common.{arith, append_assoc}
use Rattle.nt_text.proofs.Digits.{longer}
use Rattle.nt_text.proofs.printing.+put_any.Goals as goal

pub returns : goal.returns
returns t c = grind (arith, append_assoc, longer c.args.n c.if-n-lt10000.false c.ranges.n.fits)
