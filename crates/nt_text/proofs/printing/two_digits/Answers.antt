use Rattle.std.proofs.Common.{refl}
use Rattle.nt_text.proofs.Digits.{pairs_at}
use Rattle.nt_text.proofs.printing.two_digits.Goals as goal

pub returns : goal.returns
returns c = let p = pairs_at c.args.n c.requires in rw (p.0, p.1) refl
