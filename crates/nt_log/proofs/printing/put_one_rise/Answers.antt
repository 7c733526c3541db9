use Rattle.std.proofs.Common.{rules}
use Rattle.nt_log.proofs.Looks.{far_rise_row}
use Rattle.nt_log.proofs.printing.put_one_rise.Goals as goal

pub returns-then-class-ge16 : goal.returns-then-class-ge16
returns-then-class-ge16 c = search (rules, far_rise_row c.args.class c.args.value c.if-class-ge16.true)
