use Rattle.std.proofs.Common.{[], ◌∷◌, rules}
use Rattle.std.specs.Prelude.{codes}
use Rattle.std.proofs.lemmas.Fmt.{decimal_digit}
use Rattle.nt_text.proofs.RowTexts.{line_put}
use Rattle.nt_line.specs.Rows.{show_cpu}
use Rattle.nt_log.proofs.OneRow.{two_digits}
use Rattle.nt_log.proofs.printing.put_next.Goals as goal

pub returns-then-cpu-lt10 : goal.returns-then-cpu-lt10
returns-then-cpu-lt10 c = search (rules, decimal_digit c.args.cpu.0 c.if-cpu-lt10.true)

pub returns-then-cpu-lt100 : goal.returns-then-cpu-lt100
returns-then-cpu-lt100 c = search (rules, two_digits c.args.cpu.0 c.if-cpu-lt10.false c.if-cpu-lt100.true)

pub returns : goal.returns
returns c =
    let fields = rw c.from.ensures at c.in_ok-put_number.ensures in
    line_put _ _ _ _ (codes "next") (show_cpu c.args.cpu ∷ []) (search rules) fields c.in_ok-push.ensures.items
