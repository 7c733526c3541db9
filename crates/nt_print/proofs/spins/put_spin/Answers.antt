use Rattle.std.proofs.Common.{codes, rules, ◌∷◌}
use Rattle.nt_text.proofs.RowTexts.{line_put}
use Rattle.nt_line.specs.NameLists.{show_lock}
use Rattle.nt_print.specs.Report.{show_processor, used}
use Rattle.nt_print.proofs.spins.put_spin.Goals as goal

pub returns : goal.returns
returns c = line_put _ _ _ _ (codes "spins") (show_processor c.args.cpu ∷ show_lock c.args.input.now.names c.args.spin.lock ∷ used c.args.spin.number)
    (search rules) c.in_ok-put_spin_fields.ensures c.in_ok-push.ensures.items
