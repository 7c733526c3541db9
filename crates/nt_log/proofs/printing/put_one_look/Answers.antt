use Rattle.std.proofs.Common.{◌∷◌, rules}
use Rattle.std.specs.Prelude.{codes}
use Rattle.nt_history.specs.Briefs.{one_rise}
use Rattle.nt_text.proofs.RowTexts.{line_put}
use Rattle.nt_line.specs.Rows.{show_cpu}
use Rattle.nt_log.specs.Schedules.{rises_row}
use Rattle.nt_log.proofs.printing.put_one_look.Goals as goal

pub returns : goal.returns
returns c = line_put _ _ _ _ (codes "look") (show_cpu c.args.cpu ∷ rises_row 0 (one_rise c.args.class c.args.value).value) (search rules)
    c.in_ok-put_one_look_fields.ensures c.in_ok-push.ensures.items
