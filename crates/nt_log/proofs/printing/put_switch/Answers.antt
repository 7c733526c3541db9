use Rattle.std.proofs.Common.{[], ◌∷◌, rules}
use Rattle.std.specs.Prelude.{codes}
use Rattle.nt_text.proofs.RowTexts.{line_put}
use Rattle.nt_line.specs.NameLists.{show_thread}
use Rattle.nt_line.specs.Rows.{show_cpu}
use Rattle.nt_log.proofs.printing.put_switch.Goals as goal

pub returns : goal.returns
returns c = line_put _ _ _ _ (codes "switch") (show_cpu c.args.cpu ∷ show_thread c.args.input.now.names c.args.thread ∷ []) (search rules)
    c.in_ok-put_switch_fields.ensures c.in_ok-push.ensures.items
