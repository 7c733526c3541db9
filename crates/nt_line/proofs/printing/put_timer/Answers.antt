use Rattle.std.proofs.Common.{◌∷◌, rules}
use Rattle.nt_text.proofs.RowTexts.{line_put}
use Rattle.nt_line.specs.declared.keywords.Keyword.TheVariants as keyword
use Rattle.nt_line.specs.Keywords.{text_of}
use Rattle.nt_line.specs.NameLists.{show_timer}
use Rattle.nt_line.specs.Rows.{timer_args}
use Rattle.nt_line.proofs.printing.put_timer.Goals as goal

pub returns : goal.returns
returns c = line_put _ _ _ _ (text_of keyword.Timer) (show_timer c.args.names.now c.args.t ∷ timer_args c.args.names.now c.args.timer.now)
    (search rules) c.in_ok-put_timer_args.ensures c.in_ok-push.ensures.items
