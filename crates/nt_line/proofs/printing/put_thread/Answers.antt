use Rattle.std.proofs.Common.{◌∷◌, rules}
use Rattle.nt_text.proofs.RowTexts.{line_put}
use Rattle.nt_line.specs.declared.keywords.Keyword.TheVariants as keyword
use Rattle.nt_line.specs.Keywords.{text_of}
use Rattle.nt_line.specs.NameLists.{show_thread}
use Rattle.nt_line.specs.Rows.{thread_args}
use Rattle.nt_line.proofs.printing.put_thread.Goals as goal

pub returns : goal.returns
returns c = line_put _ _ _ _ (text_of keyword.Thread) (show_thread c.args.names.now c.args.t ∷ thread_args c.args.names.now c.args.thread.now)
    (search rules) c.in_ok-put_thread_args.ensures c.in_ok-push.ensures.items
