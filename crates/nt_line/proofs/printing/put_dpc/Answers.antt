use Rattle.std.proofs.Common.{◌∷◌, rules}
use Rattle.nt_text.proofs.RowTexts.{line_put}
use Rattle.nt_line.specs.declared.keywords.Keyword.TheVariants as keyword
use Rattle.nt_line.specs.Keywords.{text_of}
use Rattle.nt_line.specs.NameLists.{show_dpc}
use Rattle.nt_line.specs.Rows.{dpc_args}
use Rattle.nt_line.proofs.printing.put_dpc.Goals as goal

pub returns : goal.returns
returns c = line_put _ _ _ _ (text_of (keyword.Dpc c.args.dpc.now.threaded)) (show_dpc c.args.names.now c.args.d ∷ dpc_args c.args.names.now c.args.dpc.now)
    (search rules) c.in_ok-put_dpc_args.ensures c.in_ok-push.ensures.items
