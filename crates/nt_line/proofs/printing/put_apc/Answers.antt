use Rattle.std.proofs.Common.{◌∷◌, rules}
use Rattle.nt_text.proofs.RowTexts.{line_put}
use Rattle.nt_line.specs.declared.keywords.Keyword.TheVariants as keyword
use Rattle.nt_line.specs.Keywords.{text_of}
use Rattle.nt_line.specs.NameLists.{show_apc}
use Rattle.nt_line.specs.Rows.{apc_args}
use Rattle.nt_line.proofs.printing.put_apc.Goals as goal

pub returns : goal.returns
returns c = line_put _ _ _ _ (text_of (keyword.Apc c.args.apc.now.kind)) (show_apc c.args.names.now c.args.a ∷ apc_args c.args.names.now c.args.apc.now)
    (search rules) c.in_ok-put_apc_args.ensures c.in_ok-push.ensures.items
