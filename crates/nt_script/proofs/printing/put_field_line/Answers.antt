use Rattle.std.proofs.Common.{◌∷◌, [], rules}
use Rattle.nt_text.proofs.RowTexts.{line_put}
use Rattle.nt_line.specs.Keywords.{text_of}
use Rattle.nt_script.proofs.printing.put_field_line.Goals as goal

pub returns : goal.returns
returns c = line_put _ _ _ _ (text_of c.args.keyword) (c.args.field.now ∷ []) (search rules) c.in_ok-put_field.ensures c.in_ok-push.ensures.items
