use Rattle.std.proofs.Common.{◌∷◌, [], decimal, rules}
use Rattle.nt_text.proofs.RowTexts.{line_put}
use Rattle.nt_line.specs.Keywords.{text_of}
use Rattle.nt_script.proofs.printing.put_number_line.Goals as goal

pub returns : goal.returns
returns c = line_put _ _ _ _ (text_of c.args.keyword) (decimal c.args.n ∷ []) (search rules) c.in_ok-put_number.ensures c.in_ok-push.ensures.items
