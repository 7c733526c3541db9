use Rattle.std.proofs.Common.{ℕ, List, ◌∙◌, ap}
use Rattle.nt_text.specs.Lines.{lines}
use Rattle.nt_script.specs.Splitting.{split_from}
use Rattle.nt_script.proofs.Cutting.{split_none, split_some}
use Rattle.nt_script.proofs.splitting.split_at.Goals as goal

pub returns-clause-none : goal.returns-clause-none
returns-clause-none c = split_none c.args.keyword.now c.args.bytes.now c.find_line.result
    (c.find_line.ensures ∙ ap (λ (w : List ℕ). split_from w 0 1 (lines c.args.bytes.now)) c.as_bytes.ensures.value)

pub returns-clause-some : goal.returns-clause-some
returns-clause-some c = split_some c.args.keyword.now c.args.bytes.now c.find_line.result
    (c.find_line.ensures ∙ ap (λ (w : List ℕ). split_from w 0 1 (lines c.args.bytes.now)) c.as_bytes.ensures.value)
