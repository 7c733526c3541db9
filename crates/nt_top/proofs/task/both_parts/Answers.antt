use Rattle.std.proofs.Common.{◌∙◌, ℕ, Err, List, Option, Result, ap, refl, subst}
use Rattle.nt_script.specs.declared.reading.ScriptRefusal.{ScriptRefusal}
use Rattle.nt_script.specs.Gives.{GivesRead}
use Rattle.nt_script.specs.Splitting.{split_from}
use Rattle.nt_text.specs.Lines.{lines}
use Rattle.nt_top.specs.declared.task.Task.{Task}
use Rattle.nt_top.specs.Tasks.{two_parts}
use Rattle.nt_top.proofs.Splits.{line_within}
use Rattle.nt_top.proofs.task.both_parts.Goals as goal

abbrev failed : ScriptRefusal → Result Task ScriptRefusal
failed r = Err r

pub split_parts-requires-clause-line : goal.split_parts-requires-clause-line
split_parts-requires-clause-line c = line_within _ c.args.bytes.now c.in-Some.split.at c.in-Some.split.line c.requires c.in-Some.ensures.some

pub returns-in-None-clause-read : goal.returns-in-None-clause-read
returns-in-None-clause-read c =
    subst (λ (o : Option (ℕ × ℕ)). GivesRead (failed c.without_tail.result) (two_parts c.args.tail o c.args.bytes.now))
    (c.in-None.ensures.exact ∙ ap (λ (w : List ℕ). split_from w 0 1 (lines c.args.bytes.now)) c.word.ensures)
    (c.without_tail.ensures c.args.tail (failed c.without_tail.result) refl)
