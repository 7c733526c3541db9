use Rattle.std.proofs.Common.{ap, subst, ◌∙◌}
use Rattle.nt_rounds.specs.declared.outcome.Depths.{Depths}
use Rattle.nt_search.specs.declared.found.End.TheVariants.{Whole}
use Rattle.nt_search.specs.Ends.{TellsOfEnds}
use Rattle.nt_findings.proofs.Saying.{within_ends}
use Rattle.nt_findings.proofs.question.Question.goes_on.Goals as goal

pub returns-in_default-depths : goal.returns-in_default-depths
returns-in_default-depths c =
    let s = c.args.self.now.script.now in
    within_ends s _ (subst (TellsOfEnds s) (c.in-Whole.is ∙ ap (λ (d : Depths). Whole d) c.in_default-depths.is) c.requires.ends)
