use Rattle.std.proofs.Common.{arith, subst, sym}
use Rattle.std.specs.Prelude.{Bool, not}
use Rattle.nt_expect.specs.declared.expectations.Expectation.TheVariants.{AlwaysEnds}
use Rattle.nt_findings.specs.Verdicts.{IsSaid}
use Rattle.nt_findings.proofs.question.Question.finished_by.Goals as goal

pub returns-clause-ends : goal.returns-clause-ends
returns-clause-ends c =
    let s = c.args.self.now.script.now in
    subst (λ (b : Bool). IsSaid s (not b) AlwaysEnds c.in_ok-of_ends.field-0) (sym c.is_whole.ensures) (c.in_ok-of_ends.ensures s c.requires.ends)

pub count_within-requires : goal.count_within-requires
count_within-requires c =
    let few = c.requires.shown.few in
    let len = c.len.ensures in
    omega (arith, few, len)
