use Rattle.std.proofs.Common.{List, subst, sym}
use Rattle.std.specs.Prelude.{Option, not, ℕ}
use Rattle.nt_expect.specs.declared.expectations.Expectation.TheVariants.{AlwaysEnds}
use Rattle.nt_findings.specs.declared.question.Question.{Question}
use Rattle.nt_findings.specs.Questions.{IsFinished}
use Rattle.nt_findings.specs.Verdicts.{IsSaid}
use Rattle.nt_findings.proofs.Finishing.{few_finished}
use Rattle.nt_findings.proofs.question.Question.settle.Goals as goal

pub settle_few-requires-clause-finished : goal.settle_few-requires-clause-finished
settle_few-requires-clause-finished c =
    let q = c.args.self.now in
    subst (λ (fails : List (Option ℕ)). IsFinished q c.args.wanted fails c.in_ok-few.few) (sym c.as_slice.ensures.value)
    (few_finished q c.few.result c.few.result.most c.args.wanted _ c.in_ok-few.few c.few.ensures.same c.few.ensures.less
    c.if-few.true c.in_ok-few.ensures.finished)

pub settle_all-requires-clause-ends : goal.settle_all-requires-clause-ends
settle_all-requires-clause-ends c =
    let few = c.in_ok-few.few in
    subst (λ (q : Question). IsSaid q.script.now (not few.is_whole) AlwaysEnds few.ends) c.few.ensures.same c.in_ok-few.ensures.finished.ends
