use Rattle.std.proofs.Common.{refl}
use Rattle.nt_findings.proofs.Finishing.{said_by_cut}
use Rattle.nt_findings.proofs.question.Question.answer.Goals as goal

pub returns : goal.returns
returns c =
    let f = c.in_ok-finished.finished in
    let left = c.in_ok-finished.ensures.finished in
    record {
      said = said_by_cut c.args.self.now.script.now c.args.expectations.now c.in_ok-said_of.field-0.items f.is_whole f.cut left.whole c.in_ok-said_of.ensures;
      counted = left.counted refl;
    }
