use Rattle.std.proofs.Common.{subst, sym}
use Rattle.nt_findings.specs.Questions.{IsFinished, IsShownFor}
use Rattle.nt_findings.proofs.Finishing.{shown_so}
use Rattle.nt_findings.proofs.question.Question.settle_all.Goals as goal

pub returns-in-Some-clause-finished : goal.returns-in-Some-clause-finished
returns-in-Some-clause-finished c =
    let q = c.args.self.now in
    let fails = c.hunt.new.fails.items in
    subst (IsFinished q c.args.wanted fails) (sym c.with_turns.ensures)
    (shown_so q c.args.wanted fails c.args.few c.in-Some.shown c.requires.whole c.requires.part c.requires.ends
    (subst (IsShownFor q c.args.wanted) c.in-Some.is c.in_ok-shown.ensures.shown))
