use Rattle.std.proofs.Common.{subst, sym, ◌∙◌}
use Rattle.nt_findings.specs.Questions.{IsFinished, IsShownFor}
use Rattle.nt_findings.proofs.Finishing.{shown_by_others}
use Rattle.nt_findings.proofs.Joining.{joined_finished, joined_known}
use Rattle.nt_findings.proofs.question.Question.settle_few.Goals as goal

pub note_others-requires : goal.note_others-requires
note_others-requires c = c.requires.few.count ∙ sym c.hunt_again.ensures.known.count

pub returns-in-Some-clause-known : goal.returns-in-Some-clause-known
returns-in-Some-clause-known c =
    let q = c.args.self.now in
    joined_known q.script.now q.expectations.now c.args.known.now c.hunt_again.new.fails.items c.note_others.new.fails.items c.requires.few
    c.hunt_again.ensures.known c.note_others.ensures

pub returns-in-None-clause-known : goal.returns-in-None-clause-known
returns-in-None-clause-known c =
    let q = c.args.self.now in
    joined_known q.script.now q.expectations.now c.args.known.now c.hunt_again.new.fails.items c.note_others.new.fails.items c.requires.few
    c.hunt_again.ensures.known c.note_others.ensures

pub returns-in-Some-clause-finished : goal.returns-in-Some-clause-finished
returns-in-Some-clause-finished c =
    let q = c.args.self.now in
    let fails = c.note_others.new.fails.items in
    let few = joined_finished q c.args.wanted c.args.known.now c.hunt_again.new.fails.items fails c.args.few c.requires.few c.note_others.ensures
    c.requires.finished in
    let shown = subst (IsShownFor q c.args.wanted) c.in-Some.is c.in_ok-shown.ensures.shown in
    subst (IsFinished q c.args.wanted fails) (sym c.with_turns.ensures) (shown_by_others q c.args.wanted fails c.args.few c.in-Some.shown few shown)

pub returns-in-None-clause-finished : goal.returns-in-None-clause-finished
returns-in-None-clause-finished c =
    joined_finished c.args.self.now c.args.wanted c.args.known.now c.hunt_again.new.fails.items c.note_others.new.fails.items c.args.few c.requires.few
    c.note_others.ensures c.requires.finished
