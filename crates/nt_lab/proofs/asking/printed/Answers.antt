use Rattle.std.proofs.Common.{refl, subst, sym, ◌≡◌}
use Rattle.std.specs.Prelude.{List, is_some}
use Rattle.nt_ask.specs.declared.answer.Status.{Status}
use Rattle.nt_ask.specs.Answers.{answer_text}
use Rattle.nt_expect.specs.declared.expectations.Expectation.{Expectation}
use Rattle.nt_lab.specs.Outcome.{IsAskReply}
use Rattle.nt_findings.proofs.Saying.{verdicts_fit}
use Rattle.nt_lab.proofs.Said.{well_replied}
use Rattle.nt_lab.proofs.asking.printed.Goals as goal

pub returns-in-Ok : goal.returns-in-Ok
returns-in-Ok c =
    let asked = c.args.asked.now in
    let answer = c.args.answer.now in
    let text = c.in-Ok.text.items in
    let written = subst (λ (xs : List Expectation). text ≡ answer_text asked.input.names xs answer) c.as_slice.ensures c.in-Ok.ensures in
    subst (λ (status : Status). IsAskReply asked c.args.states status text) (sym c.verdict_status.ensures)
    (well_replied asked c.args.states answer.verdicts.items text (record { answer = answer; is = c.requires.is; written = written; ends = refl }))

pub print_answer-requires-clause-verdicts_fit : goal.print_answer-requires-clause-verdicts_fit
print_answer-requires-clause-verdicts_fit c =
    let asked = c.args.asked.now in
    verdicts_fit asked.input.script (is_some c.args.answer.now.cut) asked.expectations c.args.answer.now.verdicts.items c.requires.fit c.requires.is.said
