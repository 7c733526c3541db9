use Rattle.std.proofs.Common.{subst, ℕ}
use Rattle.std.specs.Prelude.{List}
use Rattle.nt_expect.specs.declared.expectations.Expectation.{Expectation}
use Rattle.nt_findings.specs.Verdicts.{IsAnswer}
use Rattle.nt_log.specs.Schedules.{turn_bound}
use Rattle.nt_lab.proofs.asking.answer_of.Goals as goal

pub returns : goal.returns
returns c =
    let s = c.args.asked.now.input.script in
    let answer = c.in_ok-answer.answer in
    subst (λ (xs : List Expectation). IsAnswer s (turn_bound s.cpus) c.args.states xs answer) c.as_slice-expectations.ensures
    (subst (λ (limit : ℕ). IsAnswer s limit c.args.states c.as_slice-expectations.result.now answer) c.turn_bound-limit.ensures c.in_ok-answer.ensures)
