use Rattle.std.proofs.Common.{arith, rules, subst, sym}
use Rattle.std.proofs.lemmas.List.Elements.{All-get_or}
use Rattle.nt_expect.proofs.Contract.{each_fits}
use Rattle.nt_ask.specs.declared.answer.Verdict.{Verdict}
use Rattle.nt_ask.specs.Answers.{VerdictFits}
use Rattle.nt_ask.proofs.answer.put_lines.Goals as goal

pub put_line-requires-clause-fits : goal.put_line-requires-clause-fits
put_line-requires-clause-fits c = search (
  rules,
  each_fits c.args.input.now.script c.args.expectations.now c.loop-place.place c.index-expectations-place.result c.loop-place-test.true c.requires.fit,
)

pub put_line-requires-clause-verdict_fits : goal.put_line-requires-clause-verdict_fits
put_line-requires-clause-verdict_fits c =
    let s = c.args.input.now.script in
    let vs = c.args.verdicts.now in
    let v = c.index-verdicts-place.result in
    let test = c.loop-place-test.true in
    let many = c.requires.all in
    subst (λ (v : Verdict). VerdictFits s v) (sym c.index-verdicts-place.is)
    (All-get_or (VerdictFits s) vs c.loop-place.place v (omega (arith, test, many)) c.requires.verdicts_fit)
