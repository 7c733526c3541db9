use Rattle.std.proofs.Common.{rules}
use Rattle.nt_expect.proofs.Contract.{each_fits}
use Rattle.nt_expect.proofs.printing.put_lines.Goals as goal

pub put_line-requires-clause-fits : goal.put_line-requires-clause-fits
put_line-requires-clause-fits c = search (
  rules,
  each_fits c.args.input.now.script c.args.expectations.now c.loop-expectation.expectation-index c.expectation-item.result c.loop-expectation-test.true
      c.requires.fit,
)
