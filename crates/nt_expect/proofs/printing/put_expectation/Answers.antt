use Rattle.std.proofs.Common.{rules}
use Rattle.nt_text.proofs.RowTexts.{row_put}
use Rattle.nt_expect.specs.Expectations.{expected_row, is_always, quantifier}
use Rattle.nt_expect.proofs.printing.put_expectation.Goals as goal

pub returns : goal.returns
returns c = row_put _ _ _ (quantifier (is_always c.args.expectation.now)) (expected_row c.args.input.now.names c.args.expectation.now)
    (search rules) c.in_ok-put_expected.ensures
