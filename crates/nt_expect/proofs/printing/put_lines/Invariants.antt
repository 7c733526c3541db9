use Rattle.std.proofs.Common.{◌≡◌, ◌++◌, drop, map}
use Rattle.nt_text.specs.Lines.{rows_text}
use Rattle.nt_expect.specs.Expectations.{expectation_row}
use Rattle.nt_expect.proofs.printing.put_lines.Given as goal

-- what was put and what is left is all of it
abbrev pub invariant-loop-expectation : goal.invariant-loop-expectation
invariant-loop-expectation l = l.out.items ++ rows_text (map (expectation_row l.input.names) (drop l.expectation-index l.expectations))
    ≡ l.fn.out.items ++ rows_text (map (expectation_row l.input.names) l.expectations)
