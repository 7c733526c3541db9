use Rattle.std.proofs.Common.{◌≡◌, ◌≤◌, ◌+◌, length}
use Rattle.nt_text.specs.declared.lines.TheConstants.{INPUT_LIMIT}
use Rattle.nt_text.specs.Lines.{lines}
use Rattle.nt_expect.specs.Reading.{start, walk}
use Rattle.nt_expect.proofs.reading.read_lines.Given as goal

abbrev pub invariant-loop-line : goal.invariant-loop-line
invariant-loop-line l = record {
  rest : walk l.input l.walk l.at l.lines ≡ walk l.input start l.first_line (lines l.bytes);
  few : l.at + length l.lines ≤ l.first_line + INPUT_LIMIT;
}

abbrev pub decreases-loop-line : goal.decreases-loop-line
decreases-loop-line l = length l.lines
