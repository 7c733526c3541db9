use Rattle.std.proofs.Common.{◌≡◌, ◌+◌, ◌≤◌, length}
use Rattle.nt_text.specs.declared.lines.TheConstants.{INPUT_LIMIT}
use Rattle.nt_text.specs.Lines.{lines}
use Rattle.nt_report.specs.Reading.{start, walk}
use Rattle.nt_report.proofs.reading.read_parts.Given as goal

abbrev pub invariant-loop-at : goal.invariant-loop-at
invariant-loop-at l = record {
  known : l.known ≡ l.input;
  rest : walk l.input l.walk l.at l.lines ≡ walk l.input start l.first_line (lines l.bytes);
  few : l.at + length l.lines ≤ INPUT_LIMIT + INPUT_LIMIT + 1;
}

abbrev pub decreases-loop-at : goal.decreases-loop-at
decreases-loop-at l = length l.lines
