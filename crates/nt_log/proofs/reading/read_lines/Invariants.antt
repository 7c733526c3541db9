use Rattle.std.proofs.Common.{◌≡◌, ◌≤◌, ◌+◌, length}
use Rattle.nt_text.specs.declared.lines.TheConstants.{INPUT_LIMIT}
use Rattle.nt_text.specs.Lines.{lines}
use Rattle.nt_event.specs.declared.limits.TheConstants.{CPUS}
use Rattle.nt_log.specs.Reading.{start, walk}
use Rattle.nt_log.proofs.reading.read_lines.Given as goal

abbrev pub invariant-loop-at : goal.invariant-loop-at
invariant-loop-at l = record {
  rest : walk CPUS l.input l.walk l.at l.lines ≡ walk CPUS l.input start l.first_line (lines l.bytes);
  few : l.at + length l.lines ≤ l.first_line + INPUT_LIMIT;
}

abbrev pub decreases-loop-at : goal.decreases-loop-at
decreases-loop-at l = length l.lines
