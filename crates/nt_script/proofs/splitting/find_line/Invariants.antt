use Rattle.std.proofs.Common.{◌≡◌, ◌≤◌, ◌+◌, length}
use Rattle.nt_text.specs.declared.lines.TheConstants.{INPUT_LIMIT}
use Rattle.nt_text.specs.Lines.{lines}
use Rattle.nt_script.specs.Splitting.{split_from}
use Rattle.nt_script.proofs.Cutting.{bytes_of}
use Rattle.nt_script.proofs.splitting.find_line.Given as goal

abbrev pub invariant-loop-line : goal.invariant-loop-line
invariant-loop-line l = record {
  rest : split_from l.keyword l.at l.number l.lines ≡ split_from l.keyword 0 1 (lines l.bytes);
  within : l.at + bytes_of l.lines ≤ INPUT_LIMIT + 1;
  few : l.number + length l.lines ≤ INPUT_LIMIT + 1;
}

abbrev pub decreases-loop-line : goal.decreases-loop-line
decreases-loop-line l = length l.lines
