use Rattle.std.proofs.Common.{◌≡◌, ◌+◌, ◌≤◌, length}
use Rattle.nt_text.specs.declared.lines.TheConstants.{INPUT_LIMIT}
use Rattle.nt_text.specs.Lines.{lines}
use Rattle.nt_report.specs.Reading.{lines_alike}
use Rattle.nt_report.proofs.comparing.lines_alike.Given as goal

abbrev pub invariant-loop-line : goal.invariant-loop-line
invariant-loop-line l = record {
  rest : l.alike + lines_alike l.mine l.others ≡ lines_alike (lines l.text) (lines l.other);
  few : l.alike + length l.others ≤ INPUT_LIMIT;
}

abbrev pub decreases-loop-line : goal.decreases-loop-line
decreases-loop-line l = length l.mine
