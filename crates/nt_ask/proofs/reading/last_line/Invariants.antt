use Rattle.std.proofs.Common.{◌≡◌, ◌+◌, length}
use Rattle.nt_text.specs.Lines.{lines}
use Rattle.nt_ask.proofs.reading.last_line.Given as goal

abbrev pub invariant-loop-number : goal.invariant-loop-number
invariant-loop-number l = l.number + length l.lines ≡ 1 + length (lines l.bytes)

abbrev pub decreases-loop-number : goal.decreases-loop-number
decreases-loop-number l = length l.lines
