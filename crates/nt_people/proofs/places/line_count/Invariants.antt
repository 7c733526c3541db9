use Rattle.std.proofs.Common.{◌≡◌, ◌+◌, length}
use Rattle.nt_text.specs.Lines.{lines}
use Rattle.nt_people.proofs.places.line_count.Given as goal

abbrev pub invariant-loop-count : goal.invariant-loop-count
invariant-loop-count l = l.count + length l.lines ≡ length (lines l.bytes)

abbrev pub decreases-loop-count : goal.decreases-loop-count
decreases-loop-count l = length l.lines
