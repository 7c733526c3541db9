use Rattle.std.proofs.Common.{length}
use Rattle.nt_draw.proofs.texts.Texts.read_left.Given as goal

abbrev pub decreases-loop-line : goal.decreases-loop-line
decreases-loop-line l = length l.lines
