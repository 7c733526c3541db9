use Rattle.std.proofs.Common.{refl}
use Rattle.nt_text.proofs.Cuts.{more_lines}
use Rattle.nt_text.proofs.lines.first_line.Goals as goal

-- where an end of a line was found, one line stands before it
pub returns-in-Some : goal.returns-in-Some
returns-in-Some c = rw (c.cut.ensures.parts, c.in-Some.is, more_lines) refl
