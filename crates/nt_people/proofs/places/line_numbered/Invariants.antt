use Rattle.std.proofs.Common.{◌≡◌, [], false, get_or, length}
use Rattle.nt_friendly.specs.Text.{line_numbered}
use Rattle.nt_people.proofs.places.line_numbered.Given as goal

-- the line is found among those that are left
abbrev pub invariant-loop-line : goal.invariant-loop-line
invariant-loop-line l = (get_or l.lines l.before ([], false)).0 ≡ line_numbered l.bytes l.number

abbrev pub decreases-loop-line : goal.decreases-loop-line
decreases-loop-line l = length l.lines
