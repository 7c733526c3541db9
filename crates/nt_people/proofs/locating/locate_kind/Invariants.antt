use Rattle.std.proofs.Common.{length}
use Rattle.nt_people.proofs.locating.locate_kind.Given as goal

abbrev pub decreases-loop-field : goal.decreases-loop-field
decreases-loop-field l = length l.fields
