use Rattle.nt_search.proofs.FlagsNoted.{AreNotedTo}
use Rattle.nt_search.proofs.flags.note.Given as goal

abbrev pub invariant-loop-place : goal.invariant-loop-place
invariant-loop-place l = AreNotedTo l.watched l.event l.fn.came.items l.came.items l.place
