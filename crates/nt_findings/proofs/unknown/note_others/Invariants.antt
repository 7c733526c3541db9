use Rattle.nt_findings.specs.Known.{AreJoinedTo}
use Rattle.nt_findings.proofs.unknown.note_others.Given as goal

abbrev pub invariant-loop-place : goal.invariant-loop-place
invariant-loop-place l = AreJoinedTo l.others l.fn.fails.items l.fails.items l.place
