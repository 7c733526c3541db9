use Rattle.nt_findings.specs.Known.{AreNotedTo}
use Rattle.nt_findings.proofs.unknown.note.Given as goal

abbrev pub invariant-loop-index : goal.invariant-loop-index
invariant-loop-index l = AreNotedTo l.places l.failures l.fn.fails.items l.fails.items l.index
