use Rattle.nt_findings.specs.Known.{AreUnknownTo}
use Rattle.nt_findings.proofs.unknown.places_of.Given as goal

abbrev pub invariant-loop-place : goal.invariant-loop-place
invariant-loop-place l = AreUnknownTo l.fails l.places.items l.place
