use Rattle.std.specs.Prelude.{get_or, map, take, ◌≡◌}
use Rattle.nt_expect.specs.declared.expectations.Expectation.TheVariants.{AlwaysEnds}
use Rattle.nt_findings.proofs.unknown.at_places.Given as goal

abbrev pub invariant-loop-index : goal.invariant-loop-index
invariant-loop-index l = l.some.items ≡ map (λ j. get_or l.expectations j AlwaysEnds) (take l.index l.places)
