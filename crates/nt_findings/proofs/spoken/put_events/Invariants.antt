use Rattle.std.specs.Prelude.{map, take, ◌++◌, ◌≡◌}
use Rattle.nt_expect.specs.declared.expectations.Expectation.TheVariants.{Never}
use Rattle.nt_findings.proofs.spoken.put_events.Given as goal

abbrev pub invariant-loop-index : goal.invariant-loop-index
invariant-loop-index l = l.all.items ≡ l.fn.all.items ++ map (λ y. Never y.event) (take l.index l.spoken)
