use Rattle.std.specs.Prelude.{take, ◌++◌, ◌≡◌}
use Rattle.nt_findings.proofs.spoken.put_all.Given as goal

abbrev pub invariant-loop-index : goal.invariant-loop-index
invariant-loop-index l = l.all.items ≡ l.fn.all.items ++ take l.index l.expectations
