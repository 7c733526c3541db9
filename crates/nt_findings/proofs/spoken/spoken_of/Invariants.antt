use Rattle.std.specs.Prelude.{All}
use Rattle.nt_findings.specs.Spoken.{IsSpoken}
use Rattle.nt_findings.proofs.spoken.spoken_of.Given as goal

abbrev pub invariant-loop-place : goal.invariant-loop-place
invariant-loop-place l = All (IsSpoken l.expectations) l.spoken.items
