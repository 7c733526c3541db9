use Rattle.std.specs.Prelude.{length, not, ◌≡◌}
use Rattle.nt_event.specs.declared.scripts.Script.{Script}
use Rattle.nt_expect.specs.declared.expectations.Expectation.TheVariants.{AlwaysEnds}
use Rattle.nt_findings.specs.Verdicts.{IsSaid, TellsOfAll}
use Rattle.nt_findings.proofs.Saying.{AreSaidTo}
use Rattle.nt_findings.proofs.answering.verdicts_of.Given as goal

abbrev pub invariant-loop-place : goal.invariant-loop-place
invariant-loop-place l = record {
  count : length l.verdicts.items ≡ l.place;
  each : (s : Script) → TellsOfAll s l.whole l.expectations l.fails → IsSaid s (not l.whole) AlwaysEnds l.ends →
      AreSaidTo s (not l.whole) l.expectations l.verdicts.items l.place;
}
