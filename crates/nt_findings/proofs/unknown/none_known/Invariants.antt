use Rattle.std.specs.Prelude.{None, get_or, length, ℕ, ◌≡◌}
use Rattle.nt_findings.proofs.unknown.none_known.Given as goal

abbrev pub invariant-loop-place : goal.invariant-loop-place
invariant-loop-place l = record {
  count : length l.fails.items ≡ l.place;
  none : (j : ℕ) → get_or l.fails.items j None ≡ None;
}
