use Rattle.std.proofs.Common.{ℕ, ◌<◌, ◌≤◌}
use Rattle.nt_shrink.specs.Twins.{IsTwin}
use Rattle.nt_shrink.proofs.searching.Places.before_twins.Given as goal

abbrev pub invariant-loop-count : goal.invariant-loop-count
invariant-loop-count l = record {
  from : l.low ≤ l.count;
  to : l.count ≤ l.high;
  twins : (k : ℕ) → l.count < k → k ≤ l.high → IsTwin l.self.twins.now.flags.items k;
}

abbrev pub decreases-loop-count : goal.decreases-loop-count
decreases-loop-count l = l.count
