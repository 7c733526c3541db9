use Rattle.std.proofs.Common.{nat_lt, ℕ, ◌<◌, ◌≡◌}
use Rattle.std.specs.Prelude.{false}
use Rattle.nt_event.specs.Lists.{value_at}
use Rattle.nt_floor.proofs.seen.some_above.Given as goal

abbrev pub invariant-loop-i : goal.invariant-loop-i
invariant-loop-i l = record {
  low : (k : ℕ) → k < l.i → nat_lt (value_at l.seen k) (value_at l.values k) ≡ false;
}
