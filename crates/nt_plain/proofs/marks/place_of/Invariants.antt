use Rattle.std.proofs.Common.{length, ℕ, ◌+◌, ◌-◌, ◌<◌, ◌≡◌, ◌≤◌}
use Rattle.nt_plain.specs.Rows.{row_at}
use Rattle.nt_plain.proofs.marks.place_of.Given as goal

abbrev pub invariant-loop-low : goal.invariant-loop-low
invariant-loop-low l = record {
  order : l.low ≤ l.high;
  bound : l.high ≤ length l.marked;
  before : (k : ℕ) → k + 1 ≡ l.low → row_at l.marked k < l.row;
  behind : l.high < length l.marked → l.row < row_at l.marked l.high;
}

abbrev pub decreases-loop-low : goal.decreases-loop-low
decreases-loop-low l = l.high - l.low
