use Rattle.std.proofs.Common.{get_or, length, max, ℕ, ◌+◌, ◌<◌, ◌≡◌, ◌≤◌}
use Rattle.nt_lane_record.proofs.record.raise_from.Given as goal

abbrev pub invariant-loop-i : goal.invariant-loop-i
invariant-loop-i l = record {
  len : length l.values ≡ 16;
  low : (k : ℕ) → k < l.i → get_or l.values k 0 ≡ max (get_or l.told (l.first + k) 0) (get_or l.fn.values k 0);
  high : (k : ℕ) → l.i ≤ k → get_or l.values k 0 ≡ get_or l.fn.values k 0;
  told : l.told ≡ l.fn.told;
}
