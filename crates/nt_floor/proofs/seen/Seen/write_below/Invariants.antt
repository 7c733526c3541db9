use Rattle.std.proofs.Common.{get_or, length, nat_lt, ℕ, ◌<◌, ◌≡◌}
use Rattle.std.specs.Prelude.{if◌then◌else◌}
use Rattle.nt_floor.proofs.seen.Seen.write_below.Given as goal

abbrev pub invariant-loop-i : goal.invariant-loop-i
invariant-loop-i l = record {
  len : length l.rises.value ≡ 16;
  low : (k : ℕ) → k < l.i → get_or l.rises.value k 0 ≡ (if nat_lt (get_or l.self k 0) (get_or l.values k 0) then get_or l.values k 0 else 0);
}
