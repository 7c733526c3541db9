use Rattle.std.proofs.Common.{false, get_or, length, max, ℕ, ◌<◌, ◌≡◌, ◌≤◌}
use Rattle.nt_floor.specs.Seen.{SameInterrupts}
use Rattle.nt_floor.proofs.seen.Seen.raise_all.Given as goal

abbrev pub invariant-loop-class : goal.invariant-loop-class
invariant-loop-class l = record {
  len : 0 < l.class → length l.self ≡ 16;
  low : (k : ℕ) → k < l.class → get_or l.self k 0 ≡ max (get_or l.fn.self k 0) (get_or l.fn.values k 0);
  high : (k : ℕ) → l.class ≤ k → k < 16 → get_or l.self k 0 ≡ get_or l.fn.self k 0;
  values : l.values ≡ l.fn.values;
  interrupts : l.interrupts ≡ false → SameInterrupts l.fn.self l.self;
}
