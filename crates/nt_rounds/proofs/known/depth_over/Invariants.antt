use Rattle.std.proofs.Common.{get_or, length, ℕ, ◌+◌, ◌<◌, ◌≡◌, ◌≤◌, ◌⊎◌}
use Rattle.nt_rounds.proofs.known.depth_over.Given as goal

abbrev pub invariant-loop-state : goal.invariant-loop-state
invariant-loop-state l = record {
  bound : l.depth ≤ length l.depths;
  above : (k : ℕ) → k < l.state-index → get_or l.depths (get_or l.states k 0) 0 < l.depth;
  reached : (l.depth ≡ 0) ⊎ ((k : ℕ) × (k < l.state-index) × (l.depth ≡ get_or l.depths (get_or l.states k 0) 0 + 1));
}
