use Rattle.std.proofs.Common.{length, ℕ, ◌<◌, ◌≡◌, ◌≤◌}
use Rattle.nt_rounds.specs.Known.{AreKnown, IsStuck}
use Rattle.nt_rounds.proofs.known.Known.pass.Given as goal

abbrev pub invariant-loop-state : goal.invariant-loop-state
invariant-loop-state l = record {
  known : AreKnown l.graph.closed l.self.depths.items l.self.count;
  more : l.fn.self.count ≤ l.self.count;
  stuck : l.self.count ≡ l.fn.self.count → (n : ℕ) → l.state ≤ n → n < length l.graph.closed →
      IsStuck l.graph.closed l.self.depths.items n;
}
