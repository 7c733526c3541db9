use Rattle.std.proofs.Common.{length, ◌-◌}
use Rattle.nt_rounds.specs.Known.{AreKnown}
use Rattle.nt_rounds.proofs.known.Known.find_all.Given as goal

abbrev pub invariant-loop-self : goal.invariant-loop-self
invariant-loop-self l = AreKnown l.graph.closed l.self.depths.items l.self.count

abbrev pub decreases-loop-self : goal.decreases-loop-self
decreases-loop-self l = length l.graph.closed - l.self.count
