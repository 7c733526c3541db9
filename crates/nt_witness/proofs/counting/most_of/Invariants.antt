use Rattle.std.proofs.Common.{take}
use Rattle.nt_witness.proofs.Counts.{IsTally}
use Rattle.nt_witness.proofs.counting.most_of.Given as goal

abbrev pub invariant-loop-turn : goal.invariant-loop-turn
invariant-loop-turn l = IsTally (take l.turn-index l.turns) l.counts l.most
