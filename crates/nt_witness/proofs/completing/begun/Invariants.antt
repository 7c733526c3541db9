use Rattle.std.proofs.Common.{drop}
use Rattle.nt_witness.proofs.Leading.{HasBegun}
use Rattle.nt_witness.proofs.completing.begun.Given as goal

abbrev pub invariant-loop-turn : goal.invariant-loop-turn
invariant-loop-turn l = HasBegun l.script l.limit l.turns (drop l.turn-index l.turns) l.core
