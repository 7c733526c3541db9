use Rattle.std.proofs.Common.{refl, rules}
use Rattle.nt_witness.proofs.Counts.{no_tally, tally_next}
use Rattle.nt_witness.proofs.counting.most_of.Goals as goal

pub loop-turn-init : goal.loop-turn-init
loop-turn-init c = no_tally 0 refl

pub loop-turn-preserved : goal.loop-turn-preserved
loop-turn-preserved c =
    tally_next c.args.turns.now c.loop-turn.turn-index _ c.cpu.result c.loop-turn.counts c.loop-turn.most c.from-cpu.result c.max-most.result
    c.loop-turn.invariant c.loop-turn-test.true c.cpu.ensures c.from-cpu.ensures (search rules) c.max-most.ensures
