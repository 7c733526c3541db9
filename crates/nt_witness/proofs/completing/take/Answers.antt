use Rattle.nt_witness.proofs.Leading.{taken}
use Rattle.nt_witness.proofs.completing.take.Goals as goal

pub returns : goal.returns
returns c =
    taken c.args.core.now c.turn-taken.new.self c.turn-taken.result c.args.turn.now c.turn-taken.ensures.ok c.turn-taken.ensures.err
    c.turn-taken.ensures.same
