use Rattle.nt_states.proofs.LockMoves.{free_start}
use Rattle.nt_shade_dpcs.proofs.locks.ShadeLock.new.Goals as goal

pub returns : goal.returns
returns c =
    free_start c.args.script.now c.from.result c.in_ok-spinners.spinners.items c.from.ensures
    (c.in_ok-spinners.ensures.items_if_clones_equal (λ y e. e))
