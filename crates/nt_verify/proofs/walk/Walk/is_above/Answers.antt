use Rattle.std.proofs.Common.{arith}
use Rattle.nt_verify.proofs.Arrays.{held_below}
use Rattle.nt_verify.proofs.walk.Walk.is_above.Goals as goal

pub returns : goal.returns
returns c =
    rw (c.are_below.ensures, ← c.self.view_is) (held_below c.args.lock.0 c.self.inside.count c.self.inside.locks c.self.inside.kept
    (omega (arith, c.self.invariant.arrays.count, c.self.invariant.arrays.locks)))
