use Rattle.std.proofs.Common.{arith}
use Rattle.nt_frame.proofs.HeldLocks.{held_has}
use Rattle.nt_verify.proofs.walk.Walk.holds.Goals as goal

pub returns : goal.returns
returns c =
    rw (c.has.ensures, ← c.self.view_is) (held_has c.args.lock.0 c.self.inside.count c.self.inside.locks c.self.inside.kept
    (omega (arith, c.self.invariant.arrays.count, c.self.invariant.arrays.locks)))
