use Rattle.std.proofs.Common.{arith}
use Rattle.nt_frame.proofs.HeldLocks.{held_has}
use Rattle.nt_frame.proofs.frame.Frame.holds.Goals as goal

pub returns : goal.returns
returns c =
    rw (c.has.ensures, ← c.self.view_is) (held_has c.args.lock.0 c.self.inside.count c.self.inside.locks c.self.inside.kept
    (omega (arith, c.self.invariant.count, c.self.invariant.locks)))
