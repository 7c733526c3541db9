use Rattle.std.proofs.Common.{refl}
use Rattle.nt_states.proofs.LockMoves.{gets, spins}
use Rattle.nt_shade_dpcs.specs.Shades.{lock_said}
use Rattle.nt_shade_dpcs.proofs.locks.ShadeLock.leave.Goals as goal

pub returns-in-Gets : goal.returns-in-Gets
returns-in-Gets c s k size =
    gets s k c.args.p c.args.by c.from.result (lock_said c.args.self.now) c.args.self.now.holder c.args.self.now.spinners.items c.in-Gets.is
    c.from.ensures refl size c.requires

pub returns-in-Spins : goal.returns-in-Spins
returns-in-Spins c s k size =
    spins s k c.args.p c.args.by c.from-in-Spins.result (lock_said c.args.self.now) c.args.self.now.holder c.args.self.now.spinners.items c.in-Spins.is
    c.from-in-Spins.ensures refl size c.requires
