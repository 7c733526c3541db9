use Rattle.nt_states.proofs.LockMoves.{gets, spins}
use Rattle.nt_states.proofs.locks.SpinLock.leave.Goals as goal

pub returns-in-Gets : goal.returns-in-Gets
returns-in-Gets c s size =
    gets s c.args.k c.args.p c.args.by c.from.result c.args.self.now c.self.inside.holder c.self.inside.spinners.items c.in-Gets.is c.from.ensures
    c.self.view_is size c.requires

pub returns-in-Spins : goal.returns-in-Spins
returns-in-Spins c s size =
    spins s c.args.k c.args.p c.args.by c.from-in-Spins.result c.args.self.now c.self.inside.holder c.self.inside.spinners.items c.in-Spins.is
    c.from-in-Spins.ensures c.self.view_is size c.requires
