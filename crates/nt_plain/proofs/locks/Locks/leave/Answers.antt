use Rattle.std.proofs.Common.{ap, sym, ◌∙◌}
use Rattle.nt_states.specs.LockMoves.{move_in}
use Rattle.nt_plain.proofs.LocksLeft.{moved_here, none_moved}
use Rattle.nt_plain.proofs.locks.Locks.leave.Goals as goal

pub returns-in-Some : goal.returns-in-Some
returns-in-Some c s may =
    moved_here s c.args.p c.args.what.now c.self.inside.locks.items c.args.self.now c.from.result c.in-Some.k c.in-Some.by c.index_mut.result.now
    c.leave.new.self c.self.view_is c.from.ensures may (ap move_in (sym c.in-Some.is) ∙ c.moved_lock.ensures) c.index_mut.ensures.value c.leave.ensures

pub returns-in_default : goal.returns-in_default
returns-in_default c s may =
    none_moved s c.args.p c.args.what.now c.args.self.now may.locks (ap move_in (sym c.in_default.is) ∙ c.moved_lock.ensures)
