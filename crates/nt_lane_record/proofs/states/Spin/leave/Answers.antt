use Rattle.std.proofs.Common.{ap, length, sym, ◌∙◌}
use Rattle.nt_states.specs.LockMoves.{move_in}
use Rattle.nt_lane_record.specs.Held.{SpinFacts}
use Rattle.nt_lane_record.proofs.Moved.{moved_so}
use Rattle.nt_lane_record.proofs.states.Spin.leave.Goals as goal

pub returns-then-k-self : goal.returns-then-k-self
returns-then-k-self c s size =
    moved_so s c.in-Some.k c.self.inside.lock c.in-Some.by c.args.p c.args.what.now c.args.self.now c.self.inside.state c.leave.new.self c.self.view_is
    c.if-k-self.true (ap move_in (sym c.in-Some.is) ∙ c.moved_lock.ensures)
    (c.leave.ensures s (size ∙ sym (ap (λ (y : SpinFacts). length y.state.spinners) c.self.view_is)))
