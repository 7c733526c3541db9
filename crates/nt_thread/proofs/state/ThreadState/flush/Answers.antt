use Rattle.nt_thread.proofs.Quiet.{quiet-flushed}
use Rattle.nt_thread.proofs.state.ThreadState.flush.Goals as goal

pub invariant_of-self : goal.invariant_of-self
invariant_of-self c =
    quiet-flushed c.flush_next.result c.self.inside.doing c.self.inside.apcs c.flush_next.new.self c.flush_next.ensures.after c.flush_next.ensures.none
    c.self.invariant
