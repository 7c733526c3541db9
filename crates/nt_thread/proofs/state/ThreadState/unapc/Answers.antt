use Rattle.nt_thread.proofs.Quiet.{quiet-without}
use Rattle.nt_thread.proofs.state.ThreadState.unapc.Goals as goal

pub invariant_of-self : goal.invariant_of-self
invariant_of-self c =
    quiet-without c.args.a c.self.inside.doing c.self.inside.apcs c.remove.new.self c.remove.ensures.after c.self.invariant
