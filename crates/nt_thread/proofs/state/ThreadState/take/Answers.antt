use Rattle.nt_thread.proofs.Quiet.{quiet-without}
use Rattle.nt_thread.proofs.state.ThreadState.take.Goals as goal

pub invariant_of-self : goal.invariant_of-self
invariant_of-self c =
    quiet-without c.args.p.apc c.self.inside.doing c.self.inside.apcs c.take.new.self c.take.ensures c.self.invariant

pub invariant_of-self-else-eq : goal.invariant_of-self-else-eq
invariant_of-self-else-eq c =
    quiet-without c.args.p.apc c.self.inside.doing c.self.inside.apcs c.take.new.self c.take.ensures c.self.invariant
