use Rattle.nt_frame.proofs.Kept.{change_on_own, change_on_thread}
use Rattle.nt_frame.proofs.frames.Frames.change.Goals as goal

pub invariant_of-self : goal.invariant_of-self
invariant_of-self c =
    rw c.change.ensures (change_on_own c.args.change.now (record {
      own = c.self.inside.own;
      running = c.self.inside.running;
      threads = c.self.inside.threads.items;
    }) c.self.invariant (rw (← c.self.view_is) at c.requires.nested) (cc))

pub invariant_of-self-in-Some : goal.invariant_of-self-in-Some
invariant_of-self-in-Some c =
    rw c.change-in-Some.ensures (change_on_thread c.args.change.now (record {
      own = c.self.inside.own;
      running = c.self.inside.running;
      threads = c.self.inside.threads.items;
    }) c.in-Some.t c.self.invariant (rw (← c.self.view_is) at c.requires.nested) (cc) (c.in-Some.is))
