use Rattle.std.proofs.Common.{sym}
use Rattle.nt_frame.proofs.Ended.{closed_on}
use Rattle.nt_frame.proofs.frames.Frames.gone.Goals as goal

pub invariant_of-self : goal.invariant_of-self
invariant_of-self c =
    rw (c.take.ensures.after, c.clear.ensures) (closed_on (record {
      own = c.self.inside.own;
      running = c.self.inside.running;
      threads = c.self.inside.threads.items;
    }) c.in-Some.t c.self.invariant (rw (← c.self.view_is) at c.requires) (sym c.in-Some.ensures.value))
