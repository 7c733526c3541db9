use Rattle.std.proofs.Common.{refl}
use Rattle.nt_frame.proofs.Last.{front_at_last}
use Rattle.nt_frame.proofs.part.outer.Goals as goal

pub returns : goal.returns
returns c = rw c.saturating_sub.ensures (front_at_last c.args.frames.now _ refl)
