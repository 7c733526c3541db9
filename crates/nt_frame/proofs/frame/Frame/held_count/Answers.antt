use Rattle.std.proofs.Common.{sym}
use Rattle.nt_frame.proofs.HeldLocks.{length-held}
use Rattle.nt_frame.proofs.frame.Frame.held_count.Goals as goal

pub returns : goal.returns
returns c = rw (← c.self.view_is) (sym (length-held c.self.inside.count c.self.inside.locks c.self.inside.kept))
