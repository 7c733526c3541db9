use Rattle.std.proofs.Common.{take, ◌≡◌}
use Rattle.nt_frame.proofs.frames.Frames.copy.Given as goal

abbrev pub invariant-loop-part : goal.invariant-loop-part
invariant-loop-part l = l.threads.items ≡ take l.part-index l.self.threads
