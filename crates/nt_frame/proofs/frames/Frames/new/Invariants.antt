use Rattle.std.proofs.Common.{◌≡◌, []}
use Rattle.nt_event.specs.Lists.{table}
use Rattle.nt_frame.proofs.frames.Frames.new.Given as goal

abbrev pub invariant-loop-thread : goal.invariant-loop-thread
invariant-loop-thread l = l.parts.items ≡ table l._thread (λ _. [])
