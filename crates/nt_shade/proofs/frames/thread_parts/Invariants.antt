use Rattle.std.proofs.Common.{map, take, ◌≡◌}
use Rattle.nt_alike.specs.Bare.{bare_frame}
use Rattle.nt_shade.specs.Frames.{part_said}
use Rattle.nt_shade.proofs.frames.thread_parts.Given as goal

abbrev pub invariant-loop-t : goal.invariant-loop-t
invariant-loop-t l = map (λ p. part_said p.items) l.parts.items ≡ map (map bare_frame) (take l.t l.frames.threads)
