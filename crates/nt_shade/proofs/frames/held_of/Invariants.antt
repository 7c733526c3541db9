use Rattle.std.proofs.Common.{reverse, take, ◌≡◌}
use Rattle.nt_shade.proofs.frames.held_of.Given as goal

abbrev pub invariant-loop-place : goal.invariant-loop-place
invariant-loop-place l = l.held.items ≡ take l.place (reverse l.frame.held)
