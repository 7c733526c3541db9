use Rattle.std.proofs.Common.{map, take, ◌≡◌}
use Rattle.nt_alike.specs.Bare.{bare_frame}
use Rattle.nt_shade.specs.Frames.{frame_said}
use Rattle.nt_shade.proofs.frames.frames_of.Given as goal

abbrev pub invariant-loop-frame : goal.invariant-loop-frame
invariant-loop-frame l = map frame_said l.shades.items ≡ map bare_frame (take l.frame-index l.frames)
