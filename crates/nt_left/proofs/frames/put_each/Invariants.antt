use Rattle.std.proofs.Common.{take, ◌≡◌, ◌++◌}
use Rattle.nt_left.specs.Items.{frame_items}
use Rattle.nt_left.specs.Lists.{along}
use Rattle.nt_left.proofs.frames.put_each.Given as goal

abbrev pub invariant-loop-frame : goal.invariant-loop-frame
invariant-loop-frame l = l.out.items ≡ l.fn.out.items ++ along (frame_items l.cpu l.owner) (take l.frame-index l.frames)
