use Rattle.std.proofs.Common.{map, reverse, take, ◌≡◌, ◌++◌}
use Rattle.nt_left.specs.Items.{holds_item}
use Rattle.nt_left.proofs.frames.put_held.Given as goal

abbrev pub invariant-loop-place : goal.invariant-loop-place
invariant-loop-place l =
    l.out.items ≡ l.fn.out.items ++ map (holds_item l.cpu l.owner l.frame.name) (take l.place (reverse l.frame.held))
