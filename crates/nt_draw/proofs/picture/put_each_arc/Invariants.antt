use Rattle.std.proofs.Common.{◌≡◌}
use Rattle.nt_draw.proofs.picture.put_each_arc.Given as goal

-- the elements that were open are open
abbrev pub invariant-loop-arc : goal.invariant-loop-arc
invariant-loop-arc l = l.tags.opened ≡ l.fn.tags.opened
