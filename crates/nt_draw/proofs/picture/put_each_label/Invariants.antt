use Rattle.std.proofs.Common.{◌≡◌}
use Rattle.nt_draw.proofs.picture.put_each_label.Given as goal

-- the elements that were open are open
abbrev pub invariant-loop-label : goal.invariant-loop-label
invariant-loop-label l = l.tags.opened ≡ l.fn.tags.opened
