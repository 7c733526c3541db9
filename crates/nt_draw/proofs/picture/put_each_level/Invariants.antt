use Rattle.std.proofs.Common.{◌≡◌}
use Rattle.nt_draw.proofs.picture.put_each_level.Given as goal

-- the elements that were open are open
abbrev pub invariant-loop-number : goal.invariant-loop-number
invariant-loop-number l = l.tags.opened ≡ l.fn.tags.opened
