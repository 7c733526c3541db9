use Rattle.std.proofs.Common.{◌≡◌}
use Rattle.nt_draw.proofs.picture.put_each_left.Given as goal

-- the elements that were open are open
abbrev pub invariant-loop-words : goal.invariant-loop-words
invariant-loop-words l = l.tags.opened ≡ l.fn.tags.opened
