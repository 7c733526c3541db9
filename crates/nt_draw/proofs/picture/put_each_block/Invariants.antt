use Rattle.std.proofs.Common.{◌≡◌}
use Rattle.nt_draw.proofs.picture.put_each_block.Given as goal

-- the elements that were open are open
abbrev pub invariant-loop-block : goal.invariant-loop-block
invariant-loop-block l = l.tags.opened ≡ l.fn.tags.opened
