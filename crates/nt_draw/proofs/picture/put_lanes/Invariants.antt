use Rattle.std.proofs.Common.{◌≡◌}
use Rattle.nt_draw.proofs.picture.put_lanes.Given as goal

-- the elements that were open are open
abbrev pub invariant-loop-cpu : goal.invariant-loop-cpu
invariant-loop-cpu l = l.tags.opened ≡ l.fn.tags.opened
