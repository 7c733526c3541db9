use Rattle.std.proofs.Common.{map, take, ◌++◌, ◌≡◌}
use Rattle.nt_shade_asks.specs.Counts.{left_by}
use Rattle.nt_shade_asks.proofs.class_asks.ClassAsks.write_lefts.Given as goal

abbrev pub invariant-loop-told : goal.invariant-loop-told
invariant-loop-told l = l.counts.items ≡ l.fn.counts.items ++ map (left_by l.self.ahead.items) (take l.told-index l.told-items)
