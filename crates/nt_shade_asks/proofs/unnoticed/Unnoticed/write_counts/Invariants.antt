use Rattle.std.proofs.Common.{take, ◌++◌, ◌≡◌}
use Rattle.std.specs.List.{flat_map}
use Rattle.nt_shade_asks.specs.Counts.{class_counts}
use Rattle.nt_shade_asks.proofs.unnoticed.Unnoticed.write_counts.Given as goal

abbrev pub invariant-loop-row : goal.invariant-loop-row
invariant-loop-row l = l.counts.items ≡ l.fn.counts.items ++ flat_map class_counts (take l.row-index l.row-items)
