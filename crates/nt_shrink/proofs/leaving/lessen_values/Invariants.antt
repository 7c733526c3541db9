use Rattle.std.proofs.Common.{drop, map, take, ◌++◌, ◌≡◌}
use Rattle.nt_shrink.specs.Shorter.{value_without}
use Rattle.nt_shrink.proofs.leaving.lessen_values.Given as goal

abbrev pub invariant-loop-value : goal.invariant-loop-value
invariant-loop-value l =
    l.value-items ≡ map (value_without l.at) (take l.value-index l.fn.rises.value) ++ drop l.value-index l.fn.rises.value
