use Rattle.std.proofs.Common.{map, take, ◌++◌, ◌≡◌}
use Rattle.nt_ahead.specs.Choices.{with_value}
use Rattle.nt_ahead.proofs.choices.add_values.Given as goal

abbrev pub invariant-loop-value : goal.invariant-loop-value
invariant-loop-value l = l.looks.items ≡ l.fn.looks.items ++ map (with_value l.class l.found) (take l.value-index l.values)
