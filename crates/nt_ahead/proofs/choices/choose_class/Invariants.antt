use Rattle.std.proofs.Common.{take, ◌≡◌}
use Rattle.std.specs.List.{flat_map}
use Rattle.nt_ahead.specs.Choices.{with_values}
use Rattle.nt_ahead.proofs.choices.choose_class.Given as goal

abbrev pub invariant-loop-found : goal.invariant-loop-found
invariant-loop-found l = l.more.items ≡ flat_map (with_values l.class l.values) (take l.found-index l.looks)
