use Rattle.std.proofs.Common.{filter, map, take, ◌++◌, ◌≡◌}
use Rattle.nt_event.specs.declared.events.Turn.TheVariants.{Look}
use Rattle.nt_ahead.specs.Choices.{finds}
use Rattle.nt_ahead.proofs.turns.add_looks.Given as goal

abbrev pub invariant-loop-found : goal.invariant-loop-found
invariant-loop-found l = l.turns.items ≡ l.fn.turns.items ++ map (λ r. Look l.cpu r) (filter finds (take l.found-index l.looks))
