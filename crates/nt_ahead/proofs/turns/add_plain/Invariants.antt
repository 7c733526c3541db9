use Rattle.std.proofs.Common.{◌++◌, ◌∷◌, ◌≡◌}
use Rattle.nt_event.specs.declared.events.Turn.TheVariants.{Next, Switch}
use Rattle.nt_event.specs.Lists.{table}
use Rattle.nt_event.specs.Numbers.{thread}
use Rattle.nt_ahead.proofs.turns.add_plain.Given as goal

abbrev pub invariant-loop-place : goal.invariant-loop-place
invariant-loop-place l = l.turns.items ≡ l.fn.turns.items ++ (Next l.cpu ∷ table l.place (λ t. Switch l.cpu (thread t)))
