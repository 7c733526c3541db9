use Rattle.std.proofs.Common.{◌≡◌}
use Rattle.nt_event.specs.Lists.{table}
use Rattle.nt_plain.specs.Places.{told_at}
use Rattle.nt_shade.proofs.asks.told_of.Given as goal

abbrev pub invariant-loop-number : goal.invariant-loop-number
invariant-loop-number l = l.told.items ≡ table l.number (λ n. told_at l.floor.script.cpus l.floor.told n l.cpu l.class)
