use Rattle.std.specs.Prelude.{map, ◌≡◌}
use Rattle.nt_event.specs.Lists.{table}
use Rattle.nt_event.specs.Queues.{start_queue}
use Rattle.nt_shade_dpcs.specs.Shades.{queue_said}
use Rattle.nt_shade_dpcs.proofs.making.queues.Given as goal

abbrev pub invariant-loop : goal.invariant-loop
invariant-loop l = map queue_said l.queues.items ≡ table l.counter (λ p. start_queue)
