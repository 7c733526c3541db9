use Rattle.std.proofs.lemmas.List.{map-append}
use Rattle.std.specs.Prelude.{map, refl}
use Rattle.nt_event.specs.Lists.{table_from}
use Rattle.nt_event.specs.Queues.{QueueState, start_queue}
use Rattle.nt_event.proofs.Tables.{table_grown}
use Rattle.nt_shade_dpcs.specs.Shades.{queue_said}
use Rattle.nt_shade_dpcs.proofs.making.queues.Goals as goal

pub loop-init : goal.loop-init
unfolding table_from
loop-init c = rw c.in_ok-queues.ensures.items refl

pub loop-preserved : goal.loop-preserved
loop-preserved c =
    rw c.in_ok-push.ensures.items
    (table_grown {A = QueueState} c.loop.counter (λ p. start_queue) (map queue_said c.loop.queues.items) _ (queue_said c.new.result)
    (map-append queue_said c.loop.queues.items _) c.loop.invariant c.new.ensures)
