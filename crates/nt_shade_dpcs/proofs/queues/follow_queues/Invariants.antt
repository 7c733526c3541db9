use Rattle.std.specs.Prelude.{map}
use Rattle.nt_event.specs.Numbers.{cpu}
use Rattle.nt_event.specs.Queues.{start_queue}
use Rattle.nt_shade_dpcs.specs.Changed.{queue_changed}
use Rattle.nt_shade_dpcs.specs.Shades.{object_said, queue_said}
use Rattle.nt_shade_dpcs.proofs.Followed.{IsFollowedTo}
use Rattle.nt_shade_dpcs.proofs.queues.follow_queues.Given as goal

abbrev pub invariant-loop-p : goal.invariant-loop-p
invariant-loop-p l =
    IsFollowedTo queue_said (λ p. queue_changed l.script (map object_said l.objects) (cpu p) l.by l.change) start_queue l.p l.fn.queues.items
    l.queues.items
