use Rattle.std.proofs.Common.{arith}
use Rattle.std.specs.Prelude.{map}
use Rattle.nt_event.specs.Numbers.{cpu}
use Rattle.nt_event.specs.Queues.{start_queue}
use Rattle.nt_shade_dpcs.specs.Changed.{queue_changed}
use Rattle.nt_shade_dpcs.specs.Shades.{object_said, queue_said}
use Rattle.nt_shade_dpcs.proofs.Followed.{all_followed, next_followed}
use Rattle.nt_shade_dpcs.proofs.queues.follow_queues.Goals as goal

pub loop-p-preserved : goal.loop-p-preserved
loop-p-preserved c =
    next_followed queue_said (λ p. queue_changed c.args.script.now (map object_said c.args.objects.now) (cpu p) c.args.by c.args.change) start_queue
    c.loop-p.p c.from.result c.args.queues.now.items c.loop-p.queues.items c.index_mut.result.now c.follow.new.self c.loop-p.invariant c.from.ensures
    (let t = c.loop-p-test.true in let l = c.len-count.ensures in let k = c.loop-p.invariant.count in let f = c.from.ensures in omega (arith, t, l, k, f))
    c.index_mut.ensures.value (c.in_ok-follow.ensures)

pub returns : goal.returns
returns c =
    all_followed queue_said (λ p. queue_changed c.args.script.now (map object_said c.args.objects.now) (cpu p) c.args.by c.args.change) start_queue
    c.loop-p.p c.args.queues.now.items c.loop-p.queues.items c.loop-p.invariant
    (let t = c.loop-p-test.false in let l = c.len-count.ensures in omega (arith, t, l, c.requires))
