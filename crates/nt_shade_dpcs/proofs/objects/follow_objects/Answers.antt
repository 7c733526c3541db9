use Rattle.std.proofs.Common.{arith}
use Rattle.nt_event.specs.Numbers.{dpc}
use Rattle.nt_event.specs.Objects.{start_object}
use Rattle.nt_shade_dpcs.specs.Changed.{object_changed}
use Rattle.nt_shade_dpcs.specs.Shades.{object_said}
use Rattle.nt_shade_dpcs.proofs.Followed.{all_followed, next_followed}
use Rattle.nt_shade_dpcs.proofs.objects.follow_objects.Goals as goal

pub loop-d-preserved : goal.loop-d-preserved
loop-d-preserved c =
    next_followed object_said (λ d. object_changed (dpc d) c.args.by c.args.change) start_object c.loop-d.d c.from.result c.args.objects.now.items
    c.loop-d.objects.items c.index_mut.result.now c.follow.new.self c.loop-d.invariant c.from.ensures
    (let t = c.loop-d-test.true in let l = c.len-count.ensures in let k = c.loop-d.invariant.count in let f = c.from.ensures in omega (arith, t, l, k, f))
    c.index_mut.ensures.value c.follow.ensures

pub returns : goal.returns
returns c =
    all_followed object_said (λ d. object_changed (dpc d) c.args.by c.args.change) start_object c.loop-d.d c.args.objects.now.items
    c.loop-d.objects.items c.loop-d.invariant (let t = c.loop-d-test.false in let l = c.len-count.ensures in omega (arith, t, l, c.requires))
