use Rattle.std.proofs.Common.{arith, ◌*◌, ◌+◌, ◌≡◌}
use Rattle.std.proofs.lemmas.List.Elements.{All-nil, All-push}
use Rattle.nt_shade_asks.specs.Follows.{HasRoom}
use Rattle.nt_shade_asks.proofs.Placed.{none_placed, one_placed}
use Rattle.test_lab.proofs.ahead.asks.Goals as goal

pub loop-cpu-init : goal.loop-cpu-init
loop-cpu-init c = (none_placed _ c.new-classes.ensures.items, rw c.new-classes.ensures.items (All-nil (HasRoom c.args.script.now)))

pub loop-class-preserved : goal.loop-class-preserved
loop-class-preserved c =
    let n = c.loop-cpu.cpu * 16 + c.loop-class.class in
    let next : n + 1 ≡ c.loop-cpu.cpu * 16 + (c.loop-class.class + 1) = omega arith in
    rw (c.in_ok-push.ensures.items, ← next) ((
      one_placed n _ _ c.loop-class.invariant.0 c.in_ok-class_of.ensures.place,
      All-push (HasRoom c.args.script.now) _ _ c.loop-class.invariant.1 c.in_ok-class_of.ensures.room,
    ))
