use Rattle.std.proofs.Common.{arith, reverse}
use Rattle.std.proofs.lemmas.List.{length-reverse}
use Rattle.std.specs.Prelude.{length, ◌<◌}
use Rattle.nt_shade.proofs.Lists.{one_more}
use Rattle.nt_shade.proofs.frames.held_of.Goals as goal

-- the place is one of the list
low : (c : goal.In_ok-push) → c.loop-place.place < length (reverse c.args.frame.now.held)
low c =
    let size = length-reverse c.args.frame.now.held in
    let count = c.held_count-count.ensures in
    let test = c.loop-place-test.true in
    omega (arith, size, count, test)

pub loop-place-preserved : goal.loop-place-preserved
loop-place-preserved c =
    one_more (reverse c.args.frame.now.held) c.loop-place.held.items c.push.new.self.items c.loop-place.place c.held.result
    c.in_ok-push.ensures.items c.loop-place.invariant (low c) (c.held.ensures c.held.result)
