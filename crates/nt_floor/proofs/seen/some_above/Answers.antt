use Rattle.std.proofs.Common.{arith, sym}
use Rattle.nt_floor.proofs.Values.{none_above, some_above}
use Rattle.nt_floor.proofs.seen.some_above.Goals as goal

pub returns-then-seen-i : goal.returns-then-seen-i
returns-then-seen-i c =
    let t = c.if-seen-i.true in
    sym (some_above c.args.seen.now c.args.values.now c.loop-i.i c.loop-i-test.true (omega (arith, t)))

pub returns : goal.returns
returns c =
    sym (none_above c.args.seen.now c.args.values.now (λ k b. c.loop-i.invariant.low k (let t = c.loop-i-test.false in omega (arith, t, b))))
