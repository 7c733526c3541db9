use Rattle.std.proofs.Common.{◌≡◌, ◌/◌, ◌*◌, ◌+◌, ◌-◌, arith, refl}
use Rattle.nt_timer.specs.Slots.{index_from, slot_index}
use Rattle.nt_timer.proofs.Places.{climbs, stops, top, without_digit}
use Rattle.nt_timer.proofs.slots.slot_index.Goals as goal

pub loop-level-init : goal.loop-level-init
unfolding slot_index
loop-level-init c =
    record { index = omega arith; high = let e : c.args.due / 1 ≡ c.args.due = omega arith in rw e refl }

pub loop-level-preserved : goal.loop-level-preserved
loop-level-preserved c =
    let l = c.loop-level in
    record {
      index = climbs l.level l.high_now l.high_due (slot_index c.args.now c.args.due) c.loop-level-test.true c.if-high_now-high_due.false
          l.invariant.index;
      high = without_digit l.level c.args.due l.high_due l.invariant.high;
    }

pub returns-then-high_now-high_due-clause-value : goal.returns-then-high_now-high_due-clause-value
returns-then-high_now-high_due-clause-value c =
    let l = c.loop-level in
    stops l.level l.high_now l.high_due (slot_index c.args.now c.args.due) c.loop-level-test.true c.if-high_now-high_due.true l.invariant.index

pub returns-clause-value : goal.returns-clause-value
returns-clause-value c =
    let l = c.loop-level in
    let n : l.level ≡ 10 = let a = l.auto.level-end in let b = c.loop-level-test.false in omega arith in
    let e : 64 * 10 + index_from (10 - 10) l.high_now l.high_due ≡ slot_index c.args.now c.args.due = rw n at l.invariant.index in
    let t = top l.high_now l.high_due in
    omega (arith, e, t)
