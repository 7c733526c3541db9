use Rattle.std.proofs.Common.{arith, ◌<◌}
use Rattle.nt_core.specs.States.{CoreState}
use Rattle.nt_orders.proofs.Drawn.{drawn_more, drawn_none, drawn_still}
use Rattle.nt_orders.proofs.drawing.usual_turn.Goals as goal
use Rattle.nt_orders.proofs.drawing.usual_turn.Goals.{in-Some, in_default}

pub loop-p-preserved : goal.loop-p-preserved
loop-p-preserved c =
    let m : CoreState = c.args.core.now in
    elim c.match-robin_of.branch [
      | in-Some w ↦
          let on = drawn_more m.script m.limit m.past c.loop-p.p c.loop-p.count c.loop-p.drawn w.drawn_of-drawn.result w.in-Some.turn
          c.loop-p.invariant w.in-Some.ensures.taken w.drawn_of-drawn.ensures in
          rw (w.count-is, w.drawn-is) on
      | in_default w ↦
          let low : c.loop-p.p < m.script.cpus = (let t = c.loop-p-test.true in let n = c.requires in omega (arith, t, n)) in
          let on = drawn_still m.script m.limit m.past c.loop-p.p c.loop-p.count c.loop-p.drawn c.robin_of.result c.loop-p.invariant low
          c.robin_of.ensures.none w.in_default.is in
          rw (w.count-is, w.drawn-is) on
    ]

pub returns-clause-none : goal.returns-clause-none
returns-clause-none c empty =
    let m : CoreState = c.args.core.now in
    drawn_none m.script m.limit m.past c.loop-p.p c.loop-p.count c.loop-p.drawn c.loop-p.invariant
    (let t = c.loop-p-test.false in let n = c.requires in omega (arith, t, n)) empty
