use Rattle.std.proofs.Common.{ap, arith, refl, sym, ◌+◌, ◌-◌, ◌∙◌, ◌≡◌, ◌≤◌}
use Rattle.nt_plain.specs.States.{view_of}
use Rattle.nt_shade.specs.Asks.{marked_from}
use Rattle.nt_shade.proofs.Marks.{marked_one, unmarked_one}
use Rattle.nt_shade.proofs.asks.values_above.Goals.{else-asks, then-asks+in_ok-push}
use Rattle.nt_shade.proofs.asks.values_above.Goals as goal

pub loop-number-preserved : goal.loop-number-preserved
loop-number-preserved c =
    let f = c.args.floor.now in
    let n = c.loop-number.number in
    let from : c.args.seen ≤ n = c.loop-number.auto.number in
    let marks = c.asks.ensures.known c.requires in
    let asked = c.asked-number-end.ensures.known c.requires in
    let low : n + 1 - c.args.seen ≤ (view_of f).value c.args.cpu c.args.class - c.args.seen =
    omega (arith, from, asked, c.loop-number-test.true) in
    elim c.if-asks.branch [
      | then-asks+in_ok-push w ↦ rw w.values-is
          ((
            marked_one f c.args.cpu c.args.class c.args.seen n c.loop-number.values.items from c.loop-number.invariant.0 _ (sym marks ∙ w.if-asks.true)
                w.in_ok-push.ensures.items,
            low,
          ))
      | else-asks w ↦ rw w.values-is
          ((
            unmarked_one f c.args.cpu c.args.class c.args.seen n c.loop-number.values.items from c.loop-number.invariant.0 _
                (sym marks ∙ w.if-asks.false) refl,
            low,
          ))
    ]

pub returns : goal.returns
returns c =
    let f = c.args.floor.now in
    let v = (view_of f).value c.args.cpu c.args.class in
    let asked = c.asked-number-end.ensures.known c.requires in
    let low = c.loop-number.invariant.1 in
    let k : c.loop-number.number - c.args.seen ≡ v - c.args.seen = omega (arith, asked, low, c.loop-number.auto.number, c.loop-number-test.false) in
    c.loop-number.invariant.0 ∙ ap (marked_from f c.args.cpu c.args.class c.args.seen) k
