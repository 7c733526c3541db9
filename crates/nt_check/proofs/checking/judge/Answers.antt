use Rattle.std.proofs.Common.{arith, inl, ◌∙◌, ◌≡◌}
use Rattle.std.specs.Prelude.{length}
use Rattle.nt_plain.specs.States.{view_of}
use Rattle.nt_history.specs.Briefs.{events_in}
use Rattle.nt_history.proofs.Lists.{as_many}
use Rattle.nt_check.specs.Verdicts.{made_by}
use Rattle.nt_check.proofs.Stepping.{all_unsettled, event_at, illegal_here, legal_next, made_err, made_ok}
use Rattle.nt_check.proofs.checking.judge.Goals as goal

pub returns-then-not-is_made : goal.returns-then-not-is_made
returns-then-not-is_made c =
    let i = c.loop-number.invariant in
    let at = event_at _ c.turn.result c.turn.ensures in
    let e = at.0 in
    let n = c.loop-number.number in
    let p = c.loop-number in
    let q = c.turn-taken.new in
    let t = c.turn-taken.ensures in
    let v = view_of p.floor in
    let w = view_of q.floor in
    let r = made_by c.turn-taken.result q.event in
    let made = made_ok p.processors q.self c.turn.result p.floor.script q.floor.script v w c.turn-taken.result q.event t.ok in
    let events = events_in c.args.events.now.briefs.now c.args.events.now.rises.now in
    inl (
      e,
      illegal_here _ _ events n e p.processors q.self c.turn.result p.floor.script q.floor.script v w r i.after i.script i.limit at.1.0
          at.1.1 made (made_err p.processors c.turn.result p.floor.script v c.turn-taken.result q.event t.err)
          (λ k. let z = (c.is_made.ensures e at.1.0).1 k in let y = c.if-not-is_made.true in cc),
    )

pub loop-number-preserved : goal.loop-number-preserved
loop-number-preserved c =
    let i = c.loop-number.invariant in
    let at = event_at _ c.turn.result c.turn.ensures in
    let e = at.0 in
    let n = c.loop-number.number in
    let p = c.loop-number in
    let q = c.turn-taken.new in
    let t = c.turn-taken.ensures in
    let v = view_of p.floor in
    let w = view_of q.floor in
    let r = made_by c.turn-taken.result q.event in
    let made = made_ok p.processors q.self c.turn.result p.floor.script q.floor.script v w c.turn-taken.result q.event t.ok in
    let events = events_in c.args.events.now.briefs.now c.args.events.now.rises.now in
    record {
      after = legal_next events n e p.processors q.self c.turn.result p.floor.script q.floor.script v w r i.after at.1.0 made
          ((c.is_made.ensures e at.1.0).0 (let y = c.if-not-is_made.false in cc));
      script = t.kept.0 ∙ i.script;
      limit = t.kept.1 ∙ i.limit;
    }

pub returns-else-settled : goal.returns-else-settled
returns-else-settled c =
    let i = c.loop-number.invariant in
    let briefs = c.args.events.now.briefs.now in
    let rises = c.args.events.now.rises.now in
    let many = as_many briefs rises in
    let end : c.loop-number.number ≡ length briefs = (let a = c.loop-number.auto.number-end in
    let b = c.loop-number-test.false in
    omega (arith, a, b)) in
    all_unsettled _ _ (events_in briefs rises) c.loop-number.number _ _ _ (view_of c.loop-number.floor) _ i.after i.script i.limit
    (omega (arith, end, many)) (c.settled.ensures _ i.after) c.if-settled.false (omega (arith, end))
