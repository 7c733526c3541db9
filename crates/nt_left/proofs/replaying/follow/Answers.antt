use Rattle.std.proofs.Common.{subst, sym, ◌∙◌}
use Rattle.std.specs.Prelude.{List}
use Rattle.nt_event.specs.declared.events.Event.{Event}
use Rattle.nt_plain.specs.States.{view_of}
use Rattle.nt_cpus.specs.Following.{AreAfter}
use Rattle.nt_left.specs.Walks.{lent, past_at}
use Rattle.nt_left.proofs.Following.{event_at, legal_at, made_on, not_refused}
use Rattle.nt_left.proofs.Pasts.{past_more}
use Rattle.nt_left.proofs.replaying.follow.Goals as goal

pub unreachable-requires : goal.unreachable-requires
unreachable-requires c =
    let i = c.loop-number.invariant in
    let events = lent c.args.events.now in
    let n = c.loop-number.number in
    let at = event_at _ c.turn.result c.turn.ensures in
    let e = at.0 in
    let p = c.loop-number.processors in
    let legal = legal_at _ p.script _ p.limit n events e c.requires.run i.script i.limit at.1.0 in
    not_refused p c.loop-number.floor.script (view_of c.loop-number.floor) c.turn.result e (past_at n events) i.after at.1.1 legal c.turn-taken.result
    (let a = c.is_err.ensures.value in let b = c.if-is_err.true in cc) c.turn-taken.ensures.err

pub loop-number-preserved : goal.loop-number-preserved
loop-number-preserved c =
    let i = c.loop-number.invariant in
    let t = c.turn-taken.ensures in
    let events = lent c.args.events.now in
    let n = c.loop-number.number in
    let at = event_at _ c.turn.result c.turn.ensures in
    let e = at.0 in
    let p = c.loop-number.processors in
    let q = c.turn-taken.new in
    let legal = legal_at _ p.script _ p.limit n events e c.requires.run i.script i.limit at.1.0 in
    record {
      after =
          subst (λ (past : List Event). AreAfter past q.self q.floor.script (view_of q.floor)) (sym (past_more events n e at.1.0))
          (made_on p c.loop-number.floor.script (view_of c.loop-number.floor) c.turn.result e (past_at n events) i.after at.1.1 legal q.self q.floor.script
          (view_of q.floor) q.event c.turn-taken.result (let a = c.is_err.ensures.value in let b = c.if-is_err.false in cc) t.ok);
      script = t.kept.0 ∙ i.script;
      limit = t.kept.1 ∙ i.limit;
    }
