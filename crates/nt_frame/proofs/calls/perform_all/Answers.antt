use Rattle.std.proofs.Common.{◌≡◌, arith, sym, true, is_ok}
use Rattle.nt_frame.proofs.Runs.{going_next, may_next}
use Rattle.nt_frame.proofs.calls.perform_all.Goals as goal

pub perform-requires : goal.perform-requires
perform-requires c =
    may_next c.args.calls.now c.args.frames.now c.loop-call.call-index c.loop-call.answers.items c.loop-call.frames c.call-item.result
    c.loop-call.invariant.going c.loop-call-test.true (sym c.call-item.is)

pub loop-call-preserved : goal.loop-call-preserved
loop-call-preserved c =
    let ok : is_ok c.push.result ≡ true = c.push.ensures.succeeds (omega arith) in
    record {
      going = rw (c.push.ensures.items, ok, c.perform.ensures.left, c.perform.ensures.answer)
          (going_next c.args.calls.now c.args.frames.now c.loop-call.call-index c.loop-call.answers.items c.loop-call.frames c.call-item.result
          c.loop-call.invariant.going c.loop-call-test.true (sym c.call-item.is));
      room = omega arith;
      count = rw (c.push.ensures.len, ok) (omega arith);
    }
