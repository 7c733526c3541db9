use Rattle.std.proofs.Common.{ap, ◌∙◌}
use Rattle.nt_event.specs.Apcs.{ApcQueues}
use Rattle.nt_alike.specs.Bare.{bare_doing, bare_pick}
use Rattle.nt_shade.specs.Threads.{pick_said}
use Rattle.nt_shade.proofs.Lists.{said_reversed}
use Rattle.nt_shade.proofs.threads.thread_of.Goals as goal

pub returns : goal.returns
returns c =
    let apcs = c.apcs-apcs.ensures in
    let pending = said_reversed pick_said bare_pick c.in_ok-picks_of.field-0.items c.pending.result.now c.args.state.now.apcs.pending
    c.in_ok-picks_of.ensures (c.pending.ensures ∙ ap (λ (q : ApcQueues). q.pending) apcs) in
    let doing = c.bare_doing.ensures ∙ ap bare_doing c.doing.ensures in
    let closed = c.is_closed.ensures ∙ ap (λ (q : ApcQueues). q.closed) apcs in
    λ i. record {
      doing = doing i;
      alerted_kernel = c.was_alerted.ensures i;
      alerted_user = c.was_alerted-2.ensures i;
      user_pending = c.user_pending.ensures i;
      released = c.was_released.ensures i;
      leaving = c.is_leaving.ensures.answer i;
      apcs = record { pending = pending i; closed = closed i };
    }
