use Rattle.std.proofs.Common.{ap, sym, ◌∙◌}
use Rattle.std.proofs.lemmas.Bool.{ltb-true}
use Rattle.nt_event.specs.Objects.{ObjectState, queue_for}
use Rattle.nt_lane.proofs.Holding.{asked_below, held_asks, may_insert}
use Rattle.nt_lane.proofs.held.HeldLaneAnswers.ask.Goals as goal

pub queue-requires-clause-held : goal.queue-requires-clause-held
queue-requires-clause-held c = rw c.queue_for-p.ensures.value c.requires.held_queue

pub answer-requires-clause-place : goal.answer-requires-clause-place
answer-requires-clause-place c =
    let agree = rw (c.object.ensures.same, c.queue.ensures.same) at c.there.ensures.agree in
    may_insert c.object.result.now c.queue.result.now c.args.by agree
    (ap (λ (o : ObjectState). queue_for o.target c.args.by) c.object.ensures.state ∙ (sym c.queue_for-p.ensures.value ∙ sym c.queue.ensures.cpu))

pub answer-requires-clause-room : goal.answer-requires-clause-room
answer-requires-clause-room c = rw (c.object.ensures.dpc, c.queue.ensures.there.count) (ltb-true _ _ c.requires.object)

pub returns-clause-asks : goal.returns-clause-asks
returns-clause-asks c =
    held_asks c.args.self.now c.args.d c.args.by c.queue_for-p.result c.object.result.now c.queue.result.now _ c.requires.free c.queue_for-p.ensures.value
    c.object.ensures.dpc c.object.ensures.state c.object.ensures.there.part c.queue.ensures.state c.queue.ensures.cpu c.queue.ensures.there.limit
    c.answer.ensures.ask

pub returns-clause-class : goal.returns-clause-class
returns-clause-class c = asked_below c.queue.result.now c.object.result.now c.args.by _ c.answer.ensures.ask
