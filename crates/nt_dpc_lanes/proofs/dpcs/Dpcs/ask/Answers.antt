use Rattle.std.proofs.lemmas.Bool.{ltb-true}
use Rattle.nt_dpc_lanes.proofs.Seeing.{asked_is, may_insert}
use Rattle.nt_dpc_lanes.proofs.dpcs.Dpcs.ask.Goals as goal

pub answer-requires-clause-place : goal.answer-requires-clause-place
answer-requires-clause-place c =
    may_insert c.args.self.now c.args.d c.args.by c.queue_for-p.result c.object.result.now c.queue.result.now c.agree.ensures c.requires.free
    c.queue_for-p.ensures.value c.object.ensures.state c.object.ensures.object.dpc c.queue.ensures.state c.queue.ensures.queue.cpu

pub answer-requires-clause-room : goal.answer-requires-clause-room
answer-requires-clause-room c =
    rw (c.object.ensures.object.dpc, c.queue.ensures.queue.count) (ltb-true _ _ c.requires.object)

pub returns-clause-asks : goal.returns-clause-asks
returns-clause-asks c =
    asked_is c.args.self.now c.args.d c.args.by c.queue_for-p.result c.object.result.now c.queue.result.now _ c.requires.free c.queue_for-p.ensures.value
    c.object.ensures.state c.object.ensures.object c.queue.ensures.state c.queue.ensures.queue c.answer.ensures.ask
