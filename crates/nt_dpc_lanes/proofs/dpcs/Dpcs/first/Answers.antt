use Rattle.std.proofs.Common.{ap, ◌∙◌}
use Rattle.nt_event.specs.Queues.{QueueState, first_dpc}
use Rattle.std.specs.Prelude.{option_map}
use Rattle.nt_dpc_lanes.proofs.Seeing.{first_named}
use Rattle.nt_dpc_lanes.proofs.dpcs.Dpcs.first.Goals as goal

pub returns-clause-object : goal.returns-clause-object
returns-clause-object c =
    first_named _ c.args.p c.args.part _ c.agree.ensures (c.first.ensures.value
    ∙ ap (λ (q : QueueState). option_map (λ i. (i.dpc, i.number)) (first_dpc c.args.part q.pending)) c.queue.ensures.state)
