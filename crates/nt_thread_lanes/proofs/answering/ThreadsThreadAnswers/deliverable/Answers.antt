use Rattle.std.proofs.Common.{ap, ◌∙◌}
use Rattle.nt_event.specs.Apcs.{deliverable}
use Rattle.nt_event.specs.Threads.{ThreadFacts}
use Rattle.nt_states.specs.ThreadLanes.{facts_in}
use Rattle.nt_thread_lanes.proofs.Named.{deliverable_named}
use Rattle.nt_thread_lanes.proofs.answering.ThreadsThreadAnswers.deliverable.Goals as goal

pub returns-clause-named : goal.returns-clause-named
returns-clause-named c =
    deliverable_named c.args.self.now.script c.args.t (facts_in c.args.self.now c.args.t) c.args.regions c.args.level c.deliverable.result c.ours.ensures
    (c.deliverable.ensures ∙ ap (λ (x : ThreadFacts). deliverable x.apcs c.args.regions c.args.level) c.state.ensures)
