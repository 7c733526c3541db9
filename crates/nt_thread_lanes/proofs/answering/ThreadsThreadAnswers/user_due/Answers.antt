use Rattle.std.proofs.Common.{ap, ◌∙◌}
use Rattle.nt_event.specs.Jobs.{user_due}
use Rattle.nt_event.specs.Threads.{ThreadFacts}
use Rattle.nt_states.specs.ThreadLanes.{facts_in}
use Rattle.nt_thread_lanes.proofs.Named.{due_named}
use Rattle.nt_thread_lanes.proofs.answering.ThreadsThreadAnswers.user_due.Goals as goal

pub returns-clause-named : goal.returns-clause-named
returns-clause-named c =
    due_named c.args.self.now.script c.args.t (facts_in c.args.self.now c.args.t) c.user_due.result c.ours.ensures
    (c.user_due.ensures ∙ ap (λ (x : ThreadFacts). user_due x) c.state.ensures)
