use Rattle.std.proofs.Common.{ap, ◌∙◌}
use Rattle.nt_event.specs.Apcs.{first_user}
use Rattle.nt_event.specs.Threads.{ThreadFacts}
use Rattle.nt_states.specs.ThreadLanes.{facts_in}
use Rattle.nt_thread_lanes.proofs.Named.{first_named}
use Rattle.nt_thread_lanes.proofs.answering.ThreadsThreadAnswers.user_first.Goals as goal

pub returns-clause-named : goal.returns-clause-named
returns-clause-named c =
    first_named c.args.self.now.script c.args.t (facts_in c.args.self.now c.args.t) c.user_first.result c.ours.ensures
    (c.user_first.ensures ∙ ap (λ (x : ThreadFacts). first_user x.apcs) c.state.ensures)
