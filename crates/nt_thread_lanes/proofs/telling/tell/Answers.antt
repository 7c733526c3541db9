use Rattle.std.proofs.Common.{ap, sym, ◌∙◌}
use Rattle.nt_event.specs.declared.events.What.{What}
use Rattle.nt_states.specs.ThreadFits.{told_facts}
use Rattle.nt_thread_lanes.proofs.telling.tell.Goals as goal

pub returns-in-Call : goal.returns-in-Call
returns-in-Call c =
    c.tell_call.ensures c.in-Call.frame
    ∙ ap (λ (w : What). told_facts c.args.script.now c.args.n w c.args.state.now) (sym c.in-Call.is)
