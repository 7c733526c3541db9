use Rattle.std.proofs.Common.{ap, sym, ◌∙◌}
use Rattle.nt_event.specs.Waits.{made_facts}
use Rattle.nt_event.specs.declared.events.What.{What}
use Rattle.nt_thread_lanes.proofs.making.make.Goals as goal

pub returns-in-Call : goal.returns-in-Call
returns-in-Call c =
    c.call.ensures c.args.script.now c.in-Call.frame ∙ ap (λ (w : What). made_facts c.args.script.now c.args.n c.args.stand.now w c.args.state.now)
    (sym c.in-Call.is)

pub returns-in-Rewait : goal.returns-in-Rewait
returns-in-Rewait c =
    c.rewait.ensures c.args.script.now c.in-Rewait.frame
    ∙ ap (λ (w : What). made_facts c.args.script.now c.args.n c.args.stand.now w c.args.state.now) (sym c.in-Rewait.is)

pub returns-in-Begin : goal.returns-in-Begin
returns-in-Begin c =
    c.begin.ensures c.args.stand.now c.args.n ∙ ap (λ (w : What). made_facts c.args.script.now c.args.n c.args.stand.now w c.args.state.now) (sym c.in-Begin.is)
