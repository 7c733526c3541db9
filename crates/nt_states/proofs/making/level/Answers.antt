-- The level that a case answers is the event's.
use Rattle.std.proofs.Common.{ap, sym, ◌∙◌}
use Rattle.nt_event.specs.declared.events.What.{What}
use Rattle.nt_event.specs.Acting.{acted_level}
use Rattle.nt_states.proofs.making.level.Goals as goal

pub returns-in-Call : goal.returns-in-Call
returns-in-Call g c =
    let l = g.S.LaneAnswers.lanes c.args.states.now in
    c.call_level.ensures c.in-Call.frame l ∙ ap (λ (w : What). acted_level c.args.stand.now l w) (sym c.in-Call.is)

pub returns-in-Begin : goal.returns-in-Begin
returns-in-Begin g c =
    let l = g.S.LaneAnswers.lanes c.args.states.now in
    c.begin_level.ensures c.in-Begin.from c.args.stand.now l ∙ ap (λ (w : What). acted_level c.args.stand.now l w) (sym c.in-Begin.is)
