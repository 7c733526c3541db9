use Rattle.std.proofs.Common.{ap, ◌∙◌}
use Rattle.std.specs.Prelude.{Some}
use Rattle.nt_event.specs.declared.events.Turn.{Turn}
use Rattle.nt_event.specs.Step.{step}
use Rattle.nt_cpus.specs.States.{CpusState}
use Rattle.nt_cpus.proofs.Choosing.{look_chosen, next_chosen, switch_chosen}
use Rattle.nt_cpus.proofs.processors.Processors.follow.Goals as goal

pub look-requires-clause-own : goal.look-requires-clause-own
look-requires-clause-own g c past h =
    c.requires.own past h ∙ ap (λ (t : Turn). Some t) (look_chosen c.args.self.now.script past c.args.chosen _ c.in-Look.is)

pub returns-in-Look-clause-event : goal.returns-in-Look-clause-event
returns-in-Look-clause-event g c past h =
    let s : CpusState = c.args.self.now in
    let m = c.look.ensures.event past h in
    (ap (λ (t : Turn). step s.script s.limit t past) (look_chosen s.script past c.args.chosen _ c.in-Look.is) ∙ m.0, m.1)

pub make-requires-clause-own : goal.make-requires-clause-own
make-requires-clause-own g c past h =
    c.requires.own past h ∙ ap (λ (t : Turn). Some t) (switch_chosen c.args.self.now.script past c.args.chosen c.in-Switch.thread c.in-Switch.is)

pub returns-in-Switch-clause-event : goal.returns-in-Switch-clause-event
returns-in-Switch-clause-event g c past h =
    let s : CpusState = c.args.self.now in
    let m = c.make.ensures.event past h in
    (ap (λ (t : Turn). step s.script s.limit t past) (switch_chosen s.script past c.args.chosen c.in-Switch.thread c.in-Switch.is) ∙ m.0, m.1)

pub make-requires-in-Next-clause-own : goal.make-requires-in-Next-clause-own
make-requires-in-Next-clause-own g c past h =
    c.requires.own past h ∙ ap (λ (t : Turn). Some t) (next_chosen c.args.self.now.script past c.args.chosen c.in-Next.is)

pub returns-in-Next-clause-event : goal.returns-in-Next-clause-event
returns-in-Next-clause-event g c past h =
    let s : CpusState = c.args.self.now in
    let m = c.make-in-Next.ensures.event past h in
    (ap (λ (t : Turn). step s.script s.limit t past) (next_chosen s.script past c.args.chosen c.in-Next.is) ∙ m.0, m.1)
