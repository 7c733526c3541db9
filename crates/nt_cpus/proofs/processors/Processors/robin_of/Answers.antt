use Rattle.std.proofs.Common.{ap, arith, sym, ◌<◌, ◌∙◌}
use Rattle.std.specs.Prelude.{Some}
use Rattle.nt_event.specs.declared.events.Turn.{Turn}
use Rattle.nt_cpus.specs.States.{CpusState}
use Rattle.nt_cpus.proofs.Choosing.{no_step, present, some_step}
use Rattle.nt_cpus.proofs.processors.Processors.robin_of.Goals as goal

pub returns-in-Some : goal.returns-in-Some
returns-in-Some g c past h =
    let s : CpusState = c.args.self.now in
    let n = ap (λ (x : CpusState). x.script.cpus) c.self.view_is in
    let e = c.if-self-p.false in
    let b : c.args.p.0 < s.script.cpus = omega (arith, n, e) in
    let turn = some_step s.script c.args.p past _ _ _ c.in-Some.is (c.step_of.ensures past h) in
    ap (λ (t : Turn). Some t) (c.turn_of.ensures past h) ∙ (sym turn ∙ sym (present s.script c.args.p _ b))

pub returns-in-None : goal.returns-in-None
returns-in-None g c past h =
    let s : CpusState = c.args.self.now in
    let n = ap (λ (x : CpusState). x.script.cpus) c.self.view_is in
    let e = c.if-self-p.false in
    let b : c.args.p.0 < s.script.cpus = omega (arith, n, e) in
    let none = no_step s.script c.args.p past _ _ c.in-None.is (c.step_of.ensures past h) in
    sym none ∙ sym (present s.script c.args.p _ b)
