use Rattle.std.proofs.Common.{ap, arith, sym, ◌∙◌, ◌≡◌, ◌<◌}
use Rattle.std.specs.Prelude.{false}
use Rattle.nt_event.specs.declared.events.Turn.{Turn}
use Rattle.nt_event.specs.declared.numbers.CpuNo.{CpuNo}
use Rattle.nt_event.specs.Own.{own_of}
use Rattle.nt_event.specs.Step.{cpu_at, is_cut}
use Rattle.nt_cpu.specs.Choices.{turn_by}
use Rattle.nt_cpu.specs.Runs.{is_asked}
use Rattle.nt_cpus.specs.States.{CpusState}
use Rattle.nt_cpus.proofs.Stepping.{unasked_step}
use Rattle.nt_cpus.proofs.processors.Processors.turn.Goals as goal

pub returns-then-not-is_asked-clause-err : goal.returns-then-not-is_asked-clause-err
returns-then-not-is_asked-clause-err g c past h =
    let n = ap (λ (x : CpusState). x.script.cpus) c.self.view_is in
    let e = ap (λ (p : CpuNo). p.0) c.cpu-cpu.ensures in
    let f = c.if-self-cpu.false in
    let b : (cpu_at c.args.turn.now).0 < c.args.self.now.script.cpus = omega (arith, n, e, f) in
    let u = ap (λ (p : CpuNo). is_cut c.args.self.now.limit (own_of c.args.self.now.script p past)) (sym c.cpu-cpu.ensures)
    ∙ (sym (c.is_cut.ensures past h.every) ∙ c.if-is_cut.false) in
    let told = c.is_asked.ensures c.args.self.now.script past h.follows b in
    let a : is_asked c.args.self.now.script c.args.turn.now past ≡ false = sym told ∙ (let k = c.if-not-is_asked.true in cc) in
    unasked_step _ _ c.args.turn.now past b u a

pub take-requires-clause-asked : goal.take-requires-clause-asked
take-requires-clause-asked g c past h =
    let n = ap (λ (x : CpusState). x.script.cpus) c.self.view_is in
    let e = ap (λ (p : CpuNo). p.0) c.cpu-cpu.ensures in
    let f = c.if-self-cpu.false in
    let b : (cpu_at c.args.turn.now).0 < c.args.self.now.script.cpus = omega (arith, n, e, f) in
    let told = c.is_asked.ensures c.args.self.now.script past h.follows b in
    let t = ap (λ (p : CpuNo). turn_by p c.of.result) c.cpu-cpu.ensures ∙ c.of.ensures in
    ap (λ (t : Turn). is_asked c.args.self.now.script t past) t ∙ (sym told ∙ (let k = c.if-not-is_asked.false in cc))
