use Rattle.std.proofs.Common.{ap, arith, subst, sym, ◌∙◌, ◌≡◌, ◌<◌}
use Rattle.std.specs.Prelude.{nat_le}
use Rattle.nt_event.specs.Own.{own_of}
use Rattle.nt_event.specs.Step.{is_cut}
use Rattle.nt_cpu.specs.States.{CpuState}
use Rattle.nt_cpus.specs.Following.{cpus_of}
use Rattle.nt_cpus.specs.States.{CpusState}
use Rattle.nt_cpus.proofs.Holding.{cpu_held, cpus_held}
use Rattle.nt_cpus.proofs.processors.Processors.is_cut.Goals as goal

pub index-requires : goal.index-requires
index-requires c =
    let a = subst (λ (x : CpusState). x.cpus ≡ cpus_of x.script x.limit c.requires.every.0) (sym c.self.view_is) c.requires.every.1 in
    let n = cpus_held _ _ _ _ a in
    let o = c.self.inside.cpus.ok in
    let b : c.args.cpu.0 < c.self.inside.script.now.cpus = subst (λ (x : CpusState). c.args.cpu.0 < x.script.cpus) (sym c.self.view_is) c.requires.cpu in
    omega (arith, n, o, b)

pub returns : goal.returns
returns c past h =
    let a = subst (λ (x : CpusState). x.cpus ≡ cpus_of x.script x.limit past) (sym c.self.view_is) h in
    let b : c.args.cpu.0 < c.self.inside.script.now.cpus = subst (λ (x : CpusState). c.args.cpu.0 < x.script.cpus) (sym c.self.view_is) c.requires.cpu in
    let e = c.made.ensures ∙ ap (λ (x : CpuState). x.own.made) (c.index.ensures ∙ cpu_held _ _ _ _ c.args.cpu _ a b) in
    subst (λ (x : CpusState). nat_le c.self.inside.limit c.made.result ≡ is_cut x.limit (own_of x.script c.args.cpu past)) c.self.view_is
    (ap (nat_le c.self.inside.limit) e)
