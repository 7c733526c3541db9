use Rattle.std.proofs.Common.{arith, subst, sym, ◌∙◌, ◌≡◌, ◌<◌}
use Rattle.nt_cpus.specs.Following.{AreAfter}
use Rattle.nt_cpus.specs.States.{CpusState}
use Rattle.nt_cpus.specs.Steps.{found_values}
use Rattle.nt_cpus.proofs.Choosing.{values_given}
use Rattle.nt_cpus.proofs.Holding.{cpu_held, cpus_held}
use Rattle.nt_cpus.proofs.processors.Processors.rises_of.Goals as goal

pub index-requires : goal.index-requires
index-requires g c =
    let i = subst (λ (x : CpusState). AreAfter c.requires.sound.0 x (g.F.Floor.script c.args.floor.now) (g.F.Words.view c.args.floor.now)) (sym c.self.view_is)
    c.requires.sound.1 in
    let n = cpus_held _ _ _ _ i.every in
    let o = c.self.inside.cpus.ok in
    let b : c.args.p.0 < c.self.inside.script.now.cpus = subst (λ (x : CpusState). c.args.p.0 < x.script.cpus) (sym c.self.view_is) c.requires.below in
    omega (arith, n, o, b)

pub returns : goal.returns
returns g c past h =
    let v = g.F.Words.view c.args.floor.now in
    let i = subst (λ (x : CpusState). AreAfter past x (g.F.Floor.script c.args.floor.now) v) (sym c.self.view_is) h in
    let b : c.args.p.0 < c.self.inside.script.now.cpus = subst (λ (x : CpusState). c.args.p.0 < x.script.cpus) (sym c.self.view_is) c.requires.below in
    let held = c.index.ensures ∙ cpu_held _ _ _ _ c.args.p _ i.every b in
    let e = c.rises.ensures ∙ values_given _ _ c.args.p past c.index.result.now v c.asked.result.now b i.follows held c.asked.ensures.values in
    subst (λ (x : CpusState). c.rises.result.value ≡ found_values x.script c.args.p past) c.self.view_is e
