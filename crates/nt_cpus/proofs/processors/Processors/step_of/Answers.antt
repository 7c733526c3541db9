use Rattle.std.proofs.Common.{ap, arith, subst, sym, ◌∙◌, ◌≡◌, ◌<◌}
use Rattle.std.specs.Prelude.{IfSome, List, false, option_map, ℕ}
use Rattle.nt_event.specs.Lanes.{Lanes}
use Rattle.nt_event.specs.Own.{own_of}
use Rattle.nt_event.specs.Robin.{look_values, robin_at, robin_of}
use Rattle.nt_event.specs.Step.{is_cut}
use Rattle.nt_cpu.specs.States.{CpuState}
use Rattle.nt_cpus.specs.Following.{AreAfter}
use Rattle.nt_cpus.specs.States.{CpusState}
use Rattle.nt_cpus.specs.Steps.{found_values, step_turn}
use Rattle.nt_cpus.proofs.Choosing.{robin_found, seen_within, values_found}
use Rattle.nt_cpus.proofs.Holding.{cpu_held, cpus_held}
use Rattle.nt_cpus.proofs.processors.Processors.step_of.Goals as goal

pub index-requires : goal.index-requires
index-requires g c =
    let i = subst (λ (x : CpusState). AreAfter c.requires.sound.0 x (g.F.Floor.script c.args.floor.now) (g.F.Words.view c.args.floor.now)) (sym c.self.view_is)
    c.requires.sound.1 in
    let n = cpus_held _ _ _ _ i.every in
    let o = c.self.inside.cpus.ok in
    let b : c.args.p.0 < c.self.inside.script.now.cpus = subst (λ (x : CpusState). c.args.p.0 < x.script.cpus) (sym c.self.view_is) c.requires.below in
    omega (arith, n, o, b)

pub uncut_step-requires-clause-uncut : goal.uncut_step-requires-clause-uncut
uncut_step-requires-clause-uncut g c =
    let i = subst (λ (x : CpusState). AreAfter c.requires.sound.0 x (g.F.Floor.script c.args.floor.now) (g.F.Words.view c.args.floor.now)) (sym c.self.view_is)
    c.requires.sound.1 in
    let b : c.args.p.0 < c.self.inside.script.now.cpus = subst (λ (x : CpusState). c.args.p.0 < x.script.cpus) (sym c.self.view_is) c.requires.below in
    let u = subst (λ (x : CpusState). is_cut x.limit (own_of x.script c.args.p c.requires.sound.0) ≡ false) (sym c.self.view_is)
    (sym (c.is_cut.ensures c.requires.sound.0 c.requires.sound.1.every) ∙ c.if-is_cut.false) in
    ap (λ (x : CpuState). is_cut x.limit x.own) (c.index.ensures ∙ cpu_held _ _ _ _ c.args.p _ i.every b) ∙ u

pub uncut_step-requires-clause-seen : goal.uncut_step-requires-clause-seen
uncut_step-requires-clause-seen g c =
    let v = g.F.Words.view c.args.floor.now in
    let i = subst (λ (x : CpusState). AreAfter c.requires.sound.0 x (g.F.Floor.script c.args.floor.now) v) (sym c.self.view_is) c.requires.sound.1 in
    let b : c.args.p.0 < c.self.inside.script.now.cpus = subst (λ (x : CpusState). c.args.p.0 < x.script.cpus) (sym c.self.view_is) c.requires.below in
    let held = c.index.ensures ∙ cpu_held _ _ _ _ c.args.p _ i.every b in
    seen_within _ _ c.args.p c.requires.sound.0 c.index.result.now v b i.run i.follows held

pub returns : goal.returns
returns g c past h =
    let v = g.F.Words.view c.args.floor.now in
    let i = subst (λ (x : CpusState). AreAfter past x (g.F.Floor.script c.args.floor.now) v) (sym c.self.view_is) h in
    let b : c.args.p.0 < c.self.inside.script.now.cpus = subst (λ (x : CpusState). c.args.p.0 < x.script.cpus) (sym c.self.view_is) c.requires.below in
    let u = subst (λ (x : CpusState). is_cut x.limit (own_of x.script c.args.p past) ≡ false) (sym c.self.view_is)
    (sym (c.is_cut.ensures past h.every) ∙ c.if-is_cut.false) in
    let tells = g.met.F.OpenFloor.tells c.args.floor.now in
    let held = c.index.ensures ∙ cpu_held _ _ _ _ c.args.p _ i.every b in
    let x = c.index.result.now.own in
    let there = subst (λ (o : _). IfSome o (λ (l : Lanes). option_map (step_turn c.args.p (look_values x (v.value c.args.p))) c.uncut_step.result
    ≡ robin_at (g.F.Floor.script c.args.floor.now) c.args.p x l (v.value c.args.p))) tells.1 c.uncut_step.ensures in
    let e = there ∙ robin_found _ _ _ c.args.p past c.index.result.now v tells.0 b i.follows tells.1 i.same held u in
    let f = ap (λ (values : List ℕ). option_map (step_turn c.args.p values) c.uncut_step.result)
    (sym (values_found _ _ c.args.p past c.index.result.now v b i.follows held)) ∙ e in
    subst (λ (x : CpusState). option_map (step_turn c.args.p (found_values x.script c.args.p past)) c.uncut_step.result
    ≡ robin_of x.script x.limit c.args.p past) c.self.view_is f
