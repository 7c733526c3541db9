use Rattle.std.proofs.Common.{ap, arith, subst, sym, ◌∙◌, ◌≡◌, ◌<◌}
use Rattle.std.specs.Prelude.{List, Ok, Some, refl, true, ℕ}
use Rattle.nt_event.specs.declared.events.Turn.TheVariants.{Look as LookTurn}
use Rattle.nt_event.specs.declared.numbers.CpuNo.{CpuNo}
use Rattle.nt_event.specs.Robin.{look_values, robin_of}
use Rattle.nt_event.specs.Step.{step}
use Rattle.nt_cpu.specs.Runs.{is_asked}
use Rattle.nt_cpu.specs.States.{CpuState}
use Rattle.nt_cpu.specs.Turns.{IsTurned}
use Rattle.nt_cpus.specs.Following.{AreAfter}
use Rattle.nt_cpus.specs.States.{CpusState}
use Rattle.nt_cpus.specs.Steps.{found_values, look_of}
use Rattle.nt_cpus.proofs.Choosing.{look_ready, values_found}
use Rattle.nt_cpus.proofs.Holding.{cpus_held}
use Rattle.nt_cpus.proofs.Turning.{rule_accepted, taken_after, taken_asked, taken_step, taker_held, taker_served}
use Rattle.nt_cpus.proofs.processors.Processors.look.Goals as goal

pub index_mut-requires : goal.index_mut-requires
index_mut-requires g c =
    let v = g.F.Words.view c.args.floor.now in
    let past = c.requires.sound.0 in
    let i = subst (λ (x : CpusState). AreAfter past x (g.F.Floor.script c.args.floor.now) v) (sym c.self.view_is) c.requires.sound.1 in
    let b : c.args.cpu.0 < c.self.inside.script.now.cpus = subst (λ (x : CpusState). c.args.cpu.0 < x.script.cpus) (sym c.self.view_is) c.requires.below in
    let n = cpus_held _ _ _ _ i.every in
    let o = c.self.inside.cpus.ok in
    omega (arith, n, o, b)

pub look_into-requires-clause-script : goal.look_into-requires-clause-script
look_into-requires-clause-script g c =
    let v = g.F.Words.view c.args.floor.now in
    let past = c.requires.sound.0 in
    let i = subst (λ (x : CpusState). AreAfter past x (g.F.Floor.script c.args.floor.now) v) (sym c.self.view_is) c.requires.sound.1 in
    let b : c.args.cpu.0 < c.self.inside.script.now.cpus = subst (λ (x : CpusState). c.args.cpu.0 < x.script.cpus) (sym c.self.view_is) c.requires.below in
    let h = taker_held _ _ _ _ (look_of c.self.inside.script.now c.args.cpu past) c.args.cpu _ _ i b refl c.index_mut.ensures.value in
    i.same ∙ sym (ap (λ (x : CpuState). x.script) h)

pub look_into-requires-clause-serves : goal.look_into-requires-clause-serves
look_into-requires-clause-serves g c =
    let v = g.F.Words.view c.args.floor.now in
    let past = c.requires.sound.0 in
    let i = subst (λ (x : CpusState). AreAfter past x (g.F.Floor.script c.args.floor.now) v) (sym c.self.view_is) c.requires.sound.1 in
    let b : c.args.cpu.0 < c.self.inside.script.now.cpus = subst (λ (x : CpusState). c.args.cpu.0 < x.script.cpus) (sym c.self.view_is) c.requires.below in
    let h = taker_held _ _ _ _ (look_of c.self.inside.script.now c.args.cpu past) c.args.cpu _ _ i b refl c.index_mut.ensures.value in
    taker_served _ _ _ _ (look_of c.self.inside.script.now c.args.cpu past) _ i b h

pub look_into-requires-clause-cpu : goal.look_into-requires-clause-cpu
look_into-requires-clause-cpu g c =
    let v = g.F.Words.view c.args.floor.now in
    let past = c.requires.sound.0 in
    let i = subst (λ (x : CpusState). AreAfter past x (g.F.Floor.script c.args.floor.now) v) (sym c.self.view_is) c.requires.sound.1 in
    let b : c.args.cpu.0 < c.self.inside.script.now.cpus = subst (λ (x : CpusState). c.args.cpu.0 < x.script.cpus) (sym c.self.view_is) c.requires.below in
    let h = taker_held _ _ _ _ (look_of c.self.inside.script.now c.args.cpu past) c.args.cpu _ _ i b refl c.index_mut.ensures.value in
    let cpus = i.follows.cpus in
    subst (λ (x : CpuState). x.cpu.0 < v.cpus) (sym h) (omega (arith, cpus, b))

pub look_into-requires-clause-uncut : goal.look_into-requires-clause-uncut
look_into-requires-clause-uncut g c =
    let v = g.F.Words.view c.args.floor.now in
    let past = c.requires.sound.0 in
    let i = subst (λ (x : CpusState). AreAfter past x (g.F.Floor.script c.args.floor.now) v) (sym c.self.view_is) c.requires.sound.1 in
    let b : c.args.cpu.0 < c.self.inside.script.now.cpus = subst (λ (x : CpusState). c.args.cpu.0 < x.script.cpus) (sym c.self.view_is) c.requires.below in
    let h = taker_held _ _ _ _ (look_of c.self.inside.script.now c.args.cpu past) c.args.cpu _ _ i b refl c.index_mut.ensures.value in
    let own = subst (λ (x : CpusState). robin_of x.script x.limit c.args.cpu past ≡ Some (look_of x.script c.args.cpu past)) (sym c.self.view_is)
    (c.requires.own past c.requires.sound.1) in
    let ready = look_ready _ _ c.args.cpu past c.index_mut.result.now v b i.follows h own in
    ready.0

pub look_into-requires-clause-behind : goal.look_into-requires-clause-behind
look_into-requires-clause-behind g c =
    let v = g.F.Words.view c.args.floor.now in
    let past = c.requires.sound.0 in
    let i = subst (λ (x : CpusState). AreAfter past x (g.F.Floor.script c.args.floor.now) v) (sym c.self.view_is) c.requires.sound.1 in
    let b : c.args.cpu.0 < c.self.inside.script.now.cpus = subst (λ (x : CpusState). c.args.cpu.0 < x.script.cpus) (sym c.self.view_is) c.requires.below in
    let h = taker_held _ _ _ _ (look_of c.self.inside.script.now c.args.cpu past) c.args.cpu _ _ i b refl c.index_mut.ensures.value in
    let own = subst (λ (x : CpusState). robin_of x.script x.limit c.args.cpu past ≡ Some (look_of x.script c.args.cpu past)) (sym c.self.view_is)
    (c.requires.own past c.requires.sound.1) in
    let ready = look_ready _ _ c.args.cpu past c.index_mut.result.now v b i.follows h own in
    ready.1

pub returns-clause-event : goal.returns-clause-event
returns-clause-event g c past k =
    let v = g.F.Words.view c.args.floor.now in
    let w = g.F.Words.view c.look_into.new.floor in
    let i = subst (λ (x : CpusState). AreAfter past x (g.F.Floor.script c.args.floor.now) v) (sym c.self.view_is) k in
    let s = c.self.inside.script.now in
    let t = look_of s c.args.cpu past in
    let b : c.args.cpu.0 < s.cpus = subst (λ (x : CpusState). c.args.cpu.0 < x.script.cpus) (sym c.self.view_is) c.requires.below in
    let own = subst (λ (x : CpusState). robin_of x.script x.limit c.args.cpu past ≡ Some (look_of x.script c.args.cpu past)) (sym c.self.view_is)
    (c.requires.own past k) in
    let e = rule_accepted s c.self.inside.limit c.args.cpu past t i.run b own in
    let a = taken_asked s c.self.inside.limit t past e.0 b e.1 in
    let h = taker_held _ _ _ _ t c.args.cpu _ _ i b refl c.index_mut.ensures.value in
    let m = c.look_into.ensures.ok in
    let x = c.index_mut.result.now in
    let d = c.look_into.new.self in
    let mine : x.cpu ≡ c.args.cpu = ap (λ (x : CpuState). x.cpu) h in
    let found : look_values x.own (v.value c.args.cpu) ≡ found_values s c.args.cpu past = values_found _ _ c.args.cpu past x v b i.follows h in
    let turned = subst (λ (l : List ℕ). IsTurned x d (LookTurn c.args.cpu (record { value = l })) m.0 m.1 c.look_into.new.event v w) found
    (subst (λ (p : CpuNo). IsTurned x d (LookTurn p (record { value = look_values x.own (v.value p) })) m.0 m.1 c.look_into.new.event v w) mine m.2) in
    let tells = g.met.F.OpenFloor.tells c.look_into.new.floor in
    let one = taken_step past _ _ v w t _ d m.0 m.1 c.look_into.new.event i b a h turned in (
      subst (λ (x : CpusState). step x.script x.limit (look_of x.script c.args.cpu past) past ≡ Ok c.look_into.new.event) c.self.view_is one,
      taken_after past _ _ _ v w t c.args.cpu _ d m.0 m.1 c.look_into.new.event tells.0 i b a refl h turned tells.1 c.look_into.ensures.script,
    )
