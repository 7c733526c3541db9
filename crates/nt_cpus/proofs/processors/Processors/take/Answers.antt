use Rattle.std.proofs.Common.{ap, arith, subst, sym, ◌∙◌, ◌≡◌, ◌<◌}
use Rattle.std.specs.Prelude.{Err, Ok, Result, true}
use Rattle.nt_event.specs.declared.events.ScheduleKind.{ScheduleKind}
use Rattle.nt_event.specs.declared.numbers.CpuNo.{CpuNo}
use Rattle.nt_event.specs.Step.{cpu_at, step}
use Rattle.nt_cpu.specs.Choices.{turn_by}
use Rattle.nt_cpu.specs.Runs.{is_asked}
use Rattle.nt_cpu.specs.States.{CpuState}
use Rattle.nt_cpu.specs.Turns.{IsTurnRefused, IsTurned}
use Rattle.nt_cpu.specs.declared.turn.TurnRefusal.{TurnRefusal}
use Rattle.nt_cpus.specs.Following.{AreAfter}
use Rattle.nt_cpus.specs.Refusals.{kind_of}
use Rattle.nt_cpus.specs.States.{CpusState}
use Rattle.nt_cpus.proofs.Holding.{cpus_held}
use Rattle.nt_cpus.proofs.Turning.{taken_after, taken_step, taker_held, taker_served, turn_cpu, untaken_step}
use Rattle.nt_cpus.proofs.processors.Processors.take.Goals as goal

abbrev failed : TurnRefusal → Result (Unit {0}) TurnRefusal
failed z = Err z

pub index_mut-requires : goal.index_mut-requires
index_mut-requires g c =
    let i = subst (λ (x : CpusState). AreAfter c.requires.after.0 x (g.F.Floor.script c.args.floor.now) (g.F.Words.view c.args.floor.now)) (sym c.self.view_is)
    c.requires.after.1 in
    let n = cpus_held _ _ _ _ i.every in
    let o = c.self.inside.cpus.ok in
    let b : c.args.cpu.0 < c.self.inside.script.now.cpus = subst (λ (x : CpusState). c.args.cpu.0 < x.script.cpus)
    (sym c.self.view_is) c.requires.cpu in
    omega (arith, n, o, b)

pub choose_into-requires-clause-script : goal.choose_into-requires-clause-script
choose_into-requires-clause-script g c =
    let i = subst (λ (x : CpusState). AreAfter c.requires.after.0 x (g.F.Floor.script c.args.floor.now) (g.F.Words.view c.args.floor.now)) (sym c.self.view_is)
    c.requires.after.1 in
    let t = turn_by c.args.cpu c.args.choice.now in
    let q = turn_cpu c.args.cpu c.args.choice.now in
    let b : (cpu_at t).0 < c.self.inside.script.now.cpus = subst (λ (x : CpusState). (cpu_at t).0 < x.script.cpus)
    (sym c.self.view_is) (subst (λ (p : CpuNo). p.0 < c.args.self.now.script.cpus) q c.requires.cpu) in
    let h = taker_held _ _ _ _ t c.args.cpu _ _ i b q c.index_mut.ensures.value in
    i.same ∙ sym (ap (λ (x : CpuState). x.script) h)

pub choose_into-requires-clause-serves : goal.choose_into-requires-clause-serves
choose_into-requires-clause-serves g c =
    let i = subst (λ (x : CpusState). AreAfter c.requires.after.0 x (g.F.Floor.script c.args.floor.now) (g.F.Words.view c.args.floor.now)) (sym c.self.view_is)
    c.requires.after.1 in
    let t = turn_by c.args.cpu c.args.choice.now in
    let q = turn_cpu c.args.cpu c.args.choice.now in
    let b : (cpu_at t).0 < c.self.inside.script.now.cpus = subst (λ (x : CpusState). (cpu_at t).0 < x.script.cpus)
    (sym c.self.view_is) (subst (λ (p : CpuNo). p.0 < c.args.self.now.script.cpus) q c.requires.cpu) in
    let h = taker_held _ _ _ _ t c.args.cpu _ _ i b q c.index_mut.ensures.value in
    taker_served _ _ _ _ t _ i b h

pub returns-clause-ok : goal.returns-clause-ok
returns-clause-ok g c past k =
    let v = g.F.Words.view c.args.floor.now in
    let w = g.F.Words.view c.choose_into.new.floor in
    let i = subst (λ (x : CpusState). AreAfter past x (g.F.Floor.script c.args.floor.now) v) (sym c.self.view_is) k in
    let t = turn_by c.args.cpu c.args.choice.now in
    let q = turn_cpu c.args.cpu c.args.choice.now in
    let b : (cpu_at t).0 < c.self.inside.script.now.cpus = subst (λ (x : CpusState). (cpu_at t).0 < x.script.cpus)
    (sym c.self.view_is) (subst (λ (p : CpuNo). p.0 < c.args.self.now.script.cpus) q c.requires.cpu) in
    let a = subst (λ (x : CpusState). is_asked x.script t past ≡ true) (sym c.self.view_is) (c.requires.asked past k) in
    let h = taker_held _ _ _ _ t c.args.cpu _ _ i b q c.index_mut.ensures.value in
    let m = c.in_default.ensures.ok in
    let mine = ap (λ (x : CpuState). x.cpu) h ∙ sym q in
    let x = c.index_mut.result.now in
    let d = c.choose_into.new.self in
    let turned = subst (λ (p : CpuNo). IsTurned x d (turn_by p c.args.choice.now) m.0 m.1 c.choose_into.new.event v w) mine m.2.0 in
    let tells = g.met.F.OpenFloor.tells c.choose_into.new.floor in
    let s = taken_step past _ _ v w t _ c.choose_into.new.self m.0 m.1 c.choose_into.new.event i b a h turned in (
      subst (λ (x : CpusState). step x.script x.limit t past ≡ Ok c.choose_into.new.event) c.self.view_is s,
      taken_after past _ _ _ v w t c.args.cpu _ c.choose_into.new.self m.0 m.1 c.choose_into.new.event tells.0 i b a q h turned tells.1
          c.in_default.ensures.script,
    )

pub returns-in-Err-clause-err : goal.returns-in-Err-clause-err
returns-in-Err-clause-err g c past k =
    let v = g.F.Words.view c.args.floor.now in
    let i = subst (λ (x : CpusState). AreAfter past x (g.F.Floor.script c.args.floor.now) v) (sym c.self.view_is) k in
    let t = turn_by c.args.cpu c.args.choice.now in
    let q = turn_cpu c.args.cpu c.args.choice.now in
    let b : (cpu_at t).0 < c.self.inside.script.now.cpus = subst (λ (x : CpusState). (cpu_at t).0 < x.script.cpus)
    (sym c.self.view_is) (subst (λ (p : CpuNo). p.0 < c.args.self.now.script.cpus) q c.requires.cpu) in
    let a = subst (λ (x : CpusState). is_asked x.script t past ≡ true) (sym c.self.view_is) (c.requires.asked past k) in
    let h = taker_held _ _ _ _ t c.args.cpu _ _ i b q c.index_mut.ensures.value in
    let k = c.in-Err.ensures.err in
    let mine = ap (λ (x : CpuState). x.cpu) h ∙ sym q in
    let refused = subst (λ (p : CpuNo). IsTurnRefused c.index_mut.result.now (turn_by p c.args.choice.now) k.0 c.in-Err.refusal v) mine k.1.0 in
    let s = untaken_step past _ _ v t _ k.0 c.in-Err.refusal i b a h refused
    (λ q. c.in-Err.ensures.memory i.follows.alone (ap (λ (z : TurnRefusal). failed z) q)) in
    subst (λ (x : CpusState). step x.script x.limit t past ≡ Err (kind_of c.core_refusal.result)) c.self.view_is
    (s ∙ ap (λ (z : ScheduleKind). Err z) (sym c.core_refusal.ensures))
