use Rattle.std.proofs.Common.{add-one, ap, arith, suc, sym, ◌+◌, ◌-◌, ◌<◌, ◌∙◌, ◌≡◌, ℕ}
use Rattle.std.specs.Prelude.{false, true}
use Rattle.nt_event.specs.Numbers.{cpu}
use Rattle.nt_cpus.specs.States.{CpusState}
use Rattle.nt_cpus.proofs.Choosing.{are_done, done_here, done_none, present}
use Rattle.nt_cpus.proofs.processors.Processors.settled.Goals as goal

pub returns-then-is_some : goal.returns-then-is_some
returns-then-is_some g c past h =
    let s : CpusState = c.args.self.now in
    let n = ap (λ (x : CpusState). x.script.cpus) c.self.view_is in
    let t = c.loop-p-test.true in
    let i = c.loop-p.p in
    let e : s.script.cpus - i ≡ suc (s.script.cpus - (i + 1)) = omega (arith, n, t) in
    let below : i < s.script.cpus = omega (arith, n, t) in
    let turn = c.robin_of.ensures past h ∙ present s.script (cpu i) _ below in
    sym (c.loop-p.invariant past h ∙ (ap (λ (k : ℕ). are_done s.script s.limit i k past) e
    ∙ done_here s.script s.limit i (s.script.cpus - (i + 1)) past c.robin_of.result true h.run turn (sym c.is_some.ensures ∙ c.if-is_some.true)))

pub loop-p-preserved : goal.loop-p-preserved
loop-p-preserved g c past h =
    let s : CpusState = c.args.self.now in
    let n = ap (λ (x : CpusState). x.script.cpus) c.self.view_is in
    let t = c.loop-p-test.true in
    let i = c.loop-p.p in
    let e : s.script.cpus - i ≡ suc (s.script.cpus - (i + 1)) = omega (arith, n, t) in
    let below : i < s.script.cpus = omega (arith, n, t) in
    let turn = c.robin_of.ensures past h ∙ present s.script (cpu i) _ below in
    c.loop-p.invariant past h ∙ (ap (λ (k : ℕ). are_done s.script s.limit i k past) e
    ∙ (done_here s.script s.limit i (s.script.cpus - (i + 1)) past c.robin_of.result false h.run turn (sym c.is_some.ensures ∙ c.if-is_some.false)
    ∙ ap (λ (k : ℕ). are_done s.script s.limit k (s.script.cpus - (i + 1)) past) (sym (add-one i))))

pub returns : goal.returns
returns g c past h =
    let s : CpusState = c.args.self.now in
    let n = ap (λ (x : CpusState). x.script.cpus) c.self.view_is in
    let t = c.loop-p-test.false in
    let i = c.loop-p.p in
    let e : s.script.cpus - i ≡ 0 = omega (arith, n, t) in
    sym (c.loop-p.invariant past h ∙ (ap (λ (k : ℕ). are_done s.script s.limit i k past) e ∙ done_none s.script s.limit i past))
