use Rattle.std.proofs.Common.{ap, arith, suc, sym, ◌+◌, ◌-◌, ◌∙◌, ◌≡◌, ℕ}
use Rattle.nt_event.specs.Robin.{robin_from}
use Rattle.nt_event.specs.Numbers.{cpu}
use Rattle.nt_cpus.specs.States.{CpusState}
use Rattle.nt_cpus.proofs.Choosing.{no_step, robin_here, robin_next, some_step}
use Rattle.nt_cpus.proofs.processors.Processors.first_chosen.Goals as goal

pub returns-in-Some-clause-turn : goal.returns-in-Some-clause-turn
returns-in-Some-clause-turn g c past h l =
    let s : CpusState = c.args.self.now in
    let n = ap (λ (x : CpusState). x.script.cpus) c.self.view_is in
    let t = c.loop-test.true in
    let i = c.loop.counter in
    let e : s.script.cpus - i ≡ suc (s.script.cpus - (i + 1)) = omega (arith, n, t) in
    let turn = some_step s.script (cpu c.loop.p) past _ _ _ c.in-Some.is (c.step_of.ensures past h) in
    sym (c.loop.invariant.rest past h l ∙ (ap (λ (k : ℕ). robin_from s.script s.limit k c.loop.p past) e
    ∙ robin_here s.script s.limit (s.script.cpus - (i + 1)) c.loop.p past _ turn))

pub returns-in-Some-clause-own : goal.returns-in-Some-clause-own
returns-in-Some-clause-own g c past h =
    some_step c.args.self.now.script (cpu c.loop.p) past _ _ _ c.in-Some.is (c.step_of.ensures past h)

pub loop-preserved : goal.loop-preserved
loop-preserved g c =
    let s : CpusState = c.args.self.now in
    let n = ap (λ (x : CpusState). x.script.cpus) c.self.view_is in
    let t = c.loop-test.true in
    let i = c.loop.counter in
    let e : s.script.cpus - i ≡ suc (s.script.cpus - (i + 1)) = omega (arith, n, t) in
    record {
      rest = λ past h l. let none = no_step s.script (cpu c.loop.p) past _ _ c.in_default.is (c.step_of.ensures past h) in
          c.loop.invariant.rest past h l ∙ (ap (λ (k : ℕ). robin_from s.script s.limit k c.loop.p past) e
          ∙ (robin_next s.script s.limit (s.script.cpus - (i + 1)) c.loop.p past none
          ∙ ap (λ (p : ℕ). robin_from s.script s.limit (s.script.cpus - (i + 1)) p past) (sym c.after-p.ensures.next)));
      below = c.after-p.ensures.below;
    }
