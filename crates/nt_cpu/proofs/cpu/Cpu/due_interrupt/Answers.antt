use Rattle.std.proofs.Common.{ap, subst, sym, ◌<◌, ◌∙◌, ◌≡◌, ℕ}
use Rattle.std.specs.Prelude.{IfSome, Option, find}
use Rattle.nt_event.specs.Classes.{interrupt_classes}
use Rattle.nt_event.specs.Jobs.{level_at, may_interrupt}
use Rattle.nt_event.specs.Lists.{value_at}
use Rattle.nt_cpu.specs.Due.{above_level, greatest_due}
use Rattle.nt_cpu.specs.Insides.{state_in}
use Rattle.nt_cpu.specs.States.{CpuState}
use Rattle.nt_cpu.proofs.Dues.{due_class, due_found}
use Rattle.nt_cpu.proofs.cpu.Cpu.due_interrupt.Goals as goal

pub returns-clause-value : goal.returns-clause-value
returns-clause-value c =
    let i = c.self.inside in
    let level = c.number.ensures.same ∙ (c.requires ∙ ap (λ (x : CpuState). level_at x.own) (sym c.self.view_is)) in
    let here : c.above_level.result ≡ above_level (level_at (state_in i).own) (greatest_due i.seen i.kept.served) = c.above_level.ensures
    ∙ (ap (λ (o : Option ℕ). above_level c.number.result o) c.self.invariant.due
    ∙ ap (λ (n : ℕ). above_level n (greatest_due i.seen i.kept.served)) level) in
    subst (λ (x : CpuState). c.above_level.result ≡ find (may_interrupt x.own) interrupt_classes) c.self.view_is
    (here ∙ sym (due_found (level_at (state_in i).own) i.seen i.kept.served))

pub returns-clause-class : goal.returns-clause-class
returns-clause-class c =
    let i = c.self.inside in
    let here = c.above_level.ensures ∙ ap (λ (o : Option ℕ). above_level c.number.result o) c.self.invariant.due in
    subst (λ (o : Option ℕ). IfSome o (λ n. n < 16)) (sym here) (due_class c.number.result i.seen i.kept.served).0

pub returns-clause-asked : goal.returns-clause-asked
returns-clause-asked c =
    let i = c.self.inside in
    let here = c.above_level.ensures ∙ ap (λ (o : Option ℕ). above_level c.number.result o) c.self.invariant.due in
    subst (λ (x : CpuState). IfSome c.above_level.result (λ n. 0 < value_at x.own.seen n)) c.self.view_is
    (subst (λ (o : Option ℕ). IfSome o (λ n. 0 < value_at i.seen n)) (sym here) (due_class c.number.result i.seen i.kept.served).1)
