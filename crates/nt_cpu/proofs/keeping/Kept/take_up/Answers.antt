use Rattle.std.proofs.Common.{ap, arith, sym, ◌∙◌}
use Rattle.std.proofs.lemmas.Bool.Decides.{nat_tests}
use Rattle.nt_event.specs.declared.events.What.{What}
use Rattle.nt_event.specs.Lists.{table, value_at}
use Rattle.nt_event.specs.Own.{fire_after}
use Rattle.nt_event.specs.Regions.{sweep_after}
use Rattle.nt_event.specs.Requests.{served_after, serves}
use Rattle.nt_cpu.proofs.Served.{call_serves, call_serves_none, serves_below, serves_none, serves_try}
use Rattle.nt_cpu.proofs.keeping.Kept.take_up.Goals as goal

pub returns-in-Switch-clause-served : goal.returns-in-Switch-clause-served
returns-in-Switch-clause-served c =
    serves_none c.args.what.now c.args.seen.now c.args.self.now.served c.requires (λ k. ap (serves k) c.in-Switch.is)

pub returns-in-Expire-clause-served : goal.returns-in-Expire-clause-served
returns-in-Expire-clause-served c =
    serves_none c.args.what.now c.args.seen.now c.args.self.now.served c.requires (λ k. ap (serves k) c.in-Expire.is)

pub returns-in-Fire-clause-served : goal.returns-in-Fire-clause-served
returns-in-Fire-clause-served c =
    serves_none c.args.what.now c.args.seen.now c.args.self.now.served c.requires (λ k. ap (serves k) c.in-Fire.is)

pub returns-then-is_spin-clause-served : goal.returns-then-is_spin-clause-served
returns-then-is_spin-clause-served c =
    let k = c.in-Call in
    c.serve-then-is_spin.ensures
    ∙ serves_try c.args.what.now c.args.seen.now c.args.self.now.served c.requires
    (λ i. ap (serves i) k.is ∙ call_serves k.frame k.command k.reply i (sym c.is_spin.ensures ∙ c.if-is_spin.true))

pub returns-else-is_spin-clause-served : goal.returns-else-is_spin-clause-served
returns-else-is_spin-clause-served c =
    let k = c.in-Call in
    serves_none c.args.what.now c.args.seen.now c.args.self.now.served c.requires
    (λ i. ap (serves i) k.is ∙ call_serves_none k.frame k.command k.reply i (sym c.is_spin.ensures ∙ c.if-is_spin.false))

pub returns-in-Free-clause-served : goal.returns-in-Free-clause-served
returns-in-Free-clause-served c =
    serves_none c.args.what.now c.args.seen.now c.args.self.now.served c.requires (λ k. ap (serves k) c.in-Free.is)

pub returns-in-Rest-clause-served : goal.returns-in-Rest-clause-served
returns-in-Rest-clause-served c =
    serves_none c.args.what.now c.args.seen.now c.args.self.now.served c.requires (λ k. ap (serves k) c.in-Rest.is)

pub returns-in-Look-clause-served : goal.returns-in-Look-clause-served
returns-in-Look-clause-served c =
    serves_none c.args.what.now c.args.seen.now c.args.self.now.served c.requires (λ k. ap (serves k) c.in-Look.is)

pub returns-in-Normal-clause-served : goal.returns-in-Normal-clause-served
returns-in-Normal-clause-served c =
    serves_none c.args.what.now c.args.seen.now c.args.self.now.served c.requires (λ k. ap (serves k) c.in-Normal.is)

pub returns-in-End-clause-served : goal.returns-in-End-clause-served
returns-in-End-clause-served c =
    serves_none c.args.what.now c.args.seen.now c.args.self.now.served c.requires (λ k. ap (serves k) c.in-End.is)

pub returns-in-Rewait-clause-served : goal.returns-in-Rewait-clause-served
returns-in-Rewait-clause-served c =
    serves_none c.args.what.now c.args.seen.now c.args.self.now.served c.requires (λ k. ap (serves k) c.in-Rewait.is)

pub returns-in-Flush-clause-served : goal.returns-in-Flush-clause-served
returns-in-Flush-clause-served c =
    serves_none c.args.what.now c.args.seen.now c.args.self.now.served c.requires (λ k. ap (serves k) c.in-Flush.is)

pub returns-in-Gone-clause-served : goal.returns-in-Gone-clause-served
returns-in-Gone-clause-served c =
    serves_none c.args.what.now c.args.seen.now c.args.self.now.served c.requires (λ k. ap (serves k) c.in-Gone.is)

pub returns-in-Begin-clause-served : goal.returns-in-Begin-clause-served
returns-in-Begin-clause-served c =
    let k = c.in-Begin in
    c.begin.ensures.served k.from
    ∙ ap (λ (w : What). table 16 (λ i. served_after w i (value_at c.args.seen.now i) (value_at c.args.self.now.served i))) (sym k.is)

pub returns-then-is_spin-clause-sweep : goal.returns-then-is_spin-clause-sweep
returns-then-is_spin-clause-sweep c =
    let k = c.in-Call in
    c.sweep_after-self.ensures k.frame ∙ ap (λ (w : What). sweep_after w c.args.self.now.sweep) (sym k.is)

pub returns-else-is_spin-clause-sweep : goal.returns-else-is_spin-clause-sweep
returns-else-is_spin-clause-sweep c =
    let k = c.in-Call in
    c.sweep_after-self.ensures k.frame ∙ ap (λ (w : What). sweep_after w c.args.self.now.sweep) (sym k.is)

pub returns-after-class-ne-DISPATCH-clause-interrupts : goal.returns-after-class-ne-DISPATCH-clause-interrupts
returns-after-class-ne-DISPATCH-clause-interrupts c h =
    serves_below c.args.self.now.served c.args.seen.now c.serve.new.served c.in-Clean.class (grind (arith, nat_tests)) c.serve.ensures

pub returns-in-Begin-clause-sweep : goal.returns-in-Begin-clause-sweep
returns-in-Begin-clause-sweep c =
    let k = c.in-Begin in
    c.begin.ensures.sweep k.from ∙ ap (λ (w : What). sweep_after w c.args.self.now.sweep) (sym k.is)

pub returns-in-Expire-clause-fire : goal.returns-in-Expire-clause-fire
returns-in-Expire-clause-fire c =
    let k = c.in-Expire in
    c.expired-self.ensures k.from c.args.self.now.fire
    ∙ ap (λ (w : What). fire_after c.args.script.now w c.args.self.now.fire) (sym k.is)
